use Rattle.gp_aes.proofs.TableFacts.{mixed_1_at}
use Rattle.gp_aes.proofs.column.mixed_1.Goals as goal

pub returns : goal.returns
returns c = mixed_1_at c.args.octet c.requires
