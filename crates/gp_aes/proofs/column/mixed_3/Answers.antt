use Rattle.gp_aes.proofs.TableFacts.{mixed_3_at}
use Rattle.gp_aes.proofs.column.mixed_3.Goals as goal

pub returns : goal.returns
returns c = mixed_3_at c.args.octet c.requires
