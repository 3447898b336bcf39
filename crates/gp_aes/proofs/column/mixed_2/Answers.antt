use Rattle.gp_aes.proofs.TableFacts.{mixed_2_at}
use Rattle.gp_aes.proofs.column.mixed_2.Goals as goal

pub returns : goal.returns
returns c = mixed_2_at c.args.octet c.requires
