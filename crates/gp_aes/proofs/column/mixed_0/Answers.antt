use Rattle.gp_aes.proofs.TableFacts.{mixed_0_at}
use Rattle.gp_aes.proofs.column.mixed_0.Goals as goal

pub returns : goal.returns
returns c = mixed_0_at c.args.octet c.requires
