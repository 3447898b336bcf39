use Rattle.gp_aes.proofs.TableFacts.{sub_at}
use Rattle.gp_aes.proofs.column.substitute.Goals as goal

pub returns : goal.returns
returns c = sub_at c.args.octet c.requires
