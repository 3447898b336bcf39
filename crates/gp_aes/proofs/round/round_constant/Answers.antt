use Rattle.gp_aes.proofs.TableFacts.{constant_at}
use Rattle.gp_aes.proofs.round.round_constant.Goals as goal

pub returns : goal.returns
returns c = constant_at c.args.j c.requires.first c.requires.last
