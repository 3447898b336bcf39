use Rattle.gp_world.specs.Step.{step}
use Rattle.gp_net.proofs.Stepping.{nothing_went}
use Rattle.gp_net.proofs.world.played.Goals as goal

pub returns-in-Nothing-clause-comes : goal.returns-in-Nothing-clause-comes
unfolding step
returns-in-Nothing-clause-comes c = λ model h. rw c.in-Nothing.is (nothing_went c.args.net.now model c.args.telling.now h)

pub returns-in-Line-clause-comes : goal.returns-in-Line-clause-comes
unfolding step
returns-in-Line-clause-comes c = λ model h. rw c.in-Line.is (c.play.ensures.comes model h)
