use Rattle.gp_world.specs.Step.{acted_on}
use Rattle.gp_net.proofs.Keeping.{stays}
use Rattle.gp_net.proofs.net.Net.play.Goals as goal

pub returns-in_ok-add_sink-in-Sink-clause-steady : goal.returns-in_ok-add_sink-in-Sink-clause-steady
returns-in_ok-add_sink-in-Sink-clause-steady c = c.add_sink.ensures.steady c.args.telling.now.line (stays c.args.self.now c.requires.ready.before c.args.telling.now.line c.requires.ready.steady c.requires.ready.follows)

pub returns-in_ok-add_device-in-Device-clause-steady : goal.returns-in_ok-add_device-in-Device-clause-steady
returns-in_ok-add_device-in-Device-clause-steady c = c.add_device.ensures.steady c.args.telling.now.line (stays c.args.self.now c.requires.ready.before c.args.telling.now.line c.requires.ready.steady c.requires.ready.follows)

pub returns-in-On-clause-comes : goal.returns-in-On-clause-comes
unfolding acted_on
returns-in-On-clause-comes c = λ model h. rw c.in-On.is (c.switch_on.ensures.comes model h)

pub returns-in-OnCut-clause-comes : goal.returns-in-OnCut-clause-comes
unfolding acted_on
returns-in-OnCut-clause-comes c = λ model h. rw c.in-OnCut.is (c.switch_on-in-OnCut.ensures.comes model h)
