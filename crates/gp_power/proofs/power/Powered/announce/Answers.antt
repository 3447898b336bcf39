use Rattle.std.proofs.Common.{refl}
use Rattle.gp_power.proofs.Answering.{dark_comes}
use Rattle.gp_power.proofs.Quiet.{announced_comes, halted_comes}
use Rattle.gp_world.specs.Sinks.{sink_announces}
use Rattle.gp_power.proofs.power.Powered.announce.Goals as goal

pub returns-in-Ok-clause-comes : goal.returns-in-Ok-clause-comes
returns-in-Ok-clause-comes c = announced_comes c.args.source c.args.self.now c.in-On.sink c.in-Ok.sent c.in-On.is c.in-Ok.ensures.running c.in-Ok.ensures.announced

pub returns-in-Err-clause-comes : goal.returns-in-Err-clause-comes
returns-in-Err-clause-comes c = halted_comes c.args.source c.args.self.now c.in-On.sink c.in-On.is c.in-Err.ensures.fault.1

pub returns-in_default : goal.returns-in_default
returns-in_default c = record { comes = dark_comes (sink_announces c.args.source) c.args.self.now c.args.self.now c.in_default.not-On refl refl; message = tt }
