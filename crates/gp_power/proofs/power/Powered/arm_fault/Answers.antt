use Rattle.std.proofs.Common.{◌∙◌, min, refl, arith}
use Rattle.gp_disk.specs.Fuse.{Fault}
use Rattle.gp_disk.specs.Memory.{memory_fuse}
use Rattle.gp_power.proofs.Fuses.{rearmed_as}
use Rattle.gp_power.proofs.Switching.{arms_with_power, arms_dark}
use Rattle.gp_world.specs.World as ideal
use Rattle.gp_power.proofs.power.Powered.arm_fault.Goals as goal

pub returns-in-On-clause-comes : goal.returns-in-On-clause-comes
returns-in-On-clause-comes c = arms_with_power (ideal.ToFail c.args.commit c.args.calls) (c.requires.some, (let few = c.requires.few in omega arith)) c.args.self.now _ c.in-On.sink c.arm_fault.new.self c.in-On.is refl refl
    (rearmed_as c.from.result c.from-in-On.result c.args.commit (min c.args.calls 3) Fault (memory_fuse c.arm_fault.new.self.store.disk) (memory_fuse c.in-On.sink.store.disk) c.from.ensures (c.from-in-On.ensures ∙ c.min-calls.ensures) c.arm_fault.ensures.fuse)
    c.arm_fault.ensures.disk c.arm_fault.ensures.store c.arm_fault.ensures.same

pub returns-in-Off-clause-comes : goal.returns-in-Off-clause-comes
returns-in-Off-clause-comes c = arms_dark (ideal.ToFail c.args.commit c.args.calls) (c.requires.some, (let few = c.requires.few in omega arith)) c.args.self.now _ c.in-Off.rules c.in-Off.disk c.arm_fault-in-Off.new.self c.in-Off.is refl refl
    (rearmed_as c.from-in-Off.result c.from-in-Off-2.result c.args.commit (min c.args.calls 3) Fault (memory_fuse c.arm_fault-in-Off.new.self) (memory_fuse c.in-Off.disk) c.from-in-Off.ensures (c.from-in-Off-2.ensures ∙ c.min-calls.ensures) c.arm_fault-in-Off.ensures.fuse)
    c.arm_fault-in-Off.ensures.same
