use Rattle.std.proofs.Common.{refl, arith}
use Rattle.gp_disk.specs.Fuse.{Stop}
use Rattle.gp_disk.specs.Memory.{memory_fuse}
use Rattle.gp_power.proofs.Fuses.{rearmed_as}
use Rattle.gp_power.proofs.Switching.{arms_with_power, arms_dark}
use Rattle.gp_world.specs.World as ideal
use Rattle.gp_power.proofs.power.Powered.arm_cut.Goals as goal

pub returns-in-On-clause-comes : goal.returns-in-On-clause-comes
returns-in-On-clause-comes c = arms_with_power (ideal.ToCut c.args.commit c.args.calls) (c.requires.some, (let few = c.requires.few in omega arith)) c.args.self.now _ c.in-On.sink c.arm_cut.new.self c.in-On.is refl refl
    (rearmed_as c.from.result c.from-in-On.result c.args.commit c.args.calls Stop (memory_fuse c.arm_cut.new.self.store.disk) (memory_fuse c.in-On.sink.store.disk) c.from.ensures c.from-in-On.ensures c.arm_cut.ensures.fuse)
    c.arm_cut.ensures.disk c.arm_cut.ensures.store c.arm_cut.ensures.same

pub returns-in-Off-clause-comes : goal.returns-in-Off-clause-comes
returns-in-Off-clause-comes c = arms_dark (ideal.ToCut c.args.commit c.args.calls) (c.requires.some, (let few = c.requires.few in omega arith)) c.args.self.now _ c.in-Off.rules c.in-Off.disk c.arm_cut-in-Off.new.self c.in-Off.is refl refl
    (rearmed_as c.from-in-Off.result c.from-in-Off-2.result c.args.commit c.args.calls Stop (memory_fuse c.arm_cut-in-Off.new.self) (memory_fuse c.in-Off.disk) c.from-in-Off.ensures c.from-in-Off-2.ensures c.arm_cut-in-Off.ensures.fuse)
    c.arm_cut-in-Off.ensures.same
