use Rattle.std.proofs.Common.{refl, subst}
use Rattle.gp_disk.specs.declared.memory.MemoryDisk.{MemoryDisk}
use Rattle.gp_disk.specs.Fuse.{Stop}
use Rattle.gp_disk.specs.Memory.{memory_fuse}
use Rattle.gp_power.specs.Inside.{IsCrashed}
use Rattle.gp_power.proofs.Fuses.{rearmed_as}
use Rattle.gp_power.proofs.Recovering.{cut_again, refused_again}
use Rattle.gp_power.proofs.waking.flicker.Goals as goal

pub returns-in-Ok-clause-cut : goal.returns-in-Ok-clause-cut
returns-in-Ok-clause-cut c = cut_again c.args.calls c.args.disk c.arm_cut.new.self c.in-Ok.store c.crash.result
    (rearmed_as 1 c.from.result 1 c.args.calls Stop (memory_fuse c.arm_cut.new.self) (memory_fuse c.args.disk) refl c.from.ensures c.arm_cut.ensures.fuse)
    c.arm_cut.ensures.same c.in-Ok.ensures.recovered (subst (λ (d : MemoryDisk). IsCrashed d c.crash.result) c.into_disk.ensures c.crash.ensures.crashed)

pub returns-in_default : goal.returns-in_default
returns-in_default c = record {
  cut = refused_again c.args.calls c.args.disk c.arm_cut.new.self c.in-Err.field-0 c.crash-in_default.result
      (rearmed_as 1 c.from.result 1 c.args.calls Stop (memory_fuse c.arm_cut.new.self) (memory_fuse c.args.disk) refl c.from.ensures c.arm_cut.ensures.fuse)
      c.arm_cut.ensures.same c.in-Err.ensures.refused c.in_default.not-NoMemory c.crash-in_default.ensures.crashed;
  armed = tt;
}
