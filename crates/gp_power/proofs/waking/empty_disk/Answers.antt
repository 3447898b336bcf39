use Rattle.std.proofs.Common.{arith, refl}
use Rattle.gp_power.proofs.Starting.{formats}
use Rattle.gp_power.proofs.waking.empty_disk.Goals as goal

pub unreachable-requires : goal.unreachable-requires
unreachable-requires c = formats _ c.in-Err.field-0 c.in-Ok.disk c.format.new.disk c.args.size (omega arith) (Rattle.std.proofs.Common.ap (λ t. t.size) c.in-Ok.ensures.tally) c.in-Ok.ensures.image c.in-Ok.ensures.fuse c.in-Err.ensures.refused
