use Rattle.std.proofs.Common.{refl}
use Rattle.gp_disk.specs.MemoryLaws.{memory_holds}
use Rattle.gp_power.specs.Inside.{in_memory}
use Rattle.gp_power.proofs.Starting.{starts, new_sink_of}
use Rattle.gp_power.proofs.waking.started.Goals as goal

pub unreachable-requires : goal.unreachable-requires
unreachable-requires c = c.in_default.not-NoMemory (starts in_memory c.args.disk c.in-Err.refused c.args.disk.content.image.items c.requires.large refl (c.requires.empty _ (memory_holds c.args.disk c.args.disk.content.image.items refl)) c.requires.fuse c.in-Err.ensures.refused)

pub returns-in-Ok : goal.returns-in-Ok
returns-in-Ok c = new_sink_of c.args.config c.args.disk c.in-Ok.sink c.requires.empty c.requires.fuse c.in-Ok.ensures.recovered c.in-Ok.ensures.set_up.0 c.in-Ok.ensures.set_up.1
