use Rattle.std.proofs.Common.{Some, map, take}
use Rattle.gp_world.specs.Sinks.{act_report}
use Rattle.gp_telling.specs.Telling.{Said}
use Rattle.gp_telling.proofs.telling.Telling.act.Given as goal

abbrev pub invariant-loop-act : goal.invariant-loop-act
invariant-loop-act l = Said (Some l.name) (map act_report (take l.act-index l.acts)) l.initial.self l.self
