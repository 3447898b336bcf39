use Rattle.std.proofs.Common.{Some, ◌∷◌, length, take}
use Rattle.gp_script.specs.declared.report.Report.TheVariants.{Rows}
use Rattle.gp_telling.specs.Telling.{Said, listed}
use Rattle.gp_telling.proofs.telling.Telling.list.Given as goal

abbrev pub invariant-loop-at : goal.invariant-loop-at
invariant-loop-at l = Said (Some l.name) (Rows (length l.table) ∷ listed 0 (take l.at l.table)) l.fn.self l.self
