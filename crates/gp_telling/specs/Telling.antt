-- What is added to the entries of a line. No clause of a public call cites this file: nothing in it has to
-- be believed.
use Rattle.std.specs.Prelude.{◌≡◌, ◌≤◌, ℕ, suc, List, [], ◌∷◌, ◌++◌, Option, vec_capacity}
use Rattle.gp_rows.specs.declared.row.Row.{Row}
use Rattle.gp_script.specs.declared.report.Report.{Report}
use Rattle.gp_script.specs.declared.report.Report.TheVariants as reports
use Rattle.gp_world.specs.World.{entries}
use Rattle.gp_sink.specs.declared.verdict.Verdict.{Verdict}
use Rattle.gp_sink.specs.declared.verdict.Verdict.TheVariants.{Acted}
use Rattle.gp_telling.specs.declared.telling.Telling.{Telling}

-- these reports of a node were added, and there is as much room as before
pub record Said (node : Option (List ℕ)) (reports : List Report) (old new : Telling) : Type 0 where
  pub line : new.line ≡ old.line
  pub added : new.entries.items ≡ old.entries.items ++ entries old.line node reports
  pub room : vec_capacity old.entries ≤ vec_capacity new.entries

-- any verdict but that of a frame that is acted on
abbrev pub HasNoActs : Verdict → Type 0
HasNoActs (Acted row source counter command acts) = ⊥
HasNoActs other = Unit {0}

-- a row as it is listed, and rows, numbered from this one on
abbrev pub listed_row : ℕ → Row → Report
listed_row at row = reports.Row at row.src row.kind row.level row.mode row.group row.device row.live row.floor

abbrev pub listed : ℕ → List Row → List Report
listed at [] = []
listed at (row ∷ rows) = listed_row at row ∷ listed (suc at) rows
