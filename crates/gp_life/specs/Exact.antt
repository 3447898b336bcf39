-- What a life acts on: each fresh frame, exactly as the rules say, and nothing else.
use Rattle.std.specs.Prelude.{◌≡◌, ℕ, ◌+◌, List, [], ◌∷◌, ◌++◌, map, length, slice_get, Option, Some, Ok, ◌==◌, if◌then◌else◌}
use Rattle.gp_rows.specs.declared.row.Row.{Row}
use Rattle.gp_translate.specs.Acts.{acts}
use Rattle.gp_script.specs.declared.report.Entry.{Entry}
use Rattle.gp_script.specs.declared.report.Report.{Report}
use Rattle.gp_script.specs.declared.report.Report.TheVariants as reports
use Rattle.gp_script.specs.declared.sink_script.SinkAction.TheVariants.{Hear}
use Rattle.gp_script.specs.declared.sink_script.SinkEvent.TheVariants.{Line}
use Rattle.gp_ideal.specs.declared.ledger.Known.{Known}
use Rattle.gp_ideal.specs.Fresh.{Fresh}
use Rattle.gp_ideal.specs.Heard.{id_of}
use Rattle.gp_world.specs.Life.{Life, Lived, own_name}
use Rattle.gp_world.specs.Properties.{Takes, acted_reports, unpaired_reports, Rising, Once}
use Rattle.gp_world.specs.World.{entries}
use Rattle.gp_life.specs.Lived.{asked, life_of, next_line}

-- what a sink reports of a fresh frame: it is acted on, by its rules; or its device is unpaired, and proxies are told
abbrev pub fresh_reports : Life → Known → ℕ → List ℕ → List Report
fresh_reports life k counter command =
    if id_of command == 0xE1 then unpaired_reports life.sent k counter else acted_reports life.sink.rules k counter command

-- In this line of the script, behind these lines, the octets reach the sink.
pub record Hears (rows : List Row) (front : List (List ℕ)) (line : List ℕ) (octets : List ℕ) (life : Life) : Type 0 where
  pub before : Lived
  pub lived : life_of rows front ≡ Ok before
  pub runs : before.life ≡ Some life
  pub reading : ℕ
  pub asks : asked line ≡ Some (Line reading (Hear octets))

-- whenever a fresh frame reaches the sink, the line reports that, and nothing else
abbrev pub ActsOnFresh : List Row → List (List ℕ) → Type 0
ActsOnFresh rows script = (front : List (List ℕ)) (line : List ℕ) (back : List (List ℕ)) (octets : List ℕ) (life : Life) (k : Known) (counter : ℕ) (command : List ℕ) →
    script ≡ front ++ line ∷ back → (hears : Hears rows front line octets life) → Fresh life.sink.ledger octets k counter command →
    (made : Lived) × (life_of rows (front ++ line ∷ []) ≡ Ok made)
    × (made.told ≡ hears.before.told ++ entries (length front + 1) (Some own_name) (fresh_reports life k counter command))

-- An entry says that a frame was taken only where a fresh frame of that row and counter reaches the sink in that line.
pub record IsOfFresh (rows : List Row) (script : List (List ℕ)) (entry : Entry) (row counter : ℕ) : Type 0 where
  pub front : List (List ℕ)
  pub line : List ℕ
  pub back : List (List ℕ)
  pub parts : script ≡ front ++ line ∷ back
  pub number : entry.line ≡ length front + 1
  pub octets : List ℕ
  pub life : Life
  pub hears : Hears rows front line octets life
  pub k : Known
  pub command : List ℕ
  pub fresh : Fresh life.sink.ledger octets k counter command
  pub row_is : k.row ≡ row

abbrev pub TakesOnlyFresh : List Row → List (List ℕ) → List Entry → Type 0
TakesOnlyFresh rows script report = (i : ℕ) (entry : Entry) (name : List ℕ) (row counter : ℕ) →
    slice_get report i ≡ Some entry → Takes name row counter entry → IsOfFresh rows script entry row counter

-- what holds of every life
pub record HasProperties (rows : List Row) (script : List (List ℕ)) (report : List Entry) : Type 0 where
  -- along the report the counters of a row rise, and no counter of a row is taken twice
  pub rising : Rising report
  pub once : Once report
  -- each fresh frame is acted on exactly as the rules say, and nothing else is
  pub acts : ActsOnFresh rows script
  pub only : TakesOnlyFresh rows script report
