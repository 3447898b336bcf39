-- The ideal life of one sink over rows, line by line.
use Rattle.std.specs.Prelude.{ℕ, ◌+◌, List, [], ◌∷◌, ◌++◌, map, Option, Some, None, Result, Ok, Err}
use Rattle.gp_base.specs.Table.{let_ok}
use Rattle.gp_rows.specs.declared.row.Row.{Row}
use Rattle.gp_script.specs.declared.reason.LineReason.{LineReason}
use Rattle.gp_script.specs.declared.reason.LineReason.TheVariants.{Form}
use Rattle.gp_script.specs.declared.sink_script.SinkAction.{SinkAction}
use Rattle.gp_script.specs.declared.sink_script.SinkAction.TheVariants.{Config, Hear, Pair}
use Rattle.gp_script.specs.declared.sink_script.SinkEvent.{SinkEvent}
use Rattle.gp_script.specs.declared.sink_script.SinkEvent.TheVariants.{Nothing, Line}
use Rattle.gp_script.specs.SinkScript.{sink_event_of}
use Rattle.gp_ideal.specs.declared.ledger.Change.{Change}
use Rattle.gp_ideal.specs.Paired.{offered}
use Rattle.gp_world.specs.Life.{Life, Lived, life_step}
use Rattle.gp_world.specs.Sinks.{sink_hears, sink_pairs}
use Rattle.gp_life.specs.Opening.{opening}

-- what a line asks for, where it has a form
unfoldable pub asked : List ℕ → Option SinkEvent
asked line = sink_event_of line

-- before the first line the sink isn't set up, and nothing is reported
abbrev pub unborn : Lived
unborn = record { life = None; told = [] }

-- Behind what was lived comes the line of this number, which asks for this: the life and the whole report afterwards, or why the
-- line is refused.
unfoldable pub next_line : List Row → Lived → ℕ → Option SinkEvent → Result Lived LineReason
next_line rows before number None = Err Form
next_line rows before number (Some event) =
    let_ok (life_step (opening rows) before.life number event) (λ reason. Err reason) (λ made. Ok (record { life = made.life; told = before.told ++ made.told }))

-- and so for lines that ask for these, of which the first has this number
unfoldable pub lived_on : List Row → Lived → ℕ → List (Option SinkEvent) → Result Lived LineReason
lived_on rows before number [] = Ok before
lived_on rows before number (event ∷ others) = let_ok (next_line rows before number event) (λ reason. Err reason) (λ made. lived_on rows made (number + 1) others)

-- what is lived in a whole script, over these rows
abbrev pub life_of : List Row → List (List ℕ) → Result Lived LineReason
life_of rows script = lived_on rows unborn 1 (map asked script)

-- the change of the ledger that a line makes, where it makes one
abbrev pub change_by : Life → SinkAction → Option Change
change_by life (Hear octets) = (sink_hears octets life.sink).change
change_by life (Pair source key kind level device counter) = (sink_pairs (offered life.sink.config source key kind level device) counter life.sink).change
change_by life other = None

abbrev pub change_at : Life → Option SinkEvent → Option Change
change_at life (Some (Line reading action)) = change_by life action
change_at life other = None

-- the line sets the sink up
abbrev pub IsConfig : Option SinkEvent → Type 0
IsConfig (Some (Line reading (Config address ieee mode channel link shared))) = Unit {0}
IsConfig other = ⊥
