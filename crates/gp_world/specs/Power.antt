-- The power of a sink: what comes of an event at a sink that runs, has no power, or is halted.
use Rattle.std.specs.Prelude.{ℕ, ◌-◌, nat_le, Bool, if◌then◌else◌, [], ◌∷◌, length, Option, Some, None}
use Rattle.gp_script.specs.declared.report.Report.TheVariants as reports
use Rattle.gp_translate.specs.declared.rule.Rule.{Rule}
use Rattle.gp_ideal.specs.declared.ledger.Change.{Change}
use Rattle.gp_ideal.specs.Ledger.{rows}
use Rattle.gp_world.specs.Sinks.{sink_rules, sink_lists}
use Rattle.gp_world.specs.World.{Sink, Armed, Unarmed, ToCut, ToFail, Phase, Runs, Dark, Halted, Powered, IsSink, Effect, Out, out, Choice, Fixed, Free, Made}

-- ---- the commit of a change

-- what befalls a commit: nothing; a cut of the power, once so many of its device calls have returned; or a fault of the disk
pub data Fate : Type 0 where
  Passes : Fate
  CutAfter : (calls : ℕ) → Fate
  Fails : Fate

-- what befalls the next commit, and what is armed behind it
abbrev pub fate : Armed → Fate
fate Unarmed = Passes
fate (ToCut commit calls) = if nat_le commit 1 then CutAfter calls else Passes
fate (ToFail commit calls) = if nat_le commit 1 then Fails else Passes

abbrev pub behind : Armed → Armed
behind Unarmed = Unarmed
behind (ToCut commit calls) = if nat_le commit 1 then Unarmed else ToCut (commit - 1) calls
behind (ToFail commit calls) = if nat_le commit 1 then Unarmed else ToFail (commit - 1) calls

-- a commit has at most sixteen device calls: once so many have returned, the change is remembered
abbrev pub cut_choice : ℕ → Choice
cut_choice calls = if nat_le 16 calls then Made else Free

-- a sink that remembers a change where the bit is yes
abbrev pub with_bit : Bool → Change → Sink → Sink
with_bit bit change sink = if bit then record sink { ledger = change ∷ sink.ledger } else sink

-- A change is remembered, and its effect comes of it; the power is cut, and the bit says whether it is remembered; or the disk
-- fails, and that is open.
unfoldable pub committed : Powered → Bool → Effect → Change → Fate → Out
committed powered bit effect change Passes = record {
  node = IsSink (record { sink = effect.sink; armed = behind powered.armed; phase = powered.phase });
  says = effect.says;
  puts = effect.puts;
  airs = [];
  choice = Fixed;
}
committed powered bit effect change (CutAfter calls) =
    record (out (IsSink (record { sink = with_bit bit change powered.sink; armed = Unarmed; phase = Dark })) (reports.Cut ∷ [])) { choice = cut_choice calls }
committed powered bit effect change Fails = out (IsSink (record powered { armed = Unarmed; phase = Halted change })) (reports.Halted ∷ [])

-- nothing befalls an effect without a change
unfoldable pub passed : Powered → Effect → Out
passed powered effect = record { node = IsSink (record powered { sink = effect.sink }); says = effect.says; puts = effect.puts; airs = []; choice = Fixed }

abbrev pub settled_by : Powered → Bool → Effect → Option Change → Out
settled_by powered bit effect None = passed powered effect
settled_by powered bit effect (Some change) = committed powered bit effect change (fate powered.armed)

-- what comes of an effect on a running sink
unfoldable pub effected : Powered → Bool → Effect → Out
effected powered bit effect = settled_by powered bit effect effect.change

-- ---- events

-- one for a sink without power, one for a halted one with its open change, and one for a running one
abbrev pub by_phase : {A : Type 0} → Phase → A → (Change → A) → A → A
by_phase Dark dark halted runs = dark
by_phase (Halted change) dark halted runs = halted change
by_phase Runs dark halted runs = runs

-- an event in which a running sink alone takes part
unfoldable pub at_running : (Sink → Effect) → Bool → Powered → Out
at_running event bit powered =
    by_phase powered.phase (out (IsSink powered) (reports.Dark ∷ [])) (λ change. out (IsSink powered) (reports.Halted ∷ []))
    (effected powered bit (event powered.sink))

-- a rule is added, or refused, whatever the power
unfoldable pub adds_rule : Rule → Powered → Out
adds_rule rule powered = passed powered (sink_rules rule powered.sink)

-- the rows are listed, of a halted sink too: its open change isn't among them
unfoldable pub lists : Powered → Out
lists powered =
    by_phase powered.phase (out (IsSink powered) (reports.Dark ∷ [])) (λ change. passed powered (sink_lists powered.sink))
    (passed powered (sink_lists powered.sink))

-- a cut or a fault is armed, in place of what was armed before, whatever the power
unfoldable pub arms : Armed → Powered → Out
arms armed powered = out (IsSink (record powered { armed = armed })) (reports.Armed ∷ [])

-- the power goes, and the bit says whether an open change is remembered; what is armed stays so
unfoldable pub turns_off : Bool → Powered → Out
turns_off bit powered =
    by_phase powered.phase (out (IsSink powered) (reports.Dark ∷ []))
    (λ change. record (out (IsSink (record powered { sink = with_bit bit change powered.sink; phase = Dark })) (reports.Off ∷ [])) { choice = Free })
    (out (IsSink (record powered { phase = Dark })) (reports.Off ∷ []))

-- the power comes
unfoldable pub turns_on : Powered → Out
turns_on powered =
    by_phase powered.phase (out (IsSink (record powered { phase = Runs })) (reports.Up (length (rows powered.sink.ledger)) ∷ []))
    (λ change. out (IsSink powered) (reports.Running ∷ [])) (out (IsSink powered) (reports.Running ∷ []))

-- the power comes and is cut before the sink runs: what was armed is gone
unfoldable pub flickers : Powered → Out
flickers powered =
    by_phase powered.phase (out (IsSink (record powered { armed = Unarmed })) (reports.Cut ∷ []))
    (λ change. out (IsSink powered) (reports.Running ∷ [])) (out (IsSink powered) (reports.Running ∷ []))
