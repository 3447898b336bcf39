-- A script played on the ideal network, and what a world has to do with it.
use Rattle.std.specs.Prelude.{◌≡◌, ◌⊎◌, ℕ, ◌+◌, Bool, false, List, [], ◌∷◌, ◌++◌, map, length, Option, Some, None}
use Rattle.std.specs.Result.{result_err}
use Rattle.std.specs.Str.Lines.{lines}
use Rattle.gp_base.specs.Outside.{Rose}
use Rattle.gp_script.specs.declared.reason.LineReason.{LineReason}
use Rattle.gp_script.specs.declared.reason.LineReason.TheVariants.{Form}
use Rattle.gp_script.specs.declared.script.Event.{Event}
use Rattle.gp_script.specs.Script.{event_of}
use Rattle.gp_telling.specs.Texts.{report_text}
use Rattle.gp_lines.specs.declared.status.Status.{Status}
use Rattle.gp_lines.specs.declared.status.Status.TheVariants.{Done}
use Rattle.gp_lines.specs.declared.status.Status.TheVariants as ending
use Rattle.gp_lines.specs.declared.work.Halt.{Halt}
use Rattle.gp_lines.specs.declared.work.Halt.TheVariants.{Bad, NoMemory}
use Rattle.gp_lines.specs.Lines.{AreWithin}
use Rattle.gp_world.specs.Properties.{HasProperties}
use Rattle.gp_world.specs.Run.{Moment, Run, world_after, events_of, report_of, bits_of}
use Rattle.gp_world.specs.Step.{step}
use Rattle.gp_world.specs.World.{World}

-- what a line of a script asks for, where it has a form
unfoldable pub asked : List ℕ → Option Event
asked line = event_of line

-- Why a line that asks for this isn't played: it has no form, or the step refuses it. The bit of the step says nothing of that.
abbrev pub refusal : World → ℕ → Option Event → Option LineReason
refusal world number None = Some Form
refusal world number (Some event) = result_err (step world number event false)

-- the lines ask for the events of these moments
abbrev pub AreOf : List (List ℕ) → List Moment → Type 0
AreOf script moments = map asked script ≡ map (λ event. Some event) (events_of moments)

-- each line of the script is played: whatever the bits, no run of its first lines refuses the next
abbrev pub IsPlayed : List (List ℕ) → Type 0
IsPlayed script = (first : List (List ℕ)) (line : List ℕ) (others : List (List ℕ)) (moments : List Moment) →
    script ≡ first ++ line ∷ others → Run moments → AreOf first moments → refusal (world_after moments) (length first + 1) (asked line) ≡ None

-- What a world has to do with a script, where `Stands` says for which ideal worlds a world stands, and `bits` which bits its steps took.
module _ {W : Type 0} (Stands : W → World → Type 0) (bits : W → List Bool) where
  -- The lines are those of a run of the ideal network, which has all the properties; the text is that of its report; the world stands
  -- for the last world of the run; and its bits are those of the run.
  pub record Plays (script : List (List ℕ)) (text : List ℕ) (world : W) : Type 0 where
    pub moments : List Moment
    pub run : Run moments
    pub events : AreOf script moments
    pub text_is : text ≡ report_text (report_of moments)
    pub stands : Stands world (world_after moments)
    pub bits_are : bits world ≡ bits_of moments
    pub properties : HasProperties moments

  -- Behind these lines, which give this text, this line stops the script. It is refused, and the world is as behind the others; or
  -- memory wasn't found, and nothing is said of the world.
  abbrev pub StopsAt : List (List ℕ) → List ℕ → List ℕ → Halt → W → Type 0
  StopsAt script text line (Bad reason) world =
      (plays : Plays script text world) × (refusal (world_after plays.moments) (length script + 1) (asked line) ≡ Some reason)
  StopsAt script text line NoMemory world = (before : W) × Plays script text before
  StopsAt script text line other world = ⊥

-- Where the lines of the whole input are within the limits, each is played and no count of faults rises, the run is done, or memory
-- wasn't found.
abbrev pub Completes : Status → Option (List ℕ) → ℕ → ℕ → ℕ → ℕ → Type 0
Completes status left source_before source_after out_before out_after =
    (input : List ℕ) → left ≡ Some input → AreWithin (lines input) → IsPlayed (lines input)
    → (Rose source_before source_after → ⊥) → (Rose out_before out_after → ⊥) → (status ≡ Done) ⊎ (status ≡ ending.NoMemory)
