-- Runs: the lines of a script, one step after the other from the empty world.
use Rattle.std.specs.Prelude.{◌≡◌, ℕ, suc, Bool, true, List, [], ◌∷◌, ◌++◌, length, Some, Ok}
use Rattle.gp_script.specs.declared.report.Entry.{Entry}
use Rattle.gp_script.specs.declared.script.Event.{Event}
use Rattle.gp_script.specs.Script.{event_of}
use Rattle.gp_world.specs.Step.{step}
use Rattle.gp_world.specs.World.{World, Next, Choice, Fixed, Free, Made, empty}

-- one line of a run: what it asks for, the world before it, the bit of a change whose commit doesn't come to its end, and what
-- comes of it
pub record Moment : Type 0 where
  pub event : Event
  pub before : World
  pub bit : Bool
  pub next : Next

-- the world behind these moments, of which the newest comes first
abbrev pub world_after : List Moment → World
world_after [] = empty
world_after (moment ∷ earlier) = moment.next.world

-- some line of a script asks for this
abbrev pub IsAsked : Event → Type 0
IsAsked event = (text : List ℕ) × (event_of text ≡ Some event)

-- A change whose commit was cut behind its last device call is remembered; else the bit is free.
abbrev pub IsRight : Choice → Bool → Type 0
IsRight Fixed bit = Unit {0}
IsRight Free bit = Unit {0}
IsRight Made bit = bit ≡ true

-- the moment follows these
pub record Follows (earlier : List Moment) (moment : Moment) : Type 0 where
  -- it is what a line of a script asks for;
  pub asked : IsAsked moment.event
  -- it begins where they end,
  pub begins : moment.before ≡ world_after earlier
  -- its line, numbered behind theirs, is one step,
  pub steps : step moment.before (suc (length earlier)) moment.event moment.bit ≡ Ok moment.next
  -- and its bit is right
  pub right : IsRight moment.next.choice moment.bit

-- a run, the newest moment first: each follows those before it
abbrev pub Run : List Moment → Type 0
Run [] = Unit {0}
Run (moment ∷ earlier) = Follows earlier moment × Run earlier

-- the events of a run, and what it reports, in the order of its lines
unfoldable pub events_of : List Moment → List Event
events_of [] = []
events_of (moment ∷ earlier) = events_of earlier ++ moment.event ∷ []

unfoldable pub report_of : List Moment → List Entry
report_of [] = []
report_of (moment ∷ earlier) = report_of earlier ++ moment.next.told

-- the bit that a line took, where it took one
abbrev pub bit_taken : Choice → Bool → List Bool
bit_taken Fixed bit = []
bit_taken Free bit = bit ∷ []
bit_taken Made bit = bit ∷ []

-- the bits of a run: one for each change whose commit didn't come to its end, in the order of the lines that settled them
unfoldable pub bits_of : List Moment → List Bool
bits_of [] = []
bits_of (moment ∷ earlier) = bits_of earlier ++ bit_taken moment.next.choice moment.bit
