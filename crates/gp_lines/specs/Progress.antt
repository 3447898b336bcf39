-- How far a work has come in an input, and why it stops. No clause of a public call cites this file: nothing in it has to be
-- believed.
use Rattle.std.specs.Prelude.{◌≡◌, ℕ, ◌+◌, ◌≤◌, List, [], ◌∷◌, ◌++◌, length, take, Option}
use Rattle.std.specs.Io.KnownBytes.{Appends}
use Rattle.gp_base.specs.Outside.{one_more}
use Rattle.gp_lines.specs.Lines.{AreNarrow, IsBeyond, IsWithin}
use Rattle.gp_lines.specs.Cutting.{Cuts, MakesLine, GoesBeyond}
use Rattle.gp_lines.specs.Work.{Chain, UnlessNoMemory}
use Rattle.gp_lines.specs.declared.work.Halt.{Halt}
use Rattle.gp_lines.specs.declared.stop.Stop.{Stop}
use Rattle.gp_lines.specs.declared.stop.Stop.TheVariants.{TooLong, WriteFault, Halted}

-- a place in an input: how many lines are complete, the line that has begun, the text that waits, what is written, and what
-- stands for the work
pub record Place (S : Type 0) : Type 0 where
  pub count : ℕ
  pub begun : List ℕ
  pub waiting : List ℕ
  pub written : Option (List ℕ)
  pub state : S

abbrev pub place : {S : Type 0} → ℕ → List ℕ → List ℕ → Option (List ℕ) → S → Place S
place count begun waiting written state = record { count = count; begun = begun; waiting = waiting; written = written; state = state }

-- From one place to another: the octets end lines that the work took one after the other, and their text is written or waits.
pub record Advances {S : Type 0} (goes : S → ℕ → List ℕ → List ℕ → S → Type 0) (old : Place S) (octets : List ℕ) (new : Place S) : Type 0 where
  pub ended : List (List ℕ)
  pub text : List ℕ
  pub told : List ℕ
  pub cuts : Cuts old.begun octets ended new.begun
  pub counted : new.count ≡ old.count + length ended
  pub few : old.count ≤ 1000000 → new.count ≤ 1000000
  pub narrow : AreNarrow ended
  pub chain : Chain goes old.state (old.count + 1) ended text new.state
  pub appended : Appends old.written new.written told
  pub texts : old.waiting ++ text ≡ told ++ new.waiting

-- the text that waits and what a last line gave are not written to their end
pub record LastLost {S : Type 0} (goes : S → ℕ → List ℕ → List ℕ → S → Type 0) (old : Place S) (octets : List ℕ) (new : Place S) : Type 0 where
  pub last : List (List ℕ)
  pub text : List ℕ
  pub at_most_one : length last ≤ 1
  pub few : old.count ≤ 1000000 → old.count + length last ≤ 1000000
  pub narrow : AreNarrow last
  pub makes : (line : List ℕ) → last ≡ line ∷ [] → MakesLine old.begun octets line
  pub chain : Chain goes old.state (old.count + 1) last text new.state
  pub told : (count : ℕ) × Appends old.written new.written (take count (old.waiting ++ text))

-- why it goes no further from a place with these octets
abbrev pub Cause : {S : Type 0} → (S → ℕ → List ℕ → List ℕ → S → Type 0) → (S → ℕ → List ℕ → Halt → S → Type 0) → Stop → Place S → List ℕ → Place S → Type 0
Cause goes stops TooLong old octets new = GoesBeyond old.count old.begun octets × (new.waiting ≡ old.waiting) × (new.written ≡ old.written) × (new.state ≡ old.state)
Cause goes stops (Halted number halt) old octets new =
    (new.written ≡ old.written) × ((line : List ℕ) × (number ≡ old.count + 1) × MakesLine old.begun octets line × IsWithin old.count line
    × stops old.state (old.count + 1) line halt new.state × UnlessNoMemory halt (new.waiting ≡ old.waiting))
Cause goes stops WriteFault old octets new = LastLost goes old octets new

-- A front of the octets took it to a place where little waits, and there it goes no further.
pub record Stops {S : Type 0} (goes : S → ℕ → List ℕ → List ℕ → S → Type 0) (stops : S → ℕ → List ℕ → Halt → S → Type 0) (held : ℕ) (stop : Stop)
    (old : Place S) (octets : List ℕ) (new : Place S) : Type 0 where
  pub front : List ℕ
  pub back : List ℕ
  pub parts : octets ≡ front ++ back
  pub mid : Place S
  pub advance : Advances goes old front mid
  pub little : length mid.waiting ≤ held
  pub cause : Cause goes stops stop mid back new

-- why a line is not taken behind so many lines: the text and the work before and after it
abbrev pub LineStops : {S : Type 0} → (S → ℕ → List ℕ → Halt → S → Type 0) → Stop → ℕ → List ℕ → List ℕ → List ℕ → S → S → Type 0
LineStops stops TooLong count line old new before now = IsBeyond count line × (new ≡ old) × (now ≡ before)
LineStops stops (Halted number halt) count line old new before now = (number ≡ count + 1) × IsWithin count line × stops before (count + 1) line halt now × UnlessNoMemory halt (new ≡ old)
LineStops stops WriteFault count line old new before now = ⊥

-- the output's count rose by one where a write failed, and else stands
abbrev pub OutCounts : Stop → ℕ → ℕ → Type 0
OutCounts WriteFault before after = after ≡ one_more before
OutCounts TooLong before after = after ≡ before
OutCounts (Halted number halt) before after = after ≡ before

-- the work took the last lines, one or none, and this is their text
abbrev pub TakesLast : {S : Type 0} → (S → ℕ → List ℕ → List ℕ → S → Type 0) → ℕ → List (List ℕ) → S → S → List ℕ → Type 0
TakesLast goes count last before now text = (count ≤ 1000000 → count + length last ≤ 1000000) × AreNarrow last × Chain goes before (count + 1) last text now
