-- A script of which each line is played ends.
use Rattle.std.proofs.Common.{◌≡◌, Bool, inl, inr, ℕ, suc, ◌+◌, ◌≤◌, List, [], ◌∷◌, ◌++◌, map, length, Option, Some, None, Result, Ok, Err, refl, ap, subst, ◌∙◌, arith}
use Rattle.std.specs.Option.{IsSome, option_and_then, option_map}
use Rattle.std.specs.Result.{result_ok, result_err}
use Rattle.std.specs.Str.Lines.{lines}
use Rattle.std.proofs.lemmas.List.{length-append, length-map, map-append}
use Rattle.gp_script.specs.declared.reason.LineReason.{LineReason}
use Rattle.gp_script.specs.declared.script.Event.{Event}
use Rattle.gp_lines.specs.declared.status.Status.{Status}
use Rattle.gp_lines.specs.declared.work.Halt.{Halt}
use Rattle.gp_lines.specs.declared.work.Halt.TheVariants.{Bad, NoMemory, DiskFault, DiskRefused, Worn}
use Rattle.gp_lines.specs.Leaves.{Counts, Leaves}
use Rattle.gp_lines.specs.Lines.{AreNarrow, AreWithin, IsBeyond}
use Rattle.gp_lines.proofs.Meanings.{completes}
use Rattle.gp_world.specs.Run.{Moment, Run, world_after, events_of}
use Rattle.gp_world.specs.Step.{step}
use Rattle.gp_world.specs.World.{World, empty}
use Rattle.gp_world.specs.World as ideal
use Rattle.gp_simulation.specs.Playing.{asked, refusal, AreOf, IsPlayed, Plays, StopsAt, Completes}

-- a script that is played refuses none of its lines
unplayed : (moments : List Moment) → Run moments → (first : List (List ℕ)) (line : List ℕ) (others : List (List ℕ)) (reason : LineReason) → AreOf first moments
    → refusal (world_after moments) (length first + 1) (asked line) ≡ Some reason → IsPlayed (first ++ line ∷ others) → ⊥
unplayed moments run first line others reason events refused played =
    let none = played first line others moments refl run events in
    cc

narrow-at : (ended : List (List ℕ)) (line : List ℕ) (others : List (List ℕ)) → AreNarrow (ended ++ line ∷ others) → length line ≤ 1024
narrow-at [] line others h = h 0 [] (omega arith)
narrow-at (x ∷ ended) line others h = narrow-at ended line others (λ k d b. h (suc k) d (omega arith))

-- no line is beyond the limits
unbeyond : (ended : List (List ℕ)) (line : List ℕ) (others all : List (List ℕ)) → all ≡ ended ++ line ∷ others → AreWithin all → IsBeyond (length ended) line → ⊥
unbeyond ended line others all e within (inl many) =
    let longer = length-append ended (line ∷ others) in
    let few : length (ended ++ line ∷ others) ≤ 1000000 = subst (λ (ls : List (List ℕ)). length ls ≤ 1000000) e within.0 in
    omega (arith, longer, few, many)
unbeyond ended line others all e within (inr wide) =
    let narrow = narrow-at ended line others (subst (λ (ls : List (List ℕ)). AreNarrow ls) e within.1) in
    omega (arith, narrow, wide)

module _ {W : Type 0} (Stands : W → World → Type 0) (bits : W → List Bool) (new : W) where
  stops-for_memory : (ended : List (List ℕ)) (text line : List ℕ) (halt : Halt) (others all : List (List ℕ)) → all ≡ ended ++ line ∷ others → IsPlayed all
      → StopsAt Stands bits ended text line halt new → halt ≡ NoMemory
  stops-for_memory ended text line (Bad reason) others all e played h =
      absurd (unplayed h.0.moments h.0.run ended line others reason h.0.events h.1 (subst (λ (ls : List (List ℕ)). IsPlayed ls) e played))
  stops-for_memory ended text line NoMemory others all e played h = refl
  stops-for_memory ended text line DiskFault others all e played h = absurd h
  stops-for_memory ended text line (DiskRefused reason) others all e played h = absurd h
  stops-for_memory ended text line (Worn generation) others all e played h = absurd h

  pub ends : (status : Status) (left left' written written' : Option (List ℕ)) (a b c d : ℕ) → Leaves (Plays Stands bits) (StopsAt Stands bits) 0 new status left left' written written'
      → Counts status a b c d → Completes status left a b c d
  ends status left left' written written' a b c d h k = λ input e within played no_read no_write.
      completes (Plays Stands bits) (StopsAt Stands bits) 0 new status left left' written written' a b c d input e h k
      (λ ended line next beyond. unbeyond ended line next.0 (lines input) next.1 within beyond)
      (λ ended text line halt next halted. stops-for_memory ended text line halt next.0 (lines input) next.1 played halted)
      no_read no_write
