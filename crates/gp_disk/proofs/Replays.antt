-- A history done again step by step.
use Rattle.std.proofs.Common.{◌≡◌, ℕ, zero, suc, ◌+◌, ◌-◌, ◌<◌, ◌≤◌, get_or, Bool, true, List, [], ◌∷◌, ◌++◌, length, take, drop, map, replicate, refl, sym, ◌∙◌, ap, arith, add-zero, nat_le, ◌&&◌}
use Rattle.std.proofs.lemmas.List.{take-take, drop_more, drop_all}
use Rattle.std.specs.List.{list_all}
use Rattle.gp_disk.specs.declared.log.Step.{Step}
use Rattle.gp_disk.specs.declared.log.Step.TheVariants.{Write, Zero, Sync}
use Rattle.gp_disk.specs.Disk.{put}
use Rattle.gp_disk.specs.History.{Done, Wrote, Synced, Held, happen, after_all}
use Rattle.gp_disk.specs.Step.{octets_of, events}
use Rattle.gp_disk.specs.Crash.{struck}
use Rattle.gp_disk.specs.Redone.{redone, ranges_of}

pub redone-write : (at count stored : ℕ) (octets image : List ℕ) → stored ≤ count → redone image (events (Write at count stored ∷ []) octets) ≡ put at (take stored octets) image
unfolding redone events
redone-write at count stored octets image short = rw (take-take stored count octets short) refl

pub redone-events : (step : Step) (steps : List Step) (octets image : List ℕ) → redone image (events (step ∷ steps) octets) ≡ redone (redone image (events (step ∷ []) octets)) (events steps (drop (octets_of (step ∷ [])) octets))
unfolding redone events octets_of
redone-events (Write at count stored) steps octets image = rw (add-zero count) refl
redone-events (Zero at count stored) steps octets image = refl
redone-events Sync steps octets image = refl

pub struck-events : (way : ℕ) (step : Step) (steps : List Step) (octets image : List ℕ) → struck way image (ranges_of (events (step ∷ steps) octets)) ≡ struck way (struck way image (ranges_of (events (step ∷ []) octets))) (ranges_of (events steps (drop (octets_of (step ∷ [])) octets)))
unfolding struck ranges_of events octets_of
struck-events way (Write at count stored) steps octets image = rw (add-zero count) refl
struck-events way (Zero at count stored) steps octets image = refl
struck-events way Sync steps octets image = refl

pub octets_of-cons : (step : Step) (steps : List Step) → octets_of (step ∷ steps) ≡ octets_of (step ∷ []) + octets_of steps
unfolding octets_of
octets_of-cons (Write at count stored) steps = omega arith
octets_of-cons (Zero at count stored) steps = omega arith
octets_of-cons Sync steps = omega arith

-- what a read gives depends on what one gave before, and on nothing else
pub seen-after_all : (held : Held) (xs : List Done) → (after_all held xs).seen ≡ redone held.seen xs
unfolding after_all redone
seen-after_all held [] = refl
seen-after_all held (Wrote range ∷ xs) = seen-after_all (happen held (Wrote range)) xs
seen-after_all held (Synced ∷ xs) = seen-after_all (happen held Synced) xs

-- one step of a loop over the steps
pub redo_more : (steps : List Step) (i : ℕ) (d : Step) (octets rest image new : List ℕ) → i < length steps → new ≡ redone image (events (get_or steps i d ∷ []) octets) → rest ≡ drop (octets_of (get_or steps i d ∷ [])) octets
    → redone new (events (drop (i + 1) steps) rest) ≡ redone image (events (drop i steps) octets)
redo_more steps i d octets rest image new here image_is rest_is =
    rw (drop_more steps i d here, redone-events (get_or steps i d) (drop (i + 1) steps) octets image, image_is, rest_is) refl

pub strike_more : (way : ℕ) (steps : List Step) (i : ℕ) (d : Step) (octets rest image new : List ℕ) → i < length steps → new ≡ struck way image (ranges_of (events (get_or steps i d ∷ []) octets)) → rest ≡ drop (octets_of (get_or steps i d ∷ [])) octets
    → struck way new (ranges_of (events (drop (i + 1) steps) rest)) ≡ struck way image (ranges_of (events (drop i steps) octets))
strike_more way steps i d octets rest image new here image_is rest_is =
    rw (drop_more steps i d here, struck-events way (get_or steps i d) (drop (i + 1) steps) octets image, image_is, rest_is) refl

-- after the last one
pub redo_all : (steps : List Step) (i : ℕ) (octets image : List ℕ) → length steps ≤ i → redone image (events (drop i steps) octets) ≡ image
unfolding redone events
redo_all steps i octets image past = rw (drop_all i steps past) refl

pub strike_all : (way : ℕ) (steps : List Step) (i : ℕ) (octets image : List ℕ) → length steps ≤ i → struck way image (ranges_of (events (drop i steps) octets)) ≡ image
unfolding struck ranges_of events
strike_all way steps i octets image past = rw (drop_all i steps past) refl

pub octets_of-first : (steps : List Step) (i : ℕ) (d : Step) → i < length steps → octets_of (drop i steps) ≡ octets_of (get_or steps i d ∷ []) + octets_of (drop (i + 1) steps)
octets_of-first steps i d here = rw (drop_more steps i d here) (octets_of-cons (get_or steps i d) (drop (i + 1) steps))

pub list_all-first : (p : Step → Bool) (steps : List Step) (i : ℕ) (d : Step) → i < length steps → list_all p (drop i steps) ≡ (p (get_or steps i d) && list_all p (drop (i + 1) steps))
list_all-first p steps i d here = rw (drop_more steps i d here) refl

pub map-replicate : (f : ℕ → ℕ) (n x : ℕ) → map f (replicate n x) ≡ replicate n (f x)
map-replicate f zero x = refl
map-replicate f (suc n) x = ap (λ xs. f x ∷ xs) (map-replicate f n x)

pub ruleset steps_again = (redone-write, take-take)
