-- Why what a read gives is one of the images that a crash now may leave: each write changes its range alone. A reader
-- needn't believe this file, which is proved.
use Rattle.std.specs.Prelude.{ℕ, zero, suc, List, [], ◌∷◌, ◌++◌, length, refl}
use Rattle.std.specs.Coded.{×_prop, Unit-prop}
use Rattle.std.proofs.Props.{props}
use mathlib.Core.Logic.{inr}
use mathlib.Core.Path.{subst}
use Rattle.gp_disk.specs.Disk.{put, Outside}
use Rattle.gp_disk.specs.History.{Range, Done, Wrote, Synced, Held, at_rest, happen, after_all, Replaced, MayLeave, LeftSince}

unfoldable pub AllTraced : Held → List Done → Type 0
AllTraced held [] = Unit {0}
AllTraced held (Wrote range ∷ xs) = Outside range.at (length range.octets) held.seen (put range.at range.kept held.seen) × AllTraced (happen held (Wrote range)) xs
AllTraced held (Synced ∷ xs) = AllTraced (happen held Synced) xs

pub AllTraced-prop : (held : Held) (xs : List Done) → IsProp (AllTraced held xs)
unfolding AllTraced
AllTraced-prop held [] = Unit-prop
AllTraced-prop held (Wrote range ∷ xs) = ×_prop (hlevel props) (AllTraced-prop (happen held (Wrote range)) xs)
AllTraced-prop held (Synced ∷ xs) = AllTraced-prop (happen held Synced) xs

pub Replaced-append : (base : List ℕ) (ranges : List Range) (range : Range) (d c : List ℕ) → Replaced base ranges d → Outside range.at (length range.octets) d c → Replaced base (ranges ++ range ∷ []) c
unfolding Replaced
Replaced-append base [] range d c is outside = (c, subst (λ (x : List ℕ). Outside range.at (length range.octets) x c) is outside, refl)
Replaced-append base (r ∷ rs) range d c (e, first, rest) outside = (e, first, Replaced-append e rs range d c rest outside)

pub seen_may_be_left : (held : Held) (xs : List Done) → MayLeave held held.seen → AllTraced held xs → MayLeave (after_all held xs) (after_all held xs).seen
unfolding after_all AllTraced Replaced
seen_may_be_left held [] now traced = now
seen_may_be_left held (Wrote range ∷ xs) now (outside, rest) = seen_may_be_left (happen held (Wrote range)) xs (Replaced-append held.base held.pending range held.seen (put range.at range.kept held.seen) now outside) rest
seen_may_be_left held (Synced ∷ xs) now traced = seen_may_be_left (at_rest held.seen) xs refl traced

-- from an image with nothing pending on
pub rest_may_be_left : (origin : List ℕ) (xs : List Done) → AllTraced (at_rest origin) xs → MayLeave (after_all (at_rest origin) xs) (after_all (at_rest origin) xs).seen
unfolding Replaced
rest_may_be_left origin xs traced = seen_may_be_left (at_rest origin) xs refl traced

-- now is one of the moments
pub LeftSince-now : (count : ℕ) (held : Held) (xs : List Done) (c : List ℕ) → MayLeave (after_all held xs) c → LeftSince count held xs c
unfolding after_all LeftSince
LeftSince-now count held [] c now = now
LeftSince-now zero held (x ∷ xs) c now = inr (LeftSince-now zero (happen held x) xs c now)
LeftSince-now (suc count) held (x ∷ xs) c now = LeftSince-now count (happen held x) xs c now
