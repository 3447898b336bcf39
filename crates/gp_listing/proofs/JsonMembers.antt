-- Members without a float, of a JSON object.
use Rattle.std.proofs.Common.{◌≡◌, ℕ, List, Bool, true, false, ◌||◌, Ordering, Less, Equal, Greater, refl, nat_cmp, Result, Ok, Err, OnOk}
use Rattle.std.specs.Ordering.{match_ordering}
use Rattle.std.specs.Cmp.Lexicographic.{slice_cmp}
use Rattle.serde_json.specs.Data.{Data, Members, no_members, member, put}
use Rattle.serde_json.specs.Written.{has_float, members_have_float}

neither : (a b : Bool) → a ≡ false → b ≡ false → (a || b) ≡ false
neither a b ha hb = rw (ha, hb) refl

left_one : (a b : Bool) → (a || b) ≡ false → a ≡ false
left_one false b h = refl
left_one true b h = h

right_one : (a b : Bool) → (a || b) ≡ false → b ≡ false
right_one false b h = h
right_one true false h = refl
right_one true true h = h

by_order : (o : Ordering) (a b c : Members) → members_have_float a ≡ false → members_have_float b ≡ false → members_have_float c ≡ false
    → members_have_float (match_ordering o a b c) ≡ false
by_order Less a b c ha hb hc = ha
by_order Equal a b c ha hb hc = hb
by_order Greater a b c ha hb hc = hc

pub members_have_float-put : (k : List ℕ) (d : Data) (ms : Members) → has_float d ≡ false → members_have_float ms ≡ false → members_have_float (put k d ms) ≡ false
members_have_float-put k d no_members hd hms = neither _ _ hd refl
members_have_float-put k d (member l e ms) hd hms =
    let first = left_one (has_float e) (members_have_float ms) hms in
    let others = right_one (has_float e) (members_have_float ms) hms in
    by_order (slice_cmp nat_cmp k l) _ _ _ (neither _ _ hd hms) (neither _ _ hd others) (neither _ _ first (members_have_float-put k d ms hd others))

-- so the put of a value without a float leaves none, where it is done
pub put_whole : {T E : Type 0} (r : Result T E) (k : List ℕ) (d : Data) (old new : Members) → has_float d ≡ false → OnOk r (new ≡ put k d old)
    → OnOk r (members_have_float old ≡ false → members_have_float new ≡ false)
put_whole (Ok x) k d old new hd done = λ h. rw done (members_have_float-put k d old hd h)
put_whole (Err e) k d old new hd done = done
