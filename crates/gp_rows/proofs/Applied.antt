-- What a change makes of the rows.
use Rattle.std.proofs.Common.{◌≡◌, ◌⊎◌, inl, inr, ⊎_elim, ℕ, zero, suc, ◌<◌, ◌≤◌, max, Bool, true, false, ◌==◌, ◌&&◌, cond, List, [], ◌∷◌, ◌++◌, length, set, Option, Some, None, refl, sym, ◌∙◌, ap, subst, arith, slice_get}
use Rattle.std.specs.Option.{option_map, option_map_or}
use Rattle.std.specs.Str.{bytes_eq}
use Rattle.std.proofs.lemmas.Bool.{and_parts, cases_eq, eqb-true, eq-eqb}
use Rattle.std.proofs.lemmas.Slice.Eq.{bytes_eq-Decides}
use Rattle.std.proofs.lemmas.Option.{slice_get_within, slice_get_past}
use Rattle.gp_rows.specs.declared.row.Row.{Row}
use Rattle.gp_rows.specs.Rows.{IsTable, IsPair, IsNewPair, AreWithin}
use Rattle.gp_rows.specs.Changes.{Change, Pairs, Raises, Retires, is_of, place_of, place, paired_row, with_floor, retired_row, value, with_row, applied}

-- a row put at a place that is there is a write
pub with_row-set : (rows : List Row) (at : ℕ) (row : Row) → at < length rows → with_row rows at row ≡ set rows at row
with_row-set [] at row h = absurd (omega arith)
with_row-set (r ∷ rows) zero row h = refl
with_row-set (r ∷ rows) (suc at) row h = ap (λ (l : List Row). r ∷ l) (with_row-set rows at row (omega arith))

-- a row put at the end
pub with_row-end : (rows : List Row) (at : ℕ) (row : Row) → at ≡ length rows → with_row rows at row ≡ rows ++ row ∷ []
with_row-end [] at row h = refl
with_row-end (r ∷ rows) zero row h = absurd (omega arith)
with_row-end (r ∷ rows) (suc at) row h = ap (λ (l : List Row). r ∷ l) (with_row-end rows at row (omega arith))

pub slice_get-with_row_same : (rows : List Row) (at : ℕ) (row : Row) → at ≤ length rows → slice_get (with_row rows at row) at ≡ Some row
slice_get-with_row_same [] zero row h = refl
slice_get-with_row_same [] (suc at) row h = absurd (omega arith)
slice_get-with_row_same (r ∷ rows) zero row h = refl
slice_get-with_row_same (r ∷ rows) (suc at) row h = slice_get-with_row_same rows at row (omega arith)

pub slice_get-with_row_other : (rows : List Row) (at k : ℕ) (row : Row) → at ≤ length rows → (k ≡ at → ⊥) → slice_get (with_row rows at row) k ≡ slice_get rows k
slice_get-with_row_other [] at zero row h other = absurd (other (omega arith))
slice_get-with_row_other [] at (suc k) row h other = refl
slice_get-with_row_other (r ∷ rows) zero zero row h other = absurd (other refl)
slice_get-with_row_other (r ∷ rows) zero (suc k) row h other = refl
slice_get-with_row_other (r ∷ rows) (suc at) zero row h other = refl
slice_get-with_row_other (r ∷ rows) (suc at) (suc k) row h other = slice_get-with_row_other rows at k row (omega arith) (λ e. other (ap suc e))

-- what stands at a place of the rows with one put at its number
pub slice_get_in_with_row : (rows : List Row) (at k : ℕ) (row x : Row) → at ≤ length rows → slice_get (with_row rows at row) k ≡ Some x → ((k ≡ at) × (x ≡ row)) ⊎ ((k ≡ at → ⊥) × (slice_get rows k ≡ Some x))
slice_get_in_with_row rows at k row x within h = elim (cases_eq k at) [
  | inl e ↦ inl (e, some_is (sym h ∙ ap (slice_get (with_row rows at row)) e ∙ slice_get-with_row_same rows at row within))
  | inr other ↦ inr (other, sym (slice_get-with_row_other rows at k row within other) ∙ h)
]
  where
    some_is : {x y : Row} → Some x ≡ Some y → x ≡ y
    some_is h = cc

-- no order is above one that is not below the row's either
pub AreWithin-with_row : (last : ℕ) (rows : List Row) (at : ℕ) (row : Row) → at ≤ length rows → AreWithin last rows → row.order ≤ last → AreWithin last (with_row rows at row)
AreWithin-with_row last rows at row within orders order k x is =
    ⊎_elim (λ here. let e : x.order ≡ row.order = ap (λ (r : Row). r.order) here.1 in omega (arith, e, order)) (λ other. orders k x other.1) (slice_get_in_with_row rows at k row x within is)

-- the row is of a SrcID and key exactly where both are the same
pub is_of-true : (src : ℕ) (key : List ℕ) (row : Row) → is_of src key row ≡ true → (row.src.0 ≡ src) × (row.key.0 ≡ key)
is_of-true src key row e = let parts = and_parts (row.src.0 == src) (bytes_eq row.key.0 key) e in (eqb-true row.src.0 src parts.0, (bytes_eq-Decides row.key.0 key).0 parts.1)

pub is_of-same : (src : ℕ) (key : List ℕ) (row : Row) → row.src.0 ≡ src → row.key.0 ≡ key → is_of src key row ≡ true
is_of-same src key row s k = both (row.src.0 == src) (bytes_eq row.key.0 key) (eq-eqb row.src.0 src s) ((bytes_eq-Decides row.key.0 key).1 k)
  where
    both : (a b : Bool) → a ≡ true → b ≡ true → (a && b) ≡ true
    both a b p q = cc

either : (b : Bool) → (b ≡ true) ⊎ (b ≡ false)
either true = inl refl
either false = inr refl

cond-true : {A : Type 0} (b : Bool) (x y : A) → b ≡ true → cond b x y ≡ x
cond-true true x y e = refl
cond-true false x y e = absurd cc

cond-false : {A : Type 0} (b : Bool) (x y : A) → b ≡ false → cond b x y ≡ y
cond-false false x y e = refl
cond-false true x y e = absurd cc

pub place_of-within : (src : ℕ) (key : List ℕ) (rows : List Row) → place_of src key rows ≤ length rows
unfolding place_of
place_of-within src key [] = omega arith
place_of-within src key (row ∷ rows) = elim (either (is_of src key row)) [
  | inl e ↦ rw (cond-true (is_of src key row) 0 (suc (place_of src key rows)) e) (omega arith)
  | inr e ↦ rw (cond-false (is_of src key row) 0 (suc (place_of src key rows)) e) (let h = place_of-within src key rows in omega (arith, h))
]

-- where that number is one of the rows, its row is of the SrcID and key
pub place_of-is : (src : ℕ) (key : List ℕ) (rows : List Row) (row : Row) → slice_get rows (place_of src key rows) ≡ Some row → (row.src.0 ≡ src) × (row.key.0 ≡ key)
unfolding place_of
place_of-is src key [] row h = absurd (none_is_not row h)
  where
    none_is_not : (x : Row) → None ≡ Some x → ⊥
    none_is_not x h = cc
place_of-is src key (r ∷ rows) row h = elim (either (is_of src key r)) [
  | inl e ↦ is_of-true src key row (subst (λ (x : Row). is_of src key x ≡ true) (first (place_of src key (r ∷ rows)) (cond-true (is_of src key r) 0 (suc (place_of src key rows)) e) h) e)
  | inr e ↦ place_of-is src key rows row (subst (λ (k : ℕ). slice_get (r ∷ rows) k ≡ Some row) (cond-false (is_of src key r) 0 (suc (place_of src key rows)) e) h)
]
  where
    first : (k : ℕ) → k ≡ 0 → slice_get (r ∷ rows) k ≡ Some row → r ≡ row
    first k z h = some_is (subst (λ (n : ℕ). slice_get (r ∷ rows) n ≡ Some row) z h)
      where
        some_is : {X : Type 0} {x y : X} → Some x ≡ Some y → x ≡ y
        some_is h = cc

-- no row before that number is of the SrcID and key
pub place_of-first : (src : ℕ) (key : List ℕ) (rows : List Row) (k : ℕ) (row : Row) → slice_get rows k ≡ Some row → row.src.0 ≡ src → row.key.0 ≡ key → place_of src key rows ≤ k
unfolding place_of
place_of-first src key [] k row h s q = absurd (none_is_not row h)
  where
    none_is_not : (x : Row) → None ≡ Some x → ⊥
    none_is_not x h = cc
place_of-first src key (r ∷ rows) zero row h s q =
    let same : is_of src key r ≡ true = is_of-same src key r (let e : r ≡ row = cc in ap (λ (x : Row). x.src.0) e ∙ s) (let e : r ≡ row = cc in ap (λ (x : Row). x.key.0) e ∙ q) in
    rw (cond-true (is_of src key r) 0 (suc (place_of src key rows)) same) (omega arith)
place_of-first src key (r ∷ rows) (suc k) row h s q = elim (either (is_of src key r)) [
  | inl e ↦ rw (cond-true (is_of src key r) 0 (suc (place_of src key rows)) e) (omega arith)
  | inr e ↦ rw (cond-false (is_of src key r) 0 (suc (place_of src key rows)) e) (let h = place_of-first src key rows k row h s q in omega (arith, h))
]

-- in a table it is the number of the one row of the SrcID and key
pub place_of-there : (rows : List Row) (src : ℕ) (key : List ℕ) (at : ℕ) → IsTable rows → IsPair rows src key at → place_of src key rows ≡ at
place_of-there rows src key at table pair =
    let row = pair.0 in
    let most = place_of-first src key rows at row pair.1 pair.2 pair.3 in
    let within = slice_get_within rows at row pair.1 in
    from (slice_get rows (place_of src key rows)) refl most within
  where
    from : (x : Option Row) → slice_get rows (place_of src key rows) ≡ x → place_of src key rows ≤ at → at < length rows → place_of src key rows ≡ at
    from None is most within = absurd (some_is_not (slice_get rows (place_of src key rows)) is (there (place_of src key rows) (omega arith)))
      where
        there : (k : ℕ) → k < length rows → (x : Row) × (slice_get rows k ≡ Some x)
        there k h = at_place rows k h
          where
            at_place : (l : List Row) (k : ℕ) → k < length l → (x : Row) × (slice_get l k ≡ Some x)
            at_place [] k h = absurd (omega arith)
            at_place (x ∷ l) zero h = (x, refl)
            at_place (x ∷ l) (suc k) h = at_place l k (omega arith)

        some_is_not : (x : Option Row) → x ≡ None → ((r : Row) × (x ≡ Some r)) → ⊥
        some_is_not x none some = let e = some.1 in cc
    from (Some other) is most within =
        let its = place_of-is src key rows other is in
        table.pairs (place_of src key rows) at other pair.0 is pair.1 (its.0 ∙ sym pair.2) (its.1 ∙ sym pair.3)

-- and where there is none, the next number
pub place_of-new : (rows : List Row) (row : Row) → IsNewPair rows row → place_of row.src.0 row.key.0 rows ≡ length rows
place_of-new rows row new = from (slice_get rows (place_of row.src.0 row.key.0 rows)) refl
  where
    past : (l : List Row) (k : ℕ) → slice_get l k ≡ None → length l ≤ k
    past [] k h = omega arith
    past (x ∷ l) zero h = absurd (some_is_not x h)
      where
        some_is_not : (x : Row) → Some x ≡ None → ⊥
        some_is_not x h = cc
    past (x ∷ l) (suc k) h = let rest = past l k h in omega (arith, rest)

    from : (x : Option Row) → slice_get rows (place_of row.src.0 row.key.0 rows) ≡ x → place_of row.src.0 row.key.0 rows ≡ length rows
    from None is = let least = past rows (place_of row.src.0 row.key.0 rows) is in let most = place_of-within row.src.0 row.key.0 rows in omega (arith, least, most)
    from (Some other) is = let its = place_of-is row.src.0 row.key.0 rows other is in absurd (new (place_of row.src.0 row.key.0 rows) other is its.0 its.1)

-- the rows afterwards, where the changed row's number and values are known
pub applied-is : (change : Change) (rows : List Row) (at : ℕ) (row : Row) → place change rows ≡ at → value change rows ≡ Some row → applied change rows ≡ with_row rows at row
unfolding applied
applied-is change rows at row here is = ap (λ (x : Option Row). option_map_or (with_row rows (place change rows)) x rows) is ∙ ap (λ (k : ℕ). with_row rows k row) here

-- a counter is accepted at a row that is there
pub value-raises : (rows : List Row) (at counter : ℕ) (row : Row) → slice_get rows at ≡ Some row → value (Raises at counter) rows ≡ Some (with_floor counter row)
unfolding value
value-raises rows at counter row there = ap (option_map (with_floor counter)) there

-- a row that is there is unpaired
pub value-retires : (rows : List Row) (at counter : ℕ) (row : Row) → slice_get rows at ≡ Some row → value (Retires at counter) rows ≡ Some (retired_row counter row)
unfolding value
value-retires rows at counter row there = ap (option_map (retired_row counter)) there

-- a pair that is there is paired again
pub value-again : (rows : List Row) (row before : Row) (at : ℕ) → place_of row.src.0 row.key.0 rows ≡ at → slice_get rows at ≡ Some before → value (Pairs row) rows ≡ Some (record row { floor = max before.floor row.floor })
unfolding value
value-again rows row before at here there = ap (λ (x : Option Row). Some (paired_row row x)) (ap (slice_get rows) here ∙ there)

-- a pair that is new is added
pub value-new : (rows : List Row) (row : Row) → IsNewPair rows row → value (Pairs row) rows ≡ Some row
unfolding value
value-new rows row new = ap (λ (x : Option Row). Some (paired_row row x)) (ap (slice_get rows) (place_of-new rows row new) ∙ slice_get_past rows (length rows) (omega arith))
