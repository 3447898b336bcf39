-- What a change that is stored makes of rows that fit a ledger.
use Rattle.std.proofs.Common.{◌≡◌, ◌⊎◌, inl, inr, ℕ, zero, suc, ◌<◌, ◌≤◌, max, Bool, true, false, List, [], ◌∷◌, Option, Some, None, length, map, refl, sym, ◌∙◌, ap, subst, arith, slice_get}
use Rattle.std.proofs.lemmas.Option.{slice_get_within}
use Rattle.gp_rows.specs.declared.row.Row.{Row}
use Rattle.gp_rows.specs.Rows.{AreWithin}
use Rattle.gp_rows.specs.Changes.{Pairs, Raises, Retires, is_of, place_of, paired_row, with_floor, retired_row, value, with_row, applied}
use Rattle.gp_rows.proofs.Applied.{slice_get_in_with_row, is_of-true, is_of-same, place_of-within, applied-is, value-raises, value-retires}
use Rattle.gp_store.specs.Commit.{ordered}
use Rattle.gp_ideal.specs.declared.ledger.Values.{Values}
use Rattle.gp_ideal.specs.declared.ledger.Change.{Change}
use Rattle.gp_ideal.specs.declared.ledger.Change.TheVariants.{Pair, Accept, Retire}
use Rattle.gp_ideal.specs.Ledger.{Pairing, pairing_of, is_same, place, with_pairing, rows, row_of, values_of, live, floor, paired_at}
use Rattle.gp_sink.specs.Fits.{shown, pairing_in, IsRow, Fits}
use Rattle.gp_sink.specs.Ruled.{MayMake}
use Rattle.gp_sink.specs.Stored.{row_with, stored, StoresAs}
use Rattle.gp_ideal.proofs.Pairs.{bool_cases, cond_true, cond_false, same_is, is_same_as}
use Rattle.gp_ideal.proofs.Ledgers.{SameRow, floor-here, other_row, values-here, live-here, paired-here, retired-here, rows-pair, rows-accept, rows-retire, accept-keeps, retire-keeps, paired-within}

pub length-with_row : (table : List Row) (at : ℕ) (v : Row) → at ≤ length table → (length table ≤ length (with_row table at v)) × (at < length (with_row table at v))
length-with_row [] at v h = (omega arith, omega arith)
length-with_row (r ∷ table) zero v h = (omega arith, omega arith)
length-with_row (r ∷ table) (suc at) v h = let rest = length-with_row table at v (omega arith) in (omega (arith, rest.0), omega (arith, rest.1))

-- the place of a pair is the number of its row
pub place_is_row : (src : ℕ) (key : List ℕ) (table : List Row) → place (src, key) (map pairing_in table) ≡ place_of src key table
unfolding place_of
place_is_row src key [] = refl
place_is_row src key (row ∷ table) = elim (bool_cases (is_of src key row)) [
  | inl e ↦
      let its = is_of-true src key row e in
      let same : is_same (src, key) (pairing_in row) ≡ true = is_same_as (src, key) (pairing_in row) (sym (ap (λ (n : ℕ). (n, row.key.0)) its.0 ∙ ap (λ (k : List ℕ). (src, k)) its.1)) in
      rw (cond_true (is_same (src, key) (pairing_in row)) 0 (suc (place (src, key) (map pairing_in table))) same, cond_true (is_of src key row) 0 (suc (place_of src key table)) e) refl
  | inr e ↦
      let other : is_same (src, key) (pairing_in row) ≡ false = apart (is_same (src, key) (pairing_in row)) refl e in
      rw (cond_false (is_same (src, key) (pairing_in row)) 0 (suc (place (src, key) (map pairing_in table))) other, cond_false (is_of src key row) 0 (suc (place_of src key table)) e) (ap suc (place_is_row src key table))
]
  where
    apart : (b : Bool) → is_same (src, key) (pairing_in row) ≡ b → is_of src key row ≡ false → b ≡ false
    apart false is e = refl
    apart true is e =
        let its = same_is (src, key) (pairing_in row) is in
        let yes = is_of-same src key row (sym (ap (λ (p : Pairing). p.0) its)) (sym (ap (λ (p : Pairing). p.1) its)) in
        absurd cc

-- the pairs stay where a row is put over one of its pair
same_pairs : (table : List Row) (at : ℕ) (before v : Row) → slice_get table at ≡ Some before → pairing_in v ≡ pairing_in before → map pairing_in (with_row table at v) ≡ map pairing_in table
same_pairs [] at before v h e = absurd cc
same_pairs (x ∷ table) zero before v h e = let is : x ≡ before = cc in ap (λ (p : Pairing). p ∷ map pairing_in table) (e ∙ ap pairing_in (sym is))
same_pairs (x ∷ table) (suc at) before v h e = ap (λ (l : List Pairing). pairing_in x ∷ l) (same_pairs table at before v h e)

-- the pairs with that of a row, which is put at its place
placed_pairs : (table : List Row) (at : ℕ) (v : Row) → at ≡ place (pairing_in v) (map pairing_in table) → map pairing_in (with_row table at v) ≡ with_pairing (pairing_in v) (map pairing_in table)
placed_pairs [] at v e = refl
placed_pairs (x ∷ table) at v e = elim (bool_cases (is_same (pairing_in v) (pairing_in x))) [
  | inl s ↦
      let here : at ≡ 0 = e ∙ cond_true (is_same (pairing_in v) (pairing_in x)) 0 (suc (place (pairing_in v) (map pairing_in table))) s in
      subst (λ (k : ℕ). map pairing_in (with_row (x ∷ table) k v) ≡ with_pairing (pairing_in v) (map pairing_in (x ∷ table))) (sym here)
      (ap (λ (p : Pairing). p ∷ map pairing_in table) (same_is (pairing_in v) (pairing_in x) s) ∙ sym (cond_true (is_same (pairing_in v) (pairing_in x)) (pairing_in x ∷ map pairing_in table) (pairing_in x ∷ with_pairing (pairing_in v) (map pairing_in table)) s))
  | inr s ↦
      let there : at ≡ suc (place (pairing_in v) (map pairing_in table)) = e ∙ cond_false (is_same (pairing_in v) (pairing_in x)) 0 (suc (place (pairing_in v) (map pairing_in table))) s in
      subst (λ (k : ℕ). map pairing_in (with_row (x ∷ table) k v) ≡ with_pairing (pairing_in v) (map pairing_in (x ∷ table))) (sym there)
      (ap (λ (l : List Pairing). pairing_in x ∷ l) (placed_pairs table (place (pairing_in v) (map pairing_in table)) v refl) ∙ sym (cond_false (is_same (pairing_in v) (pairing_in x)) (pairing_in x ∷ map pairing_in table) (pairing_in x ∷ with_pairing (pairing_in v) (map pairing_in table)) s))
]

-- the row that a change gives stands to the others as its pairing does
record IsOrdered (table : List Row) (ledger : List Change) (x : Change) (at : ℕ) (v : Row) : Type 0 where
  below : (k : ℕ) (other : Row) → slice_get table k ≡ Some other → (k ≡ at → ⊥) → other.src.0 ≡ v.src.0 → other.order < v.order → paired_at ledger k < paired_at (x ∷ ledger) at
  above : (k : ℕ) (other : Row) → slice_get table k ≡ Some other → (k ≡ at → ⊥) → other.src.0 ≡ v.src.0 → v.order < other.order → paired_at (x ∷ ledger) at < paired_at ledger k

-- one row changes as the ledger has it, and the others stay
fits_with : (table : List Row) (ledger : List Change) (x : Change) (at : ℕ) (v : Row) → Fits table ledger → row_of x ledger ≡ at → at ≤ length table → map pairing_in (with_row table at v) ≡ rows (x ∷ ledger) → IsRow (x ∷ ledger) at v → IsOrdered table ledger x at v → Fits (with_row table at v) (x ∷ ledger)
fits_with table ledger x at v f row within pairs its ordered_as = record {
  pairs = pairs;
  each = λ k r h. each k r (slice_get_in_with_row table at k v r within h);
  order = λ i j a b p q s less. order i j a b s less (slice_get_in_with_row table at i v a within p) (slice_get_in_with_row table at j v b within q);
  behind = λ k past.
      let longer = length-with_row table at v within in
      (stays k (λ e. apart (longer.1) past e)).has_floor ∙ f.behind k (omega (arith, longer.0));
}
  where
    apart : {m k : ℕ} → at < m → m ≤ k → k ≡ at → ⊥
    apart p q e = omega arith

    stays : (k : ℕ) → (k ≡ at → ⊥) → SameRow ledger (x ∷ ledger) k
    stays k n = other_row x ledger k (λ e. n (sym e ∙ row))

    each : (k : ℕ) (r : Row) → ((k ≡ at) × (r ≡ v)) ⊎ ((k ≡ at → ⊥) × (slice_get table k ≡ Some r)) → IsRow (x ∷ ledger) k r
    each k r (inl p) = subst (λ (n : ℕ). IsRow (x ∷ ledger) n r) (sym p.0) (subst (λ (y : Row). IsRow (x ∷ ledger) at y) (sym p.1) its)
    each k r (inr p) = let same = stays k p.0 in let was = f.each k r p.1 in
        record { values = same.values ∙ was.values; is_live = same.is_live ∙ was.is_live; has_floor = same.has_floor ∙ was.has_floor }

    order : (i j : ℕ) (a b : Row) → a.src.0 ≡ b.src.0 → a.order < b.order → ((i ≡ at) × (a ≡ v)) ⊎ ((i ≡ at → ⊥) × (slice_get table i ≡ Some a)) → ((j ≡ at) × (b ≡ v)) ⊎ ((j ≡ at → ⊥) × (slice_get table j ≡ Some b)) → paired_at (x ∷ ledger) i < paired_at (x ∷ ledger) j
    order i j a b s less (inl p) (inl q) = let e : a.order ≡ b.order = ap (λ (r : Row). r.order) (p.1 ∙ sym q.1) in absurd (omega arith)
    order i j a b s less (inl p) (inr q) =
        let src : b.src.0 ≡ v.src.0 = sym s ∙ ap (λ (r : Row). r.src.0) p.1 in
        let o : a.order ≡ v.order = ap (λ (r : Row). r.order) p.1 in
        let known = ordered_as.above j b q.1 q.0 src (omega arith) in
        let same = (stays j q.0).paired in
        let here = ap (paired_at (x ∷ ledger)) p.0 in omega arith
    order i j a b s less (inr p) (inl q) =
        let src : a.src.0 ≡ v.src.0 = s ∙ ap (λ (r : Row). r.src.0) q.1 in
        let o : b.order ≡ v.order = ap (λ (r : Row). r.order) q.1 in
        let known = ordered_as.below i a p.1 p.0 src (omega arith) in
        let same = (stays i p.0).paired in
        let here = ap (paired_at (x ∷ ledger)) q.0 in omega arith
    order i j a b s less (inr p) (inr q) =
        let known = f.order i j a b p.1 q.1 s less in
        let one = (stays i p.0).paired in
        let other = (stays j q.0).paired in omega arith

-- a row whose order and pairing stay
kept_order : (table : List Row) (ledger : List Change) (x : Change) (at : ℕ) (before v : Row) → Fits table ledger → slice_get table at ≡ Some before → v.src.0 ≡ before.src.0 → v.order ≡ before.order → paired_at (x ∷ ledger) at ≡ paired_at ledger at → IsOrdered table ledger x at v
kept_order table ledger x at before v f there src order same = record {
  below = λ k other h n s less. let known = f.order k at other before h there (s ∙ src) (omega arith) in omega arith;
  above = λ k other h n s less. let known = f.order at k before other there h (sym (s ∙ src)) (omega arith) in omega arith;
}

-- a counter is accepted
pub fits-raised : (table : List Row) (ledger : List Change) (at counter : ℕ) (row : Row) → Fits table ledger → slice_get table at ≡ Some row → row.floor < counter → Fits (applied (Raises at counter) table) (Accept at counter ∷ ledger)
fits-raised table ledger at counter row f there below =
    let was = f.each at row there in
    let keeps = accept-keeps at counter at ledger in
    let raises : floor (Accept at counter ∷ ledger) at ≡ counter = (let here = floor-here (Accept at counter) ledger at refl in let is = was.has_floor in omega arith) in
    let within = slice_get_within table at row there in
    subst (λ (l : List Row). Fits l (Accept at counter ∷ ledger)) (sym (applied-is (Raises at counter) table at (with_floor counter row) refl (value-raises table at counter row there)))
    (fits_with table ledger (Accept at counter) at (with_floor counter row) f refl (omega arith)
    (same_pairs table at row (with_floor counter row) there refl ∙ f.pairs ∙ sym (rows-accept at counter ledger))
    (record { values = keeps.0 ∙ was.values; is_live = keeps.1 ∙ was.is_live; has_floor = raises })
    (kept_order table ledger (Accept at counter) at row (with_floor counter row) f there refl refl keeps.2))

-- a row is unpaired
pub fits-retired : (table : List Row) (ledger : List Change) (at counter : ℕ) (row : Row) → Fits table ledger → slice_get table at ≡ Some row → row.floor < counter → Fits (applied (Retires at counter) table) (Retire at counter ∷ ledger)
fits-retired table ledger at counter row f there below =
    let was = f.each at row there in
    let keeps = retire-keeps at counter at ledger in
    let raises : floor (Retire at counter ∷ ledger) at ≡ counter = (let here = floor-here (Retire at counter) ledger at refl in let is = was.has_floor in omega arith) in
    let within = slice_get_within table at row there in
    subst (λ (l : List Row). Fits l (Retire at counter ∷ ledger)) (sym (applied-is (Retires at counter) table at (retired_row counter row) refl (value-retires table at counter row there)))
    (fits_with table ledger (Retire at counter) at (retired_row counter row) f refl (omega arith)
    (same_pairs table at row (retired_row counter row) there refl ∙ f.pairs ∙ sym (rows-retire at counter ledger))
    (record { values = keeps.0 ∙ was.values; is_live = retired-here at counter ledger; has_floor = raises })
    (kept_order table ledger (Retire at counter) at row (retired_row counter row) f there refl refl keeps.1))

-- the number of a pairing's row, by the rows and by the ledger
pub place-paired : (table : List Row) (ledger : List Change) (values : Values) → Fits table ledger → place_of values.src.0 values.key.0 table ≡ place (pairing_of values) (rows ledger)
place-paired table ledger values f = sym (place_is_row values.src.0 values.key.0 table) ∙ ap (place (pairing_of values)) f.pairs

-- what a pairing leaves of its row: all but the floor is the pairing's, and the floor is the greater one
record IsPaired (ledger : List Change) (at : ℕ) (row v : Row) : Type 0 where
  values : shown v ≡ shown row
  is_live : v.live ≡ row.live
  order : v.order ≡ row.order
  has_floor : max (floor ledger at) row.floor ≡ v.floor

paired_row-is : (table : List Row) (ledger : List Change) (row : Row) (at : ℕ) → Fits table ledger → IsPaired ledger at row (paired_row row (slice_get table at))
paired_row-is table ledger row at f = from (slice_get table at) refl
  where
    past : (l : List Row) (k : ℕ) → slice_get l k ≡ None → length l ≤ k
    past [] k h = omega arith
    past (x ∷ l) zero h = absurd cc
    past (x ∷ l) (suc k) h = let rest = past l k h in omega (arith, rest)

    from : (before : Option Row) → slice_get table at ≡ before → IsPaired ledger at row (paired_row row before)
    from None is = record { values = refl; is_live = refl; order = refl; has_floor = (let none = f.behind at (past table at is) in omega arith) }
    from (Some before) is = record { values = refl; is_live = refl; order = refl; has_floor = ap (λ (n : ℕ). max n row.floor) (f.each at before is).has_floor }

-- a device is paired
pub fits-paired : (table : List Row) (ledger : List Change) (values : Values) (counter last : ℕ) → Fits table ledger → AreWithin last table
    → Fits (applied (Pairs (ordered last (row_with values counter))) table) (Pair values counter ∷ ledger)
unfolding value
fits-paired table ledger values counter last f within =
    let row = ordered last (row_with values counter) in
    let at = place_of values.src.0 values.key.0 table in
    let v = paired_row row (slice_get table at) in
    let x = Pair values counter in
    let its = paired_row-is table ledger row at f in
    let here : at ≡ row_of x ledger = place-paired table ledger values f in
    let pair : pairing_in v ≡ pairing_of values = ap (λ (w : Values). pairing_of w) its.values in
    let latest : paired_at (x ∷ ledger) at ≡ suc (length ledger) = ap (paired_at (x ∷ ledger)) here ∙ paired-here values counter ledger in
    subst (λ (l : List Row). Fits l (x ∷ ledger)) (sym (applied-is (Pairs row) table at v refl refl))
    (fits_with table ledger x at v f (sym here) (place_of-within values.src.0 values.key.0 table)
    (placed_pairs table at v (sym (ap (λ (p : Pairing). place p (map pairing_in table)) pair ∙ place_is_row values.src.0 values.key.0 table)) ∙ ap (λ (p : Pairing). with_pairing p (map pairing_in table)) pair ∙ ap (with_pairing (pairing_of values)) f.pairs ∙ sym (rows-pair values counter ledger))
    (record {
      values = ap (values_of (x ∷ ledger)) here ∙ values-here values counter ledger ∙ ap (λ (w : Values). Some w) (sym its.values);
      is_live = ap (live (x ∷ ledger)) here ∙ live-here values counter ledger ∙ sym its.is_live;
      has_floor = floor-here x ledger at (sym here) ∙ its.has_floor;
    })
    (record {
      below = λ k other h n s less. let before = paired-within ledger k in let now = latest in omega arith;
      above = λ k other h n s less. let most = within k other h in let o = its.order in absurd (omega arith);
    }))

-- a change that may be made is stored as one that makes the rows fit the ledger with it
pub stores_as : (table : List Row) (ledger : List Change) (change : Change) (last : ℕ) → Fits table ledger → AreWithin last table → MayMake table change → StoresAs ledger change table (stored last change)
stores_as table ledger (Pair values counter) last f within due = record { at = place-paired table ledger values f; fits = fits-paired table ledger values counter last f within }
stores_as table ledger (Accept at counter) last f within due = record { at = refl; fits = fits-raised table ledger at counter due.0 f due.1 due.2 }
stores_as table ledger (Retire at counter) last f within due = record { at = refl; fits = fits-retired table ledger at counter due.0 f due.1 due.2 }
