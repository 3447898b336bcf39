-- An image holds one list of rows, and has one last generation; the rows are a table, with orders within that generation.
use Rattle.std.proofs.Common.{◌≡◌, inl, inr, ℕ, zero, suc, ◌<◌, ◌≤◌, List, [], ◌∷◌, Option, Some, None, length, refl, sym, ◌∙◌, ap, arith, slice_get}
use Rattle.std.proofs.lemmas.Bool.{cases_lt}
use Rattle.gp_rows.specs.declared.row.Row.{Row}
use Rattle.gp_rows.specs.Rows.{IsTable, AreWithin}
use Rattle.gp_store.specs.Slots.{newest}
use Rattle.gp_store.specs.Image.{slots, format_1, HoldsRow, HoldsRows, HasLast}
use Rattle.gp_store.specs.Recovery.{HasRows}
use Rattle.gp_store.proofs.Consistent.{newest_is_open}
use Rattle.gp_store.proofs.OneRow.{shows_one, row_past}
use Rattle.gp_store.proofs.RowsHeld.{slot_of_row, last_within}

one_at : (slot : Option (List ℕ)) (x y : Option Row) → HoldsRow 0 slot x → HoldsRow 0 slot y → x ≡ y
one_at None None None p q = refl
one_at None None (Some b) p q = absurd q
one_at None (Some a) y p q = absurd p
one_at (Some octets) None y p q = absurd p
one_at (Some octets) (Some a) None p q = absurd q
one_at (Some octets) (Some a) (Some b) p q = ap (λ (r : Row). Some r) (shows_one octets 0 a b p q)

-- two lists with the same rows at every number are one
same_rows : (xs ys : List Row) → ((k : ℕ) → slice_get xs k ≡ slice_get ys k) → xs ≡ ys
same_rows [] [] h = refl
same_rows [] (y ∷ ys) h = let e = h 0 in absurd cc
same_rows (x ∷ xs) [] h = let e = h 0 in absurd cc
same_rows (x ∷ xs) (y ∷ ys) h =
    let here : Some x ≡ Some y = h 0 in
    let e : x ≡ y = cc in
    ap (λ (r : Row). r ∷ xs) e ∙ ap (λ (l : List Row). y ∷ l) (same_rows xs ys (λ k. h (suc k)))

pub one_list : (image : List ℕ) (xs ys : List Row) → HoldsRows image xs → HoldsRows image ys → xs ≡ ys
unfolding HoldsRows
one_list image xs ys p q = same_rows xs ys (λ r. one_at (newest (slots format_1 image) r) (slice_get xs r) (slice_get ys r) (p.each r) (q.each r))

pub one_last : (image : List ℕ) (m n : ℕ) → HasLast image m → HasLast image n → m ≡ n
unfolding HasLast
one_last image m n p q =
    let up = last_within (slots format_1 image) m n q.greatest p in
    let down = last_within (slots format_1 image) n m p.greatest q in
    omega arith

-- a list that has no row at a number is no longer than that
short : (rows : List Row) (n : ℕ) → None ≡ slice_get rows n → length rows ≤ n
short [] n none = omega arith
short (row ∷ rows) zero none = absurd cc
short (row ∷ rows) (suc n) none = let rest = short rows n none in omega arith

module _ (image : List ℕ) (rows : List Row) (holds : HoldsRows image rows) where
  -- a row of greater number has another SrcID and key, and another SrcID or order
  other_pair : (i j : ℕ) (a b : Row) → i < j → slice_get rows i ≡ Some a → slice_get rows j ≡ Some b → a.src.0 ≡ b.src.0 → a.key.0 ≡ b.key.0 → ⊥
  unfolding HoldsRows
  other_pair i j a b less there here source key =
      let p = slot_of_row (slots format_1 image) rows i a holds.each there in
      let q = slot_of_row (slots format_1 image) rows j b holds.each here in
      let t = newest_is_open (slots format_1 image) j q.0 q.1 in
      (holds.consistent j t.0 q.0 t.1).new_pair i p.0 less p.1 (record { same_source = sym p.2.has_source ∙ source ∙ q.2.has_source; same_key = sym p.2.has_key ∙ key ∙ q.2.has_key })

  other_order : (i j : ℕ) (a b : Row) → i < j → slice_get rows i ≡ Some a → slice_get rows j ≡ Some b → a.src.0 ≡ b.src.0 → a.order ≡ b.order → ⊥
  unfolding HoldsRows
  other_order i j a b less there here source order =
      let p = slot_of_row (slots format_1 image) rows i a holds.each there in
      let q = slot_of_row (slots format_1 image) rows j b holds.each here in
      let s = newest_is_open (slots format_1 image) i p.0 p.1 in
      let t = newest_is_open (slots format_1 image) j q.0 q.1 in
      (holds.consistent j t.0 q.0 t.1).new_order i s.0 p.0 less s.1 (record { same_source = sym p.2.has_source ∙ source ∙ q.2.has_source; same_order = sym p.2.has_order ∙ order ∙ q.2.has_order })

  pub held_table : IsTable rows
  held_table = record {
    few = short rows 1024 (row_past image rows 1024 holds (omega arith));
    pairs = λ i j a b there here source key. elim (cases_lt i j) [
      | inl less ↦ absurd (other_pair i j a b less there here source key)
      | inr most ↦ elim (cases_lt j i) [ inl less ↦ absurd (other_pair j i b a less here there (sym source) (sym key)) | inr least ↦ omega arith ]
    ];
    orders = λ i j a b there here source order. elim (cases_lt i j) [
      | inl less ↦ absurd (other_order i j a b less there here source order)
      | inr most ↦ elim (cases_lt j i) [ inl less ↦ absurd (other_order j i b a less here there (sym source) (sym order)) | inr least ↦ omega arith ]
    ];
  }

  pub held_within : (last : ℕ) → HasLast image last → AreWithin last rows
  unfolding HoldsRows HasLast
  held_within last is k row there =
      let p = slot_of_row (slots format_1 image) rows k row holds.each there in
      let s = newest_is_open (slots format_1 image) k p.0 p.1 in
      let numbers = (holds.consistent k s.0 p.0 s.1).formed.numbers in
      let most = is.greatest k s.0 p.0 s.1 in
      omega (arith, numbers.order_within, p.2.has_order, most)

  pub has_rows : (last : ℕ) → HasLast image last → HasRows image rows last
  has_rows last is = record { holds = holds; has_last = is; only = λ others other. one_list image others rows other holds; only_last = λ other has. one_last image other last has is }
