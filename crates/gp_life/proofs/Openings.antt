-- Rows that a disk holds fit the ledger that opens with them.
use Rattle.std.proofs.Common.{◌≡◌, ◌⊎◌, inl, inr, ⊎_elim, ℕ, zero, suc, ◌+◌, ◌-◌, ◌<◌, ◌≤◌, max, nat_le, Bool, true, false, List, [], ◌∷◌, ◌++◌, Option, Some, None, length, map, cond, option_map, refl, sym, ◌∙◌, ap, subst, arith, slice_get, append_assoc}
use Rattle.std.proofs.lemmas.Bool.{cases_eq, cases_lt}
use Rattle.std.proofs.lemmas.Bool.Decides.{nat_tests}
use Rattle.std.proofs.lemmas.List.{length-map}
use Rattle.std.proofs.lemmas.Option.{slice_get-map, slice_get_within, slice_get_past}
use Rattle.gp_rows.specs.declared.row.Row.{Row}
use Rattle.gp_rows.specs.Rows.{IsTable}
use Rattle.gp_ideal.specs.declared.ledger.Values.{Values}
use Rattle.gp_ideal.specs.declared.ledger.Change.{Change}
use Rattle.gp_ideal.specs.declared.ledger.Change.TheVariants.{Pair, Accept, Retire}
use Rattle.gp_ideal.specs.Ledger.{Pairing, is_same, place, with_pairing, rows, row_of, values_of, live, floor, paired_at}
use Rattle.gp_ideal.proofs.Pairs.{bool_cases, cond_true, cond_false, is_same_as, place_there, place_behind}
use Rattle.gp_ideal.proofs.Ledgers.{SameRow, floor-here, other_row, values-here, live-here, paired-here, retired-here, rows-pair, rows-retire, retire-keeps, paired-within}
use Rattle.gp_sink.specs.Fits.{shown, pairing_in, IsRow, Fits}
use Rattle.gp_life.specs.Opening.{pairing, paired_in_turn, put_by_order, by_order, retired_from, opening}

-- a pairing among those of rows is that of a row
of_map : (table : List Row) (k : ℕ) (p : Pairing) → slice_get (map pairing_in table) k ≡ Some p → (row : Row) × (slice_get table k ≡ Some row) × (pairing_in row ≡ p)
of_map [] k p h = absurd cc
of_map (row ∷ table) zero p h = (row, refl, cc)
of_map (row ∷ table) (suc k) p h = of_map table k p h

-- no two rows have one pairing
abbrev AreApart : List Row → Type 0
AreApart table = (i j : ℕ) (a b : Row) → slice_get table i ≡ Some a → slice_get table j ≡ Some b → a.src.0 ≡ b.src.0 → a.key.0 ≡ b.key.0 → i ≡ j

-- the ledger has these rows, all of them live
record Reads (table : List Row) (ledger : List Change) : Type 0 where
  pairs : map pairing_in table ≡ rows ledger
  each : (at : ℕ) (row : Row) → slice_get table at ≡ Some row → IsRow ledger at (record row { live = true })
  behind : (at : ℕ) → length table ≤ at → floor ledger at ≡ 0

same_as : (ledger : List Change) (x : Change) (at : ℕ) (row : Row) → (row_of x ledger ≡ at → ⊥) → IsRow ledger at row → IsRow (x ∷ ledger) at row
same_as ledger x at row n was = let same = other_row x ledger at n in record { values = same.values ∙ was.values; is_live = same.is_live ∙ was.is_live; has_floor = same.has_floor ∙ was.has_floor }

with_pairing-there : (p : Pairing) (ps : List Pairing) (at : ℕ) → slice_get ps at ≡ Some p → with_pairing p ps ≡ ps
with_pairing-there p [] at h = absurd cc
with_pairing-there p (q ∷ ps) at h = elim (bool_cases (is_same p q)) [
  | inl e ↦ cond_true (is_same p q) (q ∷ ps) (q ∷ with_pairing p ps) e
  | inr e ↦ cond_false (is_same p q) (q ∷ ps) (q ∷ with_pairing p ps) e ∙ behind at h e (λ k g. with_pairing-there p ps k g)
]
  where
    behind : (at : ℕ) → slice_get (q ∷ ps) at ≡ Some p → is_same p q ≡ false → ((k : ℕ) → slice_get ps k ≡ Some p → with_pairing p ps ≡ ps) → q ∷ with_pairing p ps ≡ q ∷ ps
    behind zero h e again = let is : q ≡ p = cc in absurd (differ (is_same p q) (is_same_as p q (sym is)) e)
      where
        differ : (b : Bool) → b ≡ true → b ≡ false → ⊥
        differ b t f = cc
    behind (suc k) h e again = ap (λ (l : List Pairing). q ∷ l) (again k h)

with_pairing-new : (p : Pairing) (ps : List Pairing) → place p ps ≡ length ps → with_pairing p ps ≡ ps ++ p ∷ []
with_pairing-new p [] e = refl
with_pairing-new p (q ∷ ps) e = elim (bool_cases (is_same p q)) [
  | inl t ↦ let here : 0 ≡ suc (length ps) = sym (cond_true (is_same p q) 0 (suc (place p ps)) t) ∙ e in absurd (omega arith)
  | inr t ↦ cond_false (is_same p q) (q ∷ ps) (q ∷ with_pairing p ps) t ∙ ap (λ (l : List Pairing). q ∷ l) (with_pairing-new p ps (let more : suc (place p ps) ≡ suc (length ps) = sym (cond_false (is_same p q) 0 (suc (place p ps)) t) ∙ e in omega arith))
]

get_front : (xs ys : List Row) (k : ℕ) (x : Row) → slice_get xs k ≡ Some x → slice_get (xs ++ ys) k ≡ Some x
get_front [] ys k x h = absurd cc
get_front (y ∷ xs) ys zero x h = h
get_front (y ∷ xs) ys (suc k) x h = get_front xs ys k x h

get_at : (xs ys : List Row) (y : Row) → slice_get (xs ++ y ∷ ys) (length xs) ≡ Some y
get_at [] ys y = refl
get_at (x ∷ xs) ys y = get_at xs ys y

get_last : (xs : List Row) (y : Row) (k : ℕ) (x : Row) → slice_get (xs ++ y ∷ []) k ≡ Some x → (slice_get xs k ≡ Some x) ⊎ ((k ≡ length xs) × (x ≡ y))
get_last [] y zero x h = inr (refl, cc)
get_last [] y (suc k) x h = absurd cc
get_last (z ∷ xs) y zero x h = inl h
get_last (z ∷ xs) y (suc k) x h = ⊎_elim (λ p. inl p) (λ p. inr (ap suc p.0, p.1)) (get_last xs y k x h)

map-last : (xs : List Row) (y : Row) → map pairing_in (xs ++ y ∷ []) ≡ map pairing_in xs ++ pairing_in y ∷ []
map-last [] y = refl
map-last (x ∷ xs) y = ap (λ (l : List Pairing). pairing_in x ∷ l) (map-last xs y)

length-last : (xs : List Row) (y : Row) → length (xs ++ y ∷ []) ≡ suc (length xs)
length-last [] y = refl
length-last (x ∷ xs) y = ap suc (length-last xs y)

-- a row of a new pair is paired
reads-new : (front : List Row) (row : Row) (ledger : List Change) → ((k : ℕ) (other : Row) → slice_get front k ≡ Some other → other.src.0 ≡ row.src.0 → other.key.0 ≡ row.key.0 → ⊥) → Reads front ledger → Reads (front ++ row ∷ []) (pairing row ∷ ledger)
reads-new front row ledger new r = record {
  pairs = map-last front row ∙ ap (λ (l : List Pairing). l ++ pairing_in row ∷ []) r.pairs ∙ sym (with_pairing-new (pairing_in row) (rows ledger) (behind ∙ ap length r.pairs)) ∙ sym (rows-pair (shown row) row.floor ledger);
  each = λ at x h. ⊎_elim
      (λ p. let within = slice_get_within front at x p in same_as ledger (pairing row) at (record x { live = true }) (λ e. apart at within e) (r.each at x p))
      (λ p. subst (λ (n : ℕ). IsRow (pairing row ∷ ledger) n (record x { live = true })) (here ∙ sym p.0) (subst (λ (q : Row). IsRow (pairing row ∷ ledger) (row_of (pairing row) ledger) (record q { live = true })) (sym p.1) itself))
      (get_last front row at x h);
  behind = λ at past. let long = length-last front row in (other_row (pairing row) ledger at (λ e. let is = here in omega arith)).has_floor ∙ r.behind at (omega arith);
}
  where
    behind : place (pairing_in row) (rows ledger) ≡ length (map pairing_in front)
    behind = ap (place (pairing_in row)) (sym r.pairs) ∙ place_behind (pairing_in row) (map pairing_in front) (λ k h. let found = of_map front k (pairing_in row) h in new k found.0 found.1 (ap (λ (q : Pairing). q.0) found.2) (ap (λ (q : Pairing). q.1) found.2))

    here : row_of (pairing row) ledger ≡ length front
    here = behind ∙ length-map front pairing_in

    apart : (at : ℕ) → at < length front → row_of (pairing row) ledger ≡ at → ⊥
    apart at within e = let is = here in omega arith

    itself : IsRow (pairing row ∷ ledger) (row_of (pairing row) ledger) (record row { live = true })
    itself = record {
      values = values-here (shown row) row.floor ledger;
      is_live = live-here (shown row) row.floor ledger;
      has_floor = let raised = floor-here (pairing row) ledger (row_of (pairing row) ledger) refl in let none = r.behind (row_of (pairing row) ledger) (let is = here in omega arith) in omega arith;
    }

reads-all : (front rest : List Row) (ledger : List Change) → AreApart (front ++ rest) → Reads front ledger → Reads (front ++ rest) (paired_in_turn rest ledger)
unfolding paired_in_turn
reads-all front [] ledger a r = subst (λ (l : List Row). Reads l ledger) (sym (append_none front)) r
  where
    append_none : (xs : List Row) → xs ++ [] ≡ xs
    append_none [] = refl
    append_none (x ∷ xs) = ap (λ (l : List Row). x ∷ l) (append_none xs)
reads-all front (row ∷ rest) ledger a r =
    let more : (front ++ row ∷ []) ++ rest ≡ front ++ row ∷ rest = append_assoc front (row ∷ []) rest in
    subst (λ (l : List Row). Reads l (paired_in_turn rest (pairing row ∷ ledger))) more
    (reads-all (front ++ row ∷ []) rest (pairing row ∷ ledger) (subst AreApart (sym more) a)
    (reads-new front row ledger (λ k other h s e.
    let same = a k (length front) other row (get_front front (row ∷ rest) k other h) (get_at front rest row) s e in
    let within = slice_get_within front k other h in omega arith) r))

no_rows : map pairing_in [] ≡ rows []
unfolding rows
no_rows = refl

no_floor : (at : ℕ) → floor [] at ≡ 0
unfolding floor
no_floor at = refl

module _ (table : List Row) (t : IsTable table) where
  -- the place of a row of the table
  placed : (ledger : List Change) → map pairing_in table ≡ rows ledger → (at : ℕ) (row : Row) → slice_get table at ≡ Some row → row_of (pairing row) ledger ≡ at
  placed ledger pairs at row there =
      let here : slice_get (map pairing_in table) at ≡ Some (pairing_in row) = slice_get-map pairing_in table at ∙ ap (option_map pairing_in) there in
      let found = of_map table (place (pairing_in row) (map pairing_in table)) (pairing_in row) (place_there (pairing_in row) (map pairing_in table) at here) in
      ap (place (pairing_in row)) (sym pairs) ∙ t.pairs _ at found.0 row found.1 there (ap (λ (q : Pairing). q.0) found.2) (ap (λ (q : Pairing). q.1) found.2)

  -- a row is paired again
  reads-again : (ledger : List Change) (k : ℕ) (r : Row) → slice_get table k ≡ Some r → Reads table ledger → Reads table (pairing r ∷ ledger)
  reads-again ledger k r there f =
      let here = placed ledger f.pairs k r there in
      let stands : slice_get (rows ledger) k ≡ Some (pairing_in r) = ap (λ (l : List Pairing). slice_get l k) (sym f.pairs) ∙ slice_get-map pairing_in table k ∙ ap (option_map pairing_in) there in
      record {
        pairs = f.pairs ∙ sym (with_pairing-there (pairing_in r) (rows ledger) k stands) ∙ sym (rows-pair (shown r) r.floor ledger);
        each = λ at row h. each here at row h;
        behind = λ at past. let within = slice_get_within table k r there in (other_row (pairing r) ledger at (λ e. omega arith)).has_floor ∙ f.behind at past;
      }
    where
      each : row_of (pairing r) ledger ≡ k → (at : ℕ) (row : Row) → slice_get table at ≡ Some row → IsRow (pairing r ∷ ledger) at (record row { live = true })
      each here at row h = elim (cases_eq k at) [
        | inl e ↦
            let both : Some r ≡ Some row = sym there ∙ ap (slice_get table) e ∙ h in
            let is : r ≡ row = cc in
            subst (λ (q : Row). IsRow (pairing r ∷ ledger) at (record q { live = true })) is (subst (λ (n : ℕ). IsRow (pairing r ∷ ledger) n (record r { live = true })) (here ∙ e) (record {
              values = values-here (shown r) r.floor ledger;
              is_live = live-here (shown r) r.floor ledger;
              has_floor = let raised = floor-here (pairing r) ledger (row_of (pairing r) ledger) refl in let was = (f.each k r there).has_floor in let same = ap (floor ledger) here in omega arith;
            }))
        | inr n ↦ same_as ledger (pairing r) at (record row { live = true }) (λ e. n (sym here ∙ e)) (f.each at row h)
      ]

  -- these rows are of the table
  abbrev AreThere : List Row → Type 0
  AreThere [] = Unit {0}
  AreThere (r ∷ s) = ((k : ℕ) × (slice_get table k ≡ Some r)) × AreThere s

  abbrev AreBelow : ℕ → List Row → Type 0
  AreBelow n [] = Unit {0}
  AreBelow n (r ∷ s) = (r.order ≤ n) × AreBelow n s

  -- their orders fall
  abbrev AreFalling : List Row → Type 0
  AreFalling [] = Unit {0}
  AreFalling (r ∷ s) = AreBelow r.order s × AreFalling s

  abbrev IsIn : Row → List Row → Type 0
  IsIn x [] = ⊥
  IsIn x (r ∷ s) = (r ≡ x) ⊎ IsIn x s

  below_in : (n : ℕ) (s : List Row) (x : Row) → AreBelow n s → IsIn x s → x.order ≤ n
  below_in n [] x b i = absurd i
  below_in n (r ∷ s) x b (inl e) = let same = ap (λ (q : Row). q.order) e in let low = b.0 in omega arith
  below_in n (r ∷ s) x b (inr i) = below_in n s x b.1 i

  below_more : (m n : ℕ) (s : List Row) → m ≤ n → AreBelow m s → AreBelow n s
  below_more m n [] h b = tt
  below_more m n (r ∷ s) h b = (let low = b.0 in omega arith, below_more m n s h b.1)

  le_true : (m n : ℕ) → nat_le m n ≡ true → m ≤ n
  le_true m n e = grind (arith, nat_tests)

  le_false : (m n : ℕ) → nat_le m n ≡ false → n ≤ m
  le_false m n e = grind (arith, nat_tests)

  put_below : (n : ℕ) (x : Row) (s : List Row) → x.order ≤ n → AreBelow n s → AreBelow n (put_by_order x s)
  unfolding put_by_order
  put_below n x [] h b = (h, tt)
  put_below n x (r ∷ s) h b = elim (bool_cases (nat_le x.order r.order)) [
    | inl e ↦ subst (AreBelow n) (sym (cond_true (nat_le x.order r.order) (r ∷ put_by_order x s) (x ∷ r ∷ s) e)) (b.0, put_below n x s h b.1)
    | inr e ↦ subst (AreBelow n) (sym (cond_false (nat_le x.order r.order) (r ∷ put_by_order x s) (x ∷ r ∷ s) e)) (h, b)
  ]

  put_falling : (x : Row) (s : List Row) → AreFalling s → AreFalling (put_by_order x s)
  unfolding put_by_order
  put_falling x [] f = (tt, tt)
  put_falling x (r ∷ s) f = elim (bool_cases (nat_le x.order r.order)) [
    | inl e ↦ subst AreFalling (sym (cond_true (nat_le x.order r.order) (r ∷ put_by_order x s) (x ∷ r ∷ s) e)) (put_below r.order x s (le_true x.order r.order e) f.0, put_falling x s f.1)
    | inr e ↦ subst AreFalling (sym (cond_false (nat_le x.order r.order) (r ∷ put_by_order x s) (x ∷ r ∷ s) e))
        ((le_false x.order r.order e, below_more r.order x.order s (le_false x.order r.order e) f.0), f)
  ]

  put_there : (x : Row) (s : List Row) (k : ℕ) → slice_get table k ≡ Some x → AreThere s → AreThere (put_by_order x s)
  unfolding put_by_order
  put_there x [] k h t = ((k, h), tt)
  put_there x (r ∷ s) k h t = elim (bool_cases (nat_le x.order r.order)) [
    | inl e ↦ subst AreThere (sym (cond_true (nat_le x.order r.order) (r ∷ put_by_order x s) (x ∷ r ∷ s) e)) (t.0, put_there x s k h t.1)
    | inr e ↦ subst AreThere (sym (cond_false (nat_le x.order r.order) (r ∷ put_by_order x s) (x ∷ r ∷ s) e)) ((k, h), t)
  ]

  put_in : (x y : Row) (s : List Row) → (x ≡ y) ⊎ IsIn y s → IsIn y (put_by_order x s)
  unfolding put_by_order
  put_in x y [] (inl e) = inl e
  put_in x y [] (inr i) = absurd i
  put_in x y (r ∷ s) i = elim (bool_cases (nat_le x.order r.order)) [
    | inl e ↦ subst (IsIn y) (sym (cond_true (nat_le x.order r.order) (r ∷ put_by_order x s) (x ∷ r ∷ s) e)) (deeper i (λ j. put_in x y s j))
    | inr e ↦ subst (IsIn y) (sym (cond_false (nat_le x.order r.order) (r ∷ put_by_order x s) (x ∷ r ∷ s) e)) i
  ]
    where
      deeper : (x ≡ y) ⊎ IsIn y (r ∷ s) → ((x ≡ y) ⊎ IsIn y s → IsIn y (put_by_order x s)) → IsIn y (r ∷ put_by_order x s)
      deeper (inl e) again = inr (again (inl e))
      deeper (inr (inl e)) again = inl e
      deeper (inr (inr i)) again = inr (again (inr i))

  sorted_falling : (l : List Row) → AreFalling (by_order l)
  unfolding by_order
  sorted_falling [] = tt
  sorted_falling (x ∷ l) = put_falling x (by_order l) (sorted_falling l)

  sorted_there : (l : List Row) (n : ℕ) → ((k : ℕ) → slice_get l k ≡ slice_get table (n + k)) → AreThere (by_order l)
  unfolding by_order
  sorted_there [] n h = tt
  sorted_there (x ∷ l) n h = put_there x (by_order l) (n + 0) (sym (h 0)) (sorted_there l (suc n) (λ k. h (suc k) ∙ ap (slice_get table) (omega arith)))

  sorted_in : (l : List Row) (k : ℕ) (x : Row) → slice_get l k ≡ Some x → IsIn x (by_order l)
  unfolding by_order
  sorted_in [] k x h = absurd cc
  sorted_in (y ∷ l) zero x h = put_in y x (by_order l) (inl cc)
  sorted_in (y ∷ l) (suc k) x h = put_in y x (by_order l) (inr (sorted_in l k x h))

  -- they are paired again by rising order
  reads-sorted : (s : List Row) (ledger : List Change) → AreThere s → Reads table ledger → Reads table (map pairing s ++ ledger)
  reads-sorted [] ledger a r = r
  reads-sorted (x ∷ s) ledger a r = reads-again (map pairing s ++ ledger) a.0.0 x a.0.1 (reads-sorted s ledger a.1 r)

  in_order : (s : List Row) (ledger : List Change) → AreThere s → AreFalling s → Reads table ledger → (i j : ℕ) (a b : Row) → slice_get table i ≡ Some a → slice_get table j ≡ Some b → a.order < b.order → IsIn b s → paired_at (map pairing s ++ ledger) i < paired_at (map pairing s ++ ledger) j
  in_order [] ledger th fa r i j a b p q less is = absurd is
  in_order (x ∷ s) ledger th fa r i j a b p q less is =
      let rest = reads-sorted s ledger th.1 r in
      let here = placed (map pairing s ++ ledger) rest.pairs th.0.0 x th.0.1 in
      elim (cases_eq th.0.0 j) [
        | inl e ↦
            let both : Some x ≡ Some b = sym th.0.1 ∙ ap (slice_get table) e ∙ q in
            let same : x ≡ b = cc in
            let other : row_of (pairing x) (map pairing s ++ ledger) ≡ i → ⊥ = λ w.
            let again : Some b ≡ Some a = sym q ∙ ap (slice_get table) (sym e ∙ sym here ∙ w) ∙ p in
            let are : b ≡ a = cc in let orders = ap (λ (y : Row). y.order) are in omega arith in
            let before = (other_row (pairing x) (map pairing s ++ ledger) i other).paired in
            let most = paired-within (map pairing s ++ ledger) i in
            let now : paired_at (pairing x ∷ map pairing s ++ ledger) j ≡ suc (length (map pairing s ++ ledger)) = ap (paired_at (pairing x ∷ map pairing s ++ ledger)) (sym e ∙ sym here) ∙ paired-here (shown x) x.floor (map pairing s ++ ledger) in
            omega arith
        | inr n ↦
            let stays = (other_row (pairing x) (map pairing s ++ ledger) j (λ w. n (sym here ∙ w))).paired in
            elim is [
              | inl e ↦
                  absurd (n (t.pairs th.0.0 j x b th.0.1 q (ap (λ (y : Row). y.src.0) e) (ap (λ (y : Row). y.key.0) e)))
              | inr more ↦
                  elim (cases_eq th.0.0 i) [
                    | inl e ↦
                        let both : Some x ≡ Some a = sym th.0.1 ∙ ap (slice_get table) e ∙ p in
                        let same : x ≡ a = cc in
                        let orders = ap (λ (y : Row). y.order) same in
                        let low = below_in x.order s b fa.0 more in absurd (omega arith)
                    | inr m ↦
                        let stays_too = (other_row (pairing x) (map pairing s ++ ledger) i (λ w. m (sym here ∙ w))).paired in
                        let was = in_order s ledger th.1 fa.1 r i j a b p q less more in omega arith
                  ]
            ]
      ]

  -- the rows below `n` are live or not as here, and the others live
  record Half (n : ℕ) (ledger : List Change) : Type 0 where
    pairs : map pairing_in table ≡ rows ledger
    values : (at : ℕ) (row : Row) → slice_get table at ≡ Some row → (values_of ledger at ≡ Some (shown row)) × (floor ledger at ≡ row.floor)
    done : (at : ℕ) (row : Row) → slice_get table at ≡ Some row → at < n → live ledger at ≡ row.live
    still : (at : ℕ) (row : Row) → slice_get table at ≡ Some row → n ≤ at → live ledger at ≡ true
    behind : (at : ℕ) → length table ≤ at → floor ledger at ≡ 0
    order : (i j : ℕ) (a b : Row) → slice_get table i ≡ Some a → slice_get table j ≡ Some b → a.order < b.order → paired_at ledger i < paired_at ledger j

  passed : (n : ℕ) (row : Row) (ledger : List Change) → slice_get table n ≡ Some row → row.live ≡ true → Half n ledger → Half (suc n) ledger
  passed n row ledger there is h = record {
    pairs = h.pairs;
    values = h.values;
    done = λ at x p less. elim (cases_eq at n) [
      | inl e ↦
          let both : Some x ≡ Some row = sym p ∙ ap (slice_get table) e ∙ there in
          let same : x ≡ row = cc in h.still at x p (omega arith) ∙ sym is ∙ ap (λ (y : Row). y.live) (sym same)
      | inr d ↦ h.done at x p (omega arith)
    ];
    still = λ at x p more. h.still at x p (omega arith);
    behind = h.behind;
    order = h.order;
  }

  retires : (n : ℕ) (row : Row) (ledger : List Change) → slice_get table n ≡ Some row → row.live ≡ false → Half n ledger → Half (suc n) (Retire n row.floor ∷ ledger)
  retires n row ledger there is h = record {
    pairs = h.pairs ∙ sym (rows-retire n row.floor ledger);
    values = λ at x p. ((retire-keeps n row.floor at ledger).0 ∙ (h.values at x p).0, floors at x p);
    done = λ at x p less. elim (cases_eq at n) [
      | inl e ↦
          let both : Some x ≡ Some row = sym p ∙ ap (slice_get table) e ∙ there in
          let same : x ≡ row = cc in ap (live (Retire n row.floor ∷ ledger)) e ∙ retired-here n row.floor ledger ∙ sym is ∙ ap (λ (y : Row). y.live) (sym same)
      | inr d ↦ (other_row (Retire n row.floor) ledger at (λ e. d (sym e))).is_live ∙ h.done at x p (omega arith)
    ];
    still = λ at x p more. (other_row (Retire n row.floor) ledger at (λ e. omega arith)).is_live ∙ h.still at x p (omega arith);
    behind = λ at past. let within = slice_get_within table n row there in (other_row (Retire n row.floor) ledger at (λ e. omega arith)).has_floor ∙ h.behind at past;
    order = λ i j a b p q less. let was = h.order i j a b p q less in let one = (retire-keeps n row.floor i ledger).1 in let other = (retire-keeps n row.floor j ledger).1 in omega arith;
  }
    where
      floors : (at : ℕ) (x : Row) → slice_get table at ≡ Some x → floor (Retire n row.floor ∷ ledger) at ≡ x.floor
      floors at x p = elim (cases_eq n at) [
        | inl e ↦
            let both : Some row ≡ Some x = sym there ∙ ap (slice_get table) e ∙ p in
            let same : row ≡ x = cc in
            let equal = ap (λ (y : Row). y.floor) same in
            let here = floor-here (Retire n row.floor) ledger at e in let was = (h.values at x p).1 in omega arith
        | inr d ↦ (other_row (Retire n row.floor) ledger at d).has_floor ∙ (h.values at x p).1
      ]

  half-all : (n : ℕ) (rest : List Row) (ledger : List Change) → ((k : ℕ) → slice_get rest k ≡ slice_get table (n + k)) → Half n ledger → Fits table (retired_from n rest ledger)
  unfolding retired_from
  half-all n [] ledger e h = record {
    pairs = h.pairs;
    each = λ at row p. let v = h.values at row p in record { values = v.0; is_live = h.done at row p (before at row p); has_floor = v.1 };
    order = λ i j a b p q s less. h.order i j a b p q less;
    behind = h.behind;
  }
    where
      before : (at : ℕ) (row : Row) → slice_get table at ≡ Some row → at < n
      before at row p = elim (cases_lt at n) [
        | inl less ↦ less
        | inr more ↦ let here : None ≡ Some row = e (at - n) ∙ ap (slice_get table) (sum more) ∙ p in absurd cc
      ]
        where
          sum : n ≤ at → n + (at - n) ≡ at
          sum more = omega arith
  half-all n (row ∷ rest) ledger e h =
      let there : slice_get table n ≡ Some row = ap (slice_get table) (zero_more n) ∙ sym (e 0) in
      half-all (suc n) rest (cond row.live ledger (Retire n row.floor ∷ ledger)) (λ k. e (suc k) ∙ ap (slice_get table) (one_more n k))
      (elim (bool_cases row.live) [
        | inl is ↦ subst (Half (suc n)) (sym (cond_true row.live ledger (Retire n row.floor ∷ ledger) is)) (passed n row ledger there is h)
        | inr is ↦ subst (Half (suc n)) (sym (cond_false row.live ledger (Retire n row.floor ∷ ledger) is)) (retires n row ledger there is h)
      ])
    where
      zero_more : (m : ℕ) → m ≡ m + 0
      zero_more m = omega arith

      one_more : (m k : ℕ) → m + suc k ≡ suc m + k
      one_more m k = omega arith

  from_zero : (k : ℕ) → slice_get table k ≡ slice_get table (0 + k)
  from_zero k = ap (slice_get table) (zero_before k)
    where
      zero_before : (m : ℕ) → m ≡ 0 + m
      zero_before m = omega arith

  -- the rows fit the ledger that opens with them
  pub opening-fits : Fits table (opening table)
  unfolding opening
  opening-fits =
      let first = reads-all [] table [] t.pairs (record { pairs = no_rows; each = λ at row h. absurd cc; behind = λ at past. no_floor at }) in
      let there = sorted_there table 0 from_zero in
      let again = reads-sorted (by_order table) (paired_in_turn table []) there first in
      half-all 0 table (map pairing (by_order table) ++ paired_in_turn table []) from_zero (record {
        pairs = again.pairs;
        values = λ at row p. let v = again.each at row p in (v.values, v.has_floor);
        done = λ at row p less. absurd (omega arith);
        still = λ at row p more. (again.each at row p).is_live;
        behind = again.behind;
        order = λ i j a b p q less. in_order (by_order table) (paired_in_turn table []) there (sorted_falling table) first i j a b p q less (sorted_in table j b q);
      })
