-- What keeps a list of row numbers an index.
use Rattle.std.proofs.Common.{◌≡◌, ◌⊎◌, inl, inr, ⊎_elim, ℕ, ◌+◌, ◌-◌, ◌<◌, ◌≤◌, List, [], ◌∷◌, ◌++◌, length, set, false, true, Some, Option, refl, sym, ◌∙◌, ap, arith, slice_get, get_or, length-append}
use Rattle.std.proofs.lemmas.List.{length-set}
use Rattle.std.proofs.lemmas.List.Edits.{length-insert, length-remove, get_or-insert_below, get_or-insert_at, get_or-insert_above, get_or-remove_below, get_or-remove_above}
use Rattle.std.specs.List.{insert, remove}
use Rattle.std.specs.Cmp.{IsTotalOrder, upto, alike_right}
use Rattle.std.specs.declared.cmp.Ordering.{Ordering}
use Rattle.std.specs.declared.cmp.Ordering.TheVariants.{Less, Equal, Greater}
use Rattle.std.specs.Ordering.{is_gt, ordering_index, ordering_reverse}
use Rattle.gp_rows.specs.declared.row.Row.{Row}
use Rattle.gp_rows.specs.Index.{IsAt, IsIndex, Rises, IsPlace}
use Rattle.gp_rows.proofs.Lists.{slice_get_in_set, slice_get_in_push}

less_or_more : (k i : ℕ) → (k < i) ⊎ ((k ≡ i) ⊎ (i < k))
less_or_more k i = grind arith

-- where the k-th number of a list stood before one was put at i or taken from there
record Was (xs : List ℕ) (i k v : ℕ) : Type 0 where
  place : ℕ
  within : place < length xs
  is : v ≡ get_or xs place 0
  other : k ≡ i → ⊥
  below : k < i → place ≡ k
  above : i < k → place + 1 ≡ k

at_insert : (xs : List ℕ) (i y k : ℕ) → i ≤ length xs → k < length (insert xs i y) → ((k ≡ i) × (get_or (insert xs i y) k 0 ≡ y)) ⊎ Was xs i k (get_or (insert xs i y) k 0)
at_insert xs i y k l h = by (less_or_more k i)
  where
    by : (k < i) ⊎ ((k ≡ i) ⊎ (i < k)) → ((k ≡ i) × (get_or (insert xs i y) k 0 ≡ y)) ⊎ Was xs i k (get_or (insert xs i y) k 0)
    by (inl b) = inr (record { place = k; within = omega arith; is = get_or-insert_below xs i y 0 k b l; other = omega arith; below = λ _. refl; above = omega arith })
    by (inr (inl e)) = inl (e, ap (λ j. get_or (insert xs i y) j 0) e ∙ get_or-insert_at xs i y 0 l)
    by (inr (inr a)) =
        let one : k ≡ (k - 1) + 1 = omega arith in
        let n = length-insert xs i y l in
        inr (record {
          place = k - 1;
          within = omega arith;
          is = ap (λ j. get_or (insert xs i y) j 0) one ∙ get_or-insert_above xs i y 0 (k - 1) (omega arith) l;
          other = omega arith;
          below = omega arith;
          above = omega arith;
        })

at_remove : (xs : List ℕ) (i k : ℕ) → i < length xs → k < length (remove xs i) → (j : ℕ) × (j < length xs) × (get_or (remove xs i) k 0 ≡ get_or xs j 0) × (j ≡ i → ⊥) × (k < i → j ≡ k) × (i ≤ k → j ≡ k + 1)
at_remove xs i k l h = by (less_or_more k i)
  where
    from : i ≤ k → (j : ℕ) × (j < length xs) × (get_or (remove xs i) k 0 ≡ get_or xs j 0) × (j ≡ i → ⊥) × (k < i → j ≡ k) × (i ≤ k → j ≡ k + 1)
    from a = (k + 1, omega (arith, length-remove xs i l), get_or-remove_above xs i 0 k a l, omega arith, omega arith, λ _. refl)

    by : (k < i) ⊎ ((k ≡ i) ⊎ (i < k)) → (j : ℕ) × (j < length xs) × (get_or (remove xs i) k 0 ≡ get_or xs j 0) × (j ≡ i → ⊥) × (k < i → j ≡ k) × (i ≤ k → j ≡ k + 1)
    by (inl b) = (k, omega arith, get_or-remove_below xs i 0 k b l, omega arith, λ _. refl, omega arith)
    by (inr (inl e)) = from (omega arith)
    by (inr (inr a)) = from (omega arith)

-- places shift in order
after_remove-same : (at i j p q : ℕ) → (i < at → p ≡ i) → (at ≤ i → p ≡ i + 1) → (j < at → q ≡ j) → (at ≤ j → q ≡ j + 1) → p ≡ q → i ≡ j
after_remove-same at i j p q a b c d e = grind arith

after_remove-below : (at i j p q : ℕ) → (i < at → p ≡ i) → (at ≤ i → p ≡ i + 1) → (j < at → q ≡ j) → (at ≤ j → q ≡ j + 1) → i < j → p < q
after_remove-below at i j p q a b c d e = grind arith

after_insert-same : (at i j p q : ℕ) → (i ≡ at → ⊥) → (i < at → p ≡ i) → (at < i → p + 1 ≡ i) → (j ≡ at → ⊥) → (j < at → q ≡ j) → (at < j → q + 1 ≡ j) → p ≡ q → i ≡ j
after_insert-same at i j p q m a b n c d e = grind arith

after_insert-below : (at i j p q : ℕ) → (i ≡ at → ⊥) → (i < at → p ≡ i) → (at < i → p + 1 ≡ i) → (j ≡ at → ⊥) → (j < at → q ≡ j) → (at < j → q + 1 ≡ j) → i < j → p < q
after_insert-below at i j p q m a b n c d e = grind arith

-- a comparison that doesn't fall in the order doesn't fall along an index
pub IsIndex-rises : (cmp : Row → Row → Ordering) (answer : Row → Ordering) (rows : List Row) (but : ℕ) (index : List ℕ) → IsIndex cmp rows but index
    → ((a b : Row) → is_gt (cmp a b) ≡ false → ordering_index (answer a) ≤ ordering_index (answer b)) → Rises answer rows index
IsIndex-rises cmp answer rows but index x up = record { within = x.within; rises = λ i j a b l m p q. up a b (x.sorted i j a b l m p q) }

-- the comparison with one value doesn't fall in a total order
pub total-rises : {K : Type 0} (cmp : K → K → Ordering) → IsTotalOrder cmp → (t a b : K) → is_gt (cmp a b) ≡ false → ordering_index (cmp a t) ≤ ordering_index (cmp b t)
total-rises cmp o t a b h = by (cmp a t) (cmp b t) refl refl
  where
    turned : (p : Ordering) → ordering_reverse p ≡ Less → p ≡ Greater
    turned Less e = cc
    turned Equal e = cc
    turned Greater e = refl

    by : (p q : Ordering) → cmp a t ≡ p → cmp b t ≡ q → ordering_index p ≤ ordering_index q
    by Less q e f = omega arith
    by p Greater e f = top p
      where
        top : (p : Ordering) → ordering_index p ≤ 2
        top Less = omega arith
        top Equal = omega arith
        top Greater = omega arith
    by Equal Equal e f = omega arith
    by Greater Equal e f = absurd (no (sym (ap is_gt e) ∙ upto o a b t h (ap is_gt f)))
      where
        no : true ≡ false → ⊥
        no e = cc
    by Greater Less e f = absurd (no (sym (ap is_gt e) ∙ upto o a b t h (ap is_gt f)))
      where
        no : true ≡ false → ⊥
        no e = cc
    by Equal Less e f =
        let back : ordering_reverse (cmp a b) ≡ Less = sym (o.antisymm b a) ∙ alike_right o a t b e ∙ f in
        absurd (no (sym (ap is_gt (turned (cmp a b) back)) ∙ h))
      where
        no : true ≡ false → ⊥
        no e = cc

-- a row that isn't in the index may change
pub IsIndex-set : (cmp : Row → Row → Ordering) (rows : List Row) (at : ℕ) (row : Row) (index : List ℕ) → IsIndex cmp rows at index → IsIndex cmp (set rows at row) at index
IsIndex-set cmp rows at row index x = record {
  within = λ i l. omega (arith, x.within i l, length-set rows at row);
  apart = x.apart;
  once = x.once;
  covers = λ k l. x.covers k (omega (arith, length-set rows at row));
  sorted = λ i j a b l m p q. x.sorted i j a b l m (was i a (omega arith) p) (was j b m q);
}
  where
    was : (i : ℕ) (a : Row) → i < length index → IsAt (set rows at row) index i a → IsAt rows index i a
    was i a l p = ⊎_elim (λ e. absurd (x.apart i l e.0)) (λ e. e.1) (slice_get_in_set rows at (get_or index i 0) row a p)

-- a row may change that stays where it was in the order
pub IsIndex-alike : (cmp : Row → Row → Ordering) (rows : List Row) (but at : ℕ) (before row : Row) (index : List ℕ) → slice_get rows at ≡ Some before
    → ((r : Row) → cmp row r ≡ cmp before r) → ((r : Row) → cmp r row ≡ cmp r before) → IsIndex cmp rows but index → IsIndex cmp (set rows at row) but index
IsIndex-alike cmp rows but at before row index there left right x = record {
  within = λ i l. omega (arith, x.within i l, length-set rows at row);
  apart = x.apart;
  once = x.once;
  covers = λ k l. x.covers k (omega (arith, length-set rows at row));
  sorted = λ i j a b l m p q. kept i j a b l m (slice_get_in_set rows at (get_or index i 0) row a p) (slice_get_in_set rows at (get_or index j 0) row b q);
}
  where
    at_place : (k : ℕ) → k ≡ at → slice_get rows k ≡ Some before
    at_place k e = ap (λ k. slice_get rows k) e ∙ there

    kept : (i j : ℕ) (a b : Row) → i < j → j < length index
        → ((get_or index i 0 ≡ at) × (a ≡ row)) ⊎ ((get_or index i 0 ≡ at → ⊥) × (slice_get rows (get_or index i 0) ≡ Some a))
        → ((get_or index j 0 ≡ at) × (b ≡ row)) ⊎ ((get_or index j 0 ≡ at → ⊥) × (slice_get rows (get_or index j 0) ≡ Some b)) → is_gt (cmp a b) ≡ false
    kept i j a b l m (inl p) (inl q) = absurd (omega (arith, x.once i j (omega arith) m (p.0 ∙ sym q.0)))
    kept i j a b l m (inl p) (inr q) = ap (λ r. is_gt (cmp r b)) p.1 ∙ ap is_gt (left b) ∙ x.sorted i j before b l m (at_place (get_or index i 0) p.0) q.1
    kept i j a b l m (inr p) (inl q) = ap (λ r. is_gt (cmp a r)) q.1 ∙ ap is_gt (right a) ∙ x.sorted i j a before l m p.1 (at_place (get_or index j 0) q.0)
    kept i j a b l m (inr p) (inr q) = x.sorted i j a b l m p.1 q.1

-- a row is added that isn't in the index yet
pub IsIndex-push : (cmp : Row → Row → Ordering) (rows : List Row) (row : Row) (index : List ℕ) → IsIndex cmp rows (length rows) index → IsIndex cmp (rows ++ row ∷ []) (length rows) index
IsIndex-push cmp rows row index x = record {
  within = λ i l. omega (arith, x.within i l, length-append rows (row ∷ []));
  apart = x.apart;
  once = x.once;
  covers = λ k l apart. x.covers k (omega (arith, length-append rows (row ∷ []))) apart;
  sorted = λ i j a b l m p q. x.sorted i j a b l m (was i a (omega arith) p) (was j b m q);
}
  where
    was : (i : ℕ) (a : Row) → i < length index → IsAt (rows ++ row ∷ []) index i a → IsAt rows index i a
    was i a l p = ⊎_elim (λ e. e.1) (λ e. absurd (x.apart i l e.0)) (slice_get_in_push rows row a (get_or index i 0) p)

-- the number at a place is taken out
pub IsIndex-remove : (cmp : Row → Row → Ordering) (rows : List Row) (at place : ℕ) (index : List ℕ) → IsIndex cmp rows (length rows) index → place < length index → get_or index place 0 ≡ at → IsIndex cmp rows at (remove index place)
IsIndex-remove cmp rows at place index x h e = record {
  within = λ i l. let w = at_remove index place i h l in omega (arith, w.2, x.within w.0 w.1);
  apart = λ i l q. let w = at_remove index place i h l in w.3 (x.once w.0 place w.1 h (sym w.2 ∙ q ∙ sym e));
  once = λ i j l m q. let v = at_remove index place i h l in let w = at_remove index place j h m in
      let same : v.0 ≡ w.0 = x.once v.0 w.0 v.1 w.1 (sym v.2 ∙ q ∙ w.2) in
      after_remove-same place i j v.0 w.0 v.4 v.5 w.4 w.5 same;
  covers = λ k l apart. let w = x.covers k l (λ f. omega (arith, l, f)) in from k apart w.0 w.1 w.2 (less_or_more w.0 place);
  sorted = λ i j a b l m p q. let v = at_remove index place i h (omega arith) in let w = at_remove index place j h m in
      x.sorted v.0 w.0 a b (after_remove-below place i j v.0 w.0 v.4 v.5 w.4 w.5 l) w.1 (sym (ap (λ k. slice_get rows k) v.2) ∙ p) (sym (ap (λ k. slice_get rows k) w.2) ∙ q);
}
  where
    from : (k : ℕ) → (k ≡ at → ⊥) → (j : ℕ) → j < length index → get_or index j 0 ≡ k → (j < place) ⊎ ((j ≡ place) ⊎ (place < j)) → (i : ℕ) × (i < length (remove index place)) × (get_or (remove index place) i 0 ≡ k)
    from k apart j l f (inl b) = (j, omega (arith, length-remove index place h), get_or-remove_below index place 0 j b h ∙ f)
    from k apart j l f (inr (inl s)) = absurd (apart (sym f ∙ ap (λ i. get_or index i 0) s ∙ e))
    from k apart j l f (inr (inr a)) =
        let one : (j - 1) + 1 ≡ j = omega arith in
        (j - 1, omega (arith, length-remove index place h), get_or-remove_above index place 0 (j - 1) (omega arith) h ∙ ap (λ i. get_or index i 0) one ∙ f)

-- the row that isn't in the index is put at its place
pub IsIndex-insert : (cmp : Row → Row → Ordering) → IsTotalOrder cmp → (rows : List Row) (at place : ℕ) (row : Row) (index : List ℕ) (kept : Option ℕ)
    → IsIndex cmp rows at index → slice_get rows at ≡ Some row → at < length rows → IsPlace (λ r. cmp r row) rows index place kept → IsIndex cmp rows (length rows) (insert index place at)
IsIndex-insert cmp o rows at place row index kept x there low is = record {
  within = λ i l. inside i (at_insert index place at i is.inside l);
  apart = λ i l e. omega (arith, inside i (at_insert index place at i is.inside l), e);
  once = λ i j l m e. single i j e (at_insert index place at i is.inside l) (at_insert index place at j is.inside m);
  covers = λ k l apart. from k l (equal_or_not k at);
  sorted = λ i j a b l m p q. ordered i j a b l p q (at_insert index place at i is.inside (omega arith)) (at_insert index place at j is.inside m);
}
  where
    equal_or_not : (k i : ℕ) → (k ≡ i) ⊎ (k ≡ i → ⊥)
    equal_or_not k i = grind arith

    new : List ℕ
    new = insert index place at

    inside : (i : ℕ) → ((i ≡ place) × (get_or (insert index place at) i 0 ≡ at)) ⊎ Was index place i (get_or (insert index place at) i 0) → get_or (insert index place at) i 0 < length rows
    inside i (inl p) = omega (arith, p.1)
    inside i (inr w) = omega (arith, w.is, x.within w.place w.within)

    single : (i j : ℕ) → get_or (insert index place at) i 0 ≡ get_or (insert index place at) j 0
        → ((i ≡ place) × (get_or (insert index place at) i 0 ≡ at)) ⊎ Was index place i (get_or (insert index place at) i 0)
        → ((j ≡ place) × (get_or (insert index place at) j 0 ≡ at)) ⊎ Was index place j (get_or (insert index place at) j 0) → i ≡ j
    single i j e (inl p) (inl q) = p.0 ∙ sym q.0
    single i j e (inl p) (inr q) = absurd (x.apart q.place q.within (sym q.is ∙ sym e ∙ p.1))
    single i j e (inr p) (inl q) = absurd (x.apart p.place p.within (sym p.is ∙ e ∙ q.1))
    single i j e (inr p) (inr q) = let same : p.place ≡ q.place = x.once p.place q.place p.within q.within (sym p.is ∙ e ∙ q.is) in
        after_insert-same place i j p.place q.place p.other p.below p.above q.other q.below q.above same

    from : (k : ℕ) → k < length rows → (k ≡ at) ⊎ (k ≡ at → ⊥) → (i : ℕ) × (i < length (insert index place at)) × (get_or (insert index place at) i 0 ≡ k)
    from k l (inl e) = (place, omega (arith, length-insert index place at is.inside, is.inside), get_or-insert_at index place at 0 is.inside ∙ sym e)
    from k l (inr apart) = let w = x.covers k l apart in put w.0 w.1 w.2 (less_or_more w.0 place)
      where
        put : (j : ℕ) → j < length index → get_or index j 0 ≡ k → (j < place) ⊎ ((j ≡ place) ⊎ (place < j)) → (i : ℕ) × (i < length (insert index place at)) × (get_or (insert index place at) i 0 ≡ k)
        put j m f (inl b) = (j, omega (arith, length-insert index place at is.inside), get_or-insert_below index place at 0 j b is.inside ∙ f)
        put j m f (inr (inl s)) = (j + 1, omega (arith, length-insert index place at is.inside), get_or-insert_above index place at 0 j (omega arith) is.inside ∙ f)
        put j m f (inr (inr a)) = (j + 1, omega (arith, length-insert index place at is.inside), get_or-insert_above index place at 0 j (omega arith) is.inside ∙ f)

    moved : (v k : ℕ) (a : Row) → v ≡ k → slice_get rows v ≡ Some a → slice_get rows k ≡ Some a
    moved v k a e p = sym (ap (λ k. slice_get rows k) e) ∙ p

    the_row : (v : ℕ) (a : Row) → v ≡ at → slice_get rows v ≡ Some a → a ≡ row
    the_row v a e p = let q = moved v at a e p in cc

    reversed : (p : Ordering) → p ≡ Greater → is_gt (ordering_reverse p) ≡ false
    reversed p e = ap (λ p. is_gt (ordering_reverse p)) e

    ordered : (i j : ℕ) (a b : Row) → i < j → IsAt rows (insert index place at) i a → IsAt rows (insert index place at) j b
        → ((i ≡ place) × (get_or (insert index place at) i 0 ≡ at)) ⊎ Was index place i (get_or (insert index place at) i 0)
        → ((j ≡ place) × (get_or (insert index place at) j 0 ≡ at)) ⊎ Was index place j (get_or (insert index place at) j 0) → is_gt (cmp a b) ≡ false
    ordered i j a b l p q (inl u) (inl v) = absurd (omega (arith, u.0, v.0))
    ordered i j a b l p q (inl u) (inr w) =
        ap (λ r. is_gt (cmp r b)) (the_row (get_or (insert index place at) i 0) a u.1 p)
        ∙ ap is_gt (o.antisymm row b)
        ∙ reversed (cmp b row) (is.after w.place (omega (arith, u.0, w.above)) w.within b (moved (get_or (insert index place at) j 0) (get_or index w.place 0) b w.is q))
    ordered i j a b l p q (inr u) (inl v) =
        ap (λ r. is_gt (cmp a r)) (the_row (get_or (insert index place at) j 0) b v.1 q)
        ∙ is.before u.place (omega (arith, v.0, u.below)) a (moved (get_or (insert index place at) i 0) (get_or index u.place 0) a u.is p)
    ordered i j a b l p q (inr u) (inr w) =
        x.sorted u.place w.place a b (after_insert-below place i j u.place w.place u.other u.below u.above w.other w.below w.above l) w.within
        (moved (get_or (insert index place at) i 0) (get_or index u.place 0) a u.is p) (moved (get_or (insert index place at) j 0) (get_or index w.place 0) b w.is q)
