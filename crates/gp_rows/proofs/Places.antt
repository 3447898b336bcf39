-- What the place that a search found says.
use Rattle.std.proofs.Common.{◌≡◌, ◌⊎◌, inl, inr, ℕ, ◌-◌, ◌<◌, ◌≤◌, List, [], ◌∷◌, length, false, true, Some, None, Option, refl, sym, ◌∙◌, ap, arith, slice_get, get_or}
use Rattle.std.proofs.lemmas.Option.{slice_get_within}
use Rattle.std.proofs.lemmas.Cmp.{ranked, nat_cmp_total, on_total, then_total, nat_list_cmp_total, tied_itself}
use Rattle.std.specs.Cmp.{IsTotalOrder}
use Rattle.std.specs.Cmp.Lexicographic.{slice_cmp}
use Rattle.std.specs.declared.cmp.Ordering.{Ordering}
use Rattle.std.specs.declared.cmp.Ordering.TheVariants.{Less, Equal, Greater}
use Rattle.std.specs.Ordering.{is_gt, ordering_index, nat_cmp, ordering_then, MatchOrdering}
use Rattle.gp_rows.specs.declared.row.Row.{Row}
use Rattle.gp_rows.specs.Rows.{IsNewest, IsPair, IsTable}
use Rattle.gp_rows.specs.Index.{IsAt, IsIndex, Rises, IsPlace, by_order, by_pair}
use Rattle.gp_rows.proofs.Indexes.{IsIndex-rises, total-rises}

-- ---- the two orders

abbrev numbers : ℕ × ℕ → ℕ × ℕ → Ordering
numbers x y = ordering_then (nat_cmp x.0 y.0) (nat_cmp x.1 y.1)

abbrev number_and_list : ℕ × List ℕ → ℕ × List ℕ → Ordering
number_and_list x y = ordering_then (nat_cmp x.0 y.0) (slice_cmp nat_cmp x.1 y.1)

numbers-total : IsTotalOrder numbers
numbers-total = then_total (on_total (λ (p : ℕ × ℕ). p.0) nat_cmp_total) (on_total (λ (p : ℕ × ℕ). p.1) nat_cmp_total)

number_and_list-total : IsTotalOrder number_and_list
number_and_list-total = then_total (on_total (λ (p : ℕ × List ℕ). p.0) nat_cmp_total) (on_total (λ (p : ℕ × List ℕ). p.1) nat_list_cmp_total)

pub by_order-total : IsTotalOrder by_order
by_order-total = on_total (λ (r : Row). (r.src.0, r.order)) numbers-total

pub by_pair-total : IsTotalOrder by_pair
by_pair-total = on_total (λ (r : Row). (r.src.0, r.key.0)) number_and_list-total

first-not_greater : (o p : Ordering) → is_gt (ordering_then o p) ≡ false → is_gt o ≡ false
first-not_greater Less p h = refl
first-not_greater Equal p h = refl
first-not_greater Greater p h = h

both-equal : (o p : Ordering) → ordering_then o p ≡ Equal → (o ≡ Equal) × (p ≡ Equal)
both-equal Less p h = absurd (omega (arith, ap ordering_index h))
both-equal Equal p h = (refl, h)
both-equal Greater p h = absurd (omega (arith, ap ordering_index h))

equal-numbers : (a b : ℕ) → nat_cmp a b ≡ Equal → a ≡ b
equal-numbers a b e = from (nat_cmp a b) e (ranked a b (nat_cmp a b) refl)
  where
    from : (o : Ordering) → o ≡ Equal → MatchOrdering o (a < b) (a ≡ b) (b < a) → a ≡ b
    from Less e h = absurd (omega (arith, ap ordering_index e))
    from Equal e h = h
    from Greater e h = absurd (omega (arith, ap ordering_index e))

not_greater-numbers : (a b : ℕ) → is_gt (nat_cmp a b) ≡ false → a ≤ b
not_greater-numbers a b e = from (nat_cmp a b) e (ranked a b (nat_cmp a b) refl)
  where
    no : true ≡ false → ⊥
    no e = cc

    from : (o : Ordering) → is_gt o ≡ false → MatchOrdering o (a < b) (a ≡ b) (b < a) → a ≤ b
    from Less e h = omega arith
    from Equal e h = omega arith
    from Greater e h = absurd (no e)

equal-lists : (xs ys : List ℕ) → slice_cmp nat_cmp xs ys ≡ Equal → xs ≡ ys
equal-lists [] [] e = refl
equal-lists [] (y ∷ ys) e = absurd (omega (arith, ap ordering_index e))
equal-lists (x ∷ xs) [] e = absurd (omega (arith, ap ordering_index e))
equal-lists (x ∷ xs) (y ∷ ys) e =
    let both = both-equal (nat_cmp x y) (slice_cmp nat_cmp xs ys) e in
    let head : x ≡ y = equal-numbers x y both.0 in
    let tail : xs ≡ ys = equal-lists xs ys both.1 in
    cc

numbers-equal : (a b : ℕ) → a ≡ b → nat_cmp a b ≡ Equal
numbers-equal a b e = ap (λ n. nat_cmp n b) e ∙ tied_itself nat_cmp_total b

lists-equal : (a b : List ℕ) → a ≡ b → slice_cmp nat_cmp a b ≡ Equal
lists-equal a b e = ap (λ n. slice_cmp nat_cmp n b) e ∙ tied_itself nat_list_cmp_total b

-- ---- what may be searched for

pub rises-source : (rows : List Row) (but : ℕ) (index : List ℕ) (src : ℕ) → IsIndex by_order rows but index → Rises (λ r. nat_cmp r.src.0 src) rows index
rises-source rows but index src x = IsIndex-rises by_order (λ r. nat_cmp r.src.0 src) rows but index x
    (λ a b h. total-rises nat_cmp nat_cmp_total src a.src.0 b.src.0 (first-not_greater (nat_cmp a.src.0 b.src.0) (nat_cmp a.order b.order) h))

pub rises-order : (rows : List Row) (but : ℕ) (index : List ℕ) (src order : ℕ) → IsIndex by_order rows but index → Rises (λ r. ordering_then (nat_cmp r.src.0 src) (nat_cmp r.order order)) rows index
rises-order rows but index src order x = IsIndex-rises by_order (λ r. ordering_then (nat_cmp r.src.0 src) (nat_cmp r.order order)) rows but index x
    (λ a b h. total-rises numbers numbers-total (src, order) (a.src.0, a.order) (b.src.0, b.order) h)

pub rises-pair : (rows : List Row) (but : ℕ) (index : List ℕ) (src : ℕ) (key : List ℕ) → IsIndex by_pair rows but index → Rises (λ r. ordering_then (nat_cmp r.src.0 src) (slice_cmp nat_cmp r.key.0 key)) rows index
rises-pair rows but index src key x = IsIndex-rises by_pair (λ r. ordering_then (nat_cmp r.src.0 src) (slice_cmp nat_cmp r.key.0 key)) rows but index x
    (λ a b h. total-rises number_and_list number_and_list-total (src, key) (a.src.0, a.key.0) (b.src.0, b.key.0) h)

-- ---- what was found

-- a row that is equal stands before the end
equal-before : (cmp : Row → Row → Ordering) (answer : Row → Ordering) (rows : List Row) (index : List ℕ) (end : ℕ) (kept : Option ℕ) → IsIndex cmp rows (length rows) index → IsPlace answer rows index end kept
    → (k : ℕ) (row : Row) → slice_get rows k ≡ Some row → answer row ≡ Equal → (i : ℕ) × (i < end) × (get_or index i 0 ≡ k) × IsAt rows index i row
equal-before cmp answer rows index end kept x is k row there e =
    let w = x.covers k (slice_get_within rows k row there) (λ f. omega (arith, slice_get_within rows k row there, f)) in
    let at : IsAt rows index w.0 row = ap (λ n. slice_get rows n) w.2 ∙ there in
    by w.0 w.1 w.2 at (split w.0 end)
  where
    split : (i j : ℕ) → (i < j) ⊎ (j ≤ i)
    split i j = grind arith

    by : (i : ℕ) → i < length index → get_or index i 0 ≡ k → IsAt rows index i row → (i < end) ⊎ (end ≤ i) → (i : ℕ) × (i < end) × (get_or index i 0 ≡ k) × IsAt rows index i row
    by i l f at (inl b) = (i, b, f, at)
    by i l f at (inr a) = absurd (omega (arith, ap ordering_index (sym (is.after i a l row at) ∙ e)))

none-equal : (cmp : Row → Row → Ordering) (answer : Row → Ordering) (rows : List Row) (index : List ℕ) (end : ℕ) → IsIndex cmp rows (length rows) index → IsPlace answer rows index end None
    → (k : ℕ) (row : Row) → slice_get rows k ≡ Some row → answer row ≡ Equal → ⊥
none-equal cmp answer rows index end x is k row there e =
    let w = equal-before cmp answer rows index end None x is k row there e in
    is.last w.0 w.1 row w.3 e

-- by SrcID: the newest row
pub found-newest : (rows : List Row) (index : List ℕ) (src end k : ℕ) → IsIndex by_order rows (length rows) index → IsPlace (λ r. nat_cmp r.src.0 src) rows index end (Some k) → (row : Row) × IsNewest rows src k row
found-newest rows index src end k x is = (
  is.last.1,
  record {
    there = is.last.4;
    source = equal-numbers is.last.1.src.0 src is.last.5;
    newest = λ j other p e.
        let w = equal-before by_order (λ r. nat_cmp r.src.0 src) rows index end (Some k) x is j other p (numbers-equal other.src.0 src e) in
        from j other p e w.0 w.1 w.2 w.3 (split w.0 is.last.0);
  },
)
  where
    split : (i j : ℕ) → (i < j) ⊎ (j ≤ i)
    split i j = grind arith

    last : IsAt rows index is.last.0 is.last.1
    last = ap (λ n. slice_get rows n) is.last.3 ∙ is.last.4

    from : (j : ℕ) (other : Row) → slice_get rows j ≡ Some other → other.src.0 ≡ src → (i : ℕ) → i < end → get_or index i 0 ≡ j → IsAt rows index i other → (i < is.last.0) ⊎ (is.last.0 ≤ i) → other.order ≤ is.last.1.order
    from j other p e i l f at (inl b) =
        let low = x.sorted i is.last.0 other is.last.1 b (omega (arith, is.inside, is.last.2)) at last in
        let same : other.src.0 ≡ is.last.1.src.0 = e ∙ sym (equal-numbers is.last.1.src.0 src is.last.5) in
        not_greater-numbers other.order is.last.1.order (let first = numbers-equal other.src.0 is.last.1.src.0 same in rw first at low)
    from j other p e i l f at (inr a) =
        let same : i ≡ is.last.0 = omega (arith, is.last.2) in
        let at' : IsAt rows index is.last.0 other = ap (λ n. slice_get rows (get_or index n 0)) (sym same) ∙ at in
        let row : other ≡ is.last.1 = let l = last in cc in
        omega (arith, ap (λ (r : Row). r.order) row)

pub found-no_source : (rows : List Row) (index : List ℕ) (src end : ℕ) → IsIndex by_order rows (length rows) index → IsPlace (λ r. nat_cmp r.src.0 src) rows index end None
    → (k : ℕ) (row : Row) → slice_get rows k ≡ Some row → row.src.0 ≡ src → ⊥
found-no_source rows index src end x is k row there e = none-equal by_order (λ r. nat_cmp r.src.0 src) rows index end x is k row there (numbers-equal row.src.0 src e)

-- by SrcID and key: the row of the pair
pub found-pair : (rows : List Row) (index : List ℕ) (src : ℕ) (key : List ℕ) (end k : ℕ) → IsPlace (λ r. ordering_then (nat_cmp r.src.0 src) (slice_cmp nat_cmp r.key.0 key)) rows index end (Some k) → IsPair rows src key k
found-pair rows index src key end k is =
    let both = both-equal (nat_cmp is.last.1.src.0 src) (slice_cmp nat_cmp is.last.1.key.0 key) is.last.5 in
    (is.last.1, is.last.4, equal-numbers is.last.1.src.0 src both.0, equal-lists is.last.1.key.0 key both.1)

pub found-no_pair : (rows : List Row) (index : List ℕ) (src : ℕ) (key : List ℕ) (end : ℕ) → IsIndex by_pair rows (length rows) index → IsPlace (λ r. ordering_then (nat_cmp r.src.0 src) (slice_cmp nat_cmp r.key.0 key)) rows index end None
    → (k : ℕ) → IsPair rows src key k → ⊥
found-no_pair rows index src key end x is k pair =
    let src_equal = numbers-equal pair.0.src.0 src pair.2 in
    let key_equal = lists-equal pair.0.key.0 key pair.3 in
    none-equal by_pair (λ r. ordering_then (nat_cmp r.src.0 src) (slice_cmp nat_cmp r.key.0 key)) rows index end x is k pair.0 pair.1 (rw src_equal key_equal)

-- by SrcID and order: the row of both stands last
pub found-row : (rows : List Row) (index : List ℕ) (at end : ℕ) (row : Row) (kept : Option ℕ) → IsTable rows → IsIndex by_order rows (length rows) index → slice_get rows at ≡ Some row
    → IsPlace (λ r. by_order r row) rows index end kept → (0 < end) × (end ≤ length index) × (get_or index (end - 1) 0 ≡ at)
found-row rows index at end row None t x there is = absurd (none-equal by_order (λ r. by_order r row) rows index end x is at row there (tied_itself by_order-total row))
found-row rows index at end row (Some k) t x there is =
    let both = both-equal (nat_cmp is.last.1.src.0 row.src.0) (nat_cmp is.last.1.order row.order) is.last.5 in
    let same : k ≡ at = t.orders k at is.last.1 row is.last.4 there (equal-numbers is.last.1.src.0 row.src.0 both.0) (equal-numbers is.last.1.order row.order both.1) in
    let one : end - 1 ≡ is.last.0 = omega (arith, is.last.2) in
    (omega (arith, is.last.2), is.inside, ap (λ n. get_or index n 0) one ∙ is.last.3 ∙ same)
