-- What keeps both lists of a table.
use Rattle.std.proofs.Common.{◌≡◌, ℕ, ◌+◌, ◌<◌, List, [], ◌∷◌, ◌++◌, length, set, Some, refl, ◌∙◌, ap, arith, slice_get, get_or, length-append}
use Rattle.std.proofs.lemmas.List.{length-set}
use Rattle.std.proofs.lemmas.List.Edits.{length-insert, length-remove}
use Rattle.std.proofs.lemmas.Option.{slice_get_within}
use Rattle.std.specs.List.{remove}
use Rattle.std.specs.Cmp.{IsTotalOrder}
use Rattle.std.specs.Cmp.Lexicographic.{slice_cmp}
use Rattle.std.specs.declared.cmp.Ordering.{Ordering}
use Rattle.std.specs.Ordering.{nat_cmp, ordering_then}
use Rattle.gp_rows.specs.declared.row.Row.{Row}
use Rattle.gp_rows.specs.Index.{IsIndex, IsEntered, IsIndexed, by_order, by_pair}
use Rattle.gp_rows.proofs.Lists.{slice_get-set_same}
use Rattle.gp_rows.proofs.Indexes.{IsIndex-set, IsIndex-alike, IsIndex-push, IsIndex-remove, IsIndex-insert}
use Rattle.gp_rows.proofs.Places.{by_order-total, by_pair-total}

order-left : (a b r : Row) → a.src.0 ≡ b.src.0 → a.order ≡ b.order → by_order a r ≡ by_order b r
order-left a b r e f = ap (λ s. ordering_then (nat_cmp s r.src.0) (nat_cmp a.order r.order)) e ∙ ap (λ o. ordering_then (nat_cmp b.src.0 r.src.0) (nat_cmp o r.order)) f

order-right : (a b r : Row) → a.src.0 ≡ b.src.0 → a.order ≡ b.order → by_order r a ≡ by_order r b
order-right a b r e f = ap (λ s. ordering_then (nat_cmp r.src.0 s) (nat_cmp r.order a.order)) e ∙ ap (λ o. ordering_then (nat_cmp r.src.0 b.src.0) (nat_cmp r.order o)) f

pair-left : (a b r : Row) → a.src.0 ≡ b.src.0 → a.key.0 ≡ b.key.0 → by_pair a r ≡ by_pair b r
pair-left a b r e f = ap (λ s. ordering_then (nat_cmp s r.src.0) (slice_cmp nat_cmp a.key.0 r.key.0)) e ∙ ap (λ k. ordering_then (nat_cmp b.src.0 r.src.0) (slice_cmp nat_cmp k r.key.0)) f

pair-right : (a b r : Row) → a.src.0 ≡ b.src.0 → a.key.0 ≡ b.key.0 → by_pair r a ≡ by_pair r b
pair-right a b r e f = ap (λ s. ordering_then (nat_cmp r.src.0 s) (slice_cmp nat_cmp r.key.0 a.key.0)) e ∙ ap (λ k. ordering_then (nat_cmp r.src.0 b.src.0) (slice_cmp nat_cmp r.key.0 k)) f

-- the last row of a list
slice_get-last : (rows : List Row) (row : Row) → slice_get (rows ++ row ∷ []) (length rows) ≡ Some row
slice_get-last [] row = refl
slice_get-last (r ∷ rows) row = slice_get-last rows row

pub IsIndex-entered : (cmp : Row → Row → Ordering) → IsTotalOrder cmp → (rows : List Row) (at : ℕ) (row : Row) (before after : List ℕ) → IsIndex cmp rows at before → slice_get rows at ≡ Some row
    → IsEntered (λ r. cmp r row) rows before at after → IsIndex cmp rows (length rows) after × (length after ≡ length before + 1)
IsIndex-entered cmp o rows at row before after x there e =
    (rw e.put (IsIndex-insert cmp o rows at e.place row before e.kept x there (slice_get_within rows at row there) e.found), rw e.put (length-insert before e.place at e.found.inside))

pub IsIndexed-push : (rows : List Row) (row : Row) (orders pairs orders' pairs' : List ℕ) → IsIndexed rows orders pairs
    → IsEntered (λ r. by_order r row) (rows ++ row ∷ []) orders (length rows) orders' → IsEntered (λ r. by_pair r row) (rows ++ row ∷ []) pairs (length rows) pairs'
    → IsIndexed (rows ++ row ∷ []) orders' pairs'
IsIndexed-push rows row orders pairs orders' pairs' x p q =
    let more = length-append rows (row ∷ []) in
    let o = IsIndex-entered by_order by_order-total (rows ++ row ∷ []) (length rows) row orders orders' (IsIndex-push by_order rows row orders x.orders_indexed) (slice_get-last rows row) p in
    let k = IsIndex-entered by_pair by_pair-total (rows ++ row ∷ []) (length rows) row pairs pairs' (IsIndex-push by_pair rows row pairs x.pairs_indexed) (slice_get-last rows row) q in
    record { orders_indexed = o.0; pairs_indexed = k.0; all_orders = omega (arith, o.1, x.all_orders, more); all_pairs = omega (arith, k.1, x.all_pairs, more) }

pub IsIndexed-set : (rows : List Row) (at : ℕ) (before row : Row) (orders pairs : List ℕ) → IsIndexed rows orders pairs → slice_get rows at ≡ Some before
    → row.src.0 ≡ before.src.0 → row.key.0 ≡ before.key.0 → row.order ≡ before.order → IsIndexed (set rows at row) orders pairs
IsIndexed-set rows at before row orders pairs x there src key order = record {
  orders_indexed = let same = length-set rows at row in rw same (IsIndex-alike by_order rows (length rows) at before row orders there (λ r. order-left row before r src order) (λ r. order-right row before r src order) x.orders_indexed);
  pairs_indexed = let same = length-set rows at row in rw same (IsIndex-alike by_pair rows (length rows) at before row pairs there (λ r. pair-left row before r src key) (λ r. pair-right row before r src key) x.pairs_indexed);
  all_orders = omega (arith, x.all_orders, length-set rows at row);
  all_pairs = omega (arith, x.all_pairs, length-set rows at row);
}

-- the number of a row is taken out before the row changes
pub IsIndex-pulled : (rows : List Row) (at place : ℕ) (row : Row) (orders pairs : List ℕ) → IsIndexed rows orders pairs → place < length orders → get_or orders place 0 ≡ at
    → IsIndex by_order (set rows at row) at (remove orders place)
IsIndex-pulled rows at place row orders pairs x h e = IsIndex-set by_order rows at row (remove orders place) (IsIndex-remove by_order rows at place orders x.orders_indexed h e)

pub IsIndexed-revive : (rows : List Row) (at place : ℕ) (before row : Row) (orders pairs orders' : List ℕ) → IsIndexed rows orders pairs → slice_get rows at ≡ Some before
    → row.src.0 ≡ before.src.0 → row.key.0 ≡ before.key.0 → place < length orders → get_or orders place 0 ≡ at
    → IsEntered (λ r. by_order r row) (set rows at row) (remove orders place) at orders' → IsIndexed (set rows at row) orders' pairs
IsIndexed-revive rows at place before row orders pairs orders' x there src key h e p =
    let o = IsIndex-entered by_order by_order-total (set rows at row) at row (remove orders place) orders' (IsIndex-pulled rows at place row orders pairs x h e) (slice_get-set_same rows at row (slice_get_within rows at before there)) p in
    record {
      orders_indexed = o.0;
      pairs_indexed = let same = length-set rows at row in rw same (IsIndex-alike by_pair rows (length rows) at before row pairs there (λ r. pair-left row before r src key) (λ r. pair-right row before r src key) x.pairs_indexed);
      all_orders = omega (arith, o.1, x.all_orders, length-set rows at row, length-remove orders place h);
      all_pairs = omega (arith, x.all_pairs, length-set rows at row);
    }
