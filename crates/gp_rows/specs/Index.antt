-- What private functions say: a list of row numbers in an order of the rows, and a search through it. No public clause
-- cites this file.
use Rattle.std.specs.Prelude.{◌≡◌, ◌<◌, ◌≤◌, ◌+◌, ℕ, false, List, length, slice_get, slice_index, Option, Some, MatchOption}
use Rattle.std.specs.declared.cmp.Ordering.{Ordering}
use Rattle.std.specs.declared.cmp.Ordering.TheVariants.{Equal, Greater}
use Rattle.std.specs.Ordering.{is_gt, nat_cmp, ordering_index, ordering_then}
use Rattle.std.specs.List.{insert}
use Rattle.std.specs.Cmp.Lexicographic.{slice_cmp}
use Rattle.gp_rows.specs.declared.row.Row.{Row}

-- the orders by SrcID and order, and by SrcID and key
abbrev pub by_order : Row → Row → Ordering
by_order a b = ordering_then (nat_cmp a.src.0 b.src.0) (nat_cmp a.order b.order)

abbrev pub by_pair : Row → Row → Ordering
by_pair a b = ordering_then (nat_cmp a.src.0 b.src.0) (slice_cmp nat_cmp a.key.0 b.key.0)

-- the i-th number of the list is that of this row
abbrev pub IsAt : List Row → List ℕ → ℕ → Row → Type 0
IsAt rows index i row = slice_get rows (slice_index index i) ≡ Some row

-- the list has the number of each row but this one, once, and the rows don't fall in the order
pub record IsIndex (cmp : Row → Row → Ordering) (rows : List Row) (but : ℕ) (index : List ℕ) : Type 0 where
  pub within : (i : ℕ) → i < length index → slice_index index i < length rows
  pub apart : (i : ℕ) → i < length index → slice_index index i ≡ but → ⊥
  pub once : (i j : ℕ) → i < length index → j < length index → slice_index index i ≡ slice_index index j → i ≡ j
  pub covers : (k : ℕ) → k < length rows → (k ≡ but → ⊥) → (i : ℕ) × (i < length index) × (slice_index index i ≡ k)
  pub sorted : (i j : ℕ) (a b : Row) → i < j → j < length index → IsAt rows index i a → IsAt rows index j b → is_gt (cmp a b) ≡ false

-- each number is that of a row, and what a comparison answers doesn't fall along the list
pub record Rises (answer : Row → Ordering) (rows : List Row) (index : List ℕ) : Type 0 where
  pub within : (i : ℕ) → i < length index → slice_index index i < length rows
  pub rises : (i j : ℕ) (a b : Row) → i < j → j < length index → IsAt rows index i a → IsAt rows index j b → ordering_index (answer a) ≤ ordering_index (answer b)

-- nothing before low is greater, all from high on is greater, and what is kept is the last row before low if it is equal
pub record IsHalved (answer : Row → Ordering) (rows : List Row) (index : List ℕ) (low high : ℕ) (kept : Option ℕ) : Type 0 where
  pub ordered : low ≤ high
  pub inside : high ≤ length index
  pub before : (i : ℕ) → i < low → (row : Row) → IsAt rows index i row → is_gt (answer row) ≡ false
  pub after : (i : ℕ) → high ≤ i → i < length index → (row : Row) → IsAt rows index i row → answer row ≡ Greater
  pub last : MatchOption kept
      ((i : ℕ) → i < low → (row : Row) → IsAt rows index i row → answer row ≡ Equal → ⊥)
      (λ k. (i : ℕ) × (row : Row) × (i + 1 ≡ low) × (slice_index index i ≡ k) × (slice_get rows k ≡ Some row) × (answer row ≡ Equal))

-- the place in an index before which no row is greater and from which on each is
abbrev pub IsPlace : (Row → Ordering) → List Row → List ℕ → ℕ → Option ℕ → Type 0
IsPlace answer rows index place kept = IsHalved answer rows index place place kept

-- a number was put at the place of a probe
pub record IsEntered (answer : Row → Ordering) (rows : List Row) (before : List ℕ) (at : ℕ) (after : List ℕ) : Type 0 where
  pub place : ℕ
  pub kept : Option ℕ
  pub found : IsPlace answer rows before place kept
  pub put : after ≡ insert before place at

-- both lists of a table: every row is in each, in its order
pub record IsIndexed (rows : List Row) (orders pairs : List ℕ) : Type 0 where
  pub orders_indexed : IsIndex by_order rows (length rows) orders
  pub pairs_indexed : IsIndex by_pair rows (length rows) pairs
  pub all_orders : length orders ≡ length rows
  pub all_pairs : length pairs ≡ length rows
