-- The changes of a table, and the rows after them.
use Rattle.std.specs.Prelude.{◌≡◌, ℕ, zero, suc, max, Bool, false, ◌&&◌, ◌==◌, if◌then◌else◌, List, [], ◌∷◌, length, slice_get, Option, Some, None}
use Rattle.std.specs.Option.{option_map, option_map_or}
use Rattle.std.specs.Str.{bytes_eq}
use Rattle.gp_rows.specs.declared.row.Row.{Row}
use Rattle.gp_rows.specs.Rows.{IsNewPair, CAPACITY}

-- a pairing of this row's SrcID and key, with its values, its order and its counter; a counter that is accepted at the row
-- of a number; and one that unpairs it
pub data Change : Type 0 where
  Pairs : Row → Change
  Raises : ℕ → ℕ → Change
  Retires : ℕ → ℕ → Change

-- the row is of this SrcID and key
abbrev pub is_of : ℕ → List ℕ → Row → Bool
is_of src key row = row.src.0 == src && bytes_eq row.key.0 key

-- the number of the row of a SrcID and key, or the next number where there is none
unfoldable pub place_of : ℕ → List ℕ → List Row → ℕ
place_of src key [] = 0
place_of src key (row ∷ rows) = if is_of src key row then 0 else suc (place_of src key rows)

-- the number of the row that changes
abbrev pub place : Change → List Row → ℕ
place (Pairs row) rows = place_of row.src.0 row.key.0 rows
place (Raises at counter) rows = at
place (Retires at counter) rows = at

-- a row that is paired, over the one that was there: it keeps the greater floor
abbrev pub paired_row : Row → Option Row → Row
paired_row row None = row
paired_row row (Some before) = record row { floor = max before.floor row.floor }

-- a row with this counter as its floor
abbrev pub with_floor : ℕ → Row → Row
with_floor counter row = record row { floor = counter }

-- a row that is unpaired by a frame with this counter
abbrev pub retired_row : ℕ → Row → Row
retired_row counter row = record row { live = false; floor = counter }

-- the values of that row afterwards; none where there is no such row
unfoldable pub value : Change → List Row → Option Row
value (Pairs row) rows = Some (paired_row row (slice_get rows (place_of row.src.0 row.key.0 rows)))
value (Raises at counter) rows = option_map (with_floor counter) (slice_get rows at)
value (Retires at counter) rows = option_map (retired_row counter) (slice_get rows at)

-- the rows with this one at its place, or at the end
abbrev pub with_row : List Row → ℕ → Row → List Row
with_row [] at row = row ∷ []
with_row (other ∷ rows) zero row = row ∷ rows
with_row (other ∷ rows) (suc at) row = other ∷ with_row rows at row

-- the rows after a change
unfoldable pub applied : Change → List Row → List Row
applied change rows = option_map_or (with_row rows (place change rows)) (value change rows) rows

-- there is no room for a change: it pairs a new SrcID and key, and the table is full
abbrev pub HasNoRoom : Change → List Row → Type 0
HasNoRoom (Pairs row) rows = IsNewPair rows row × (length rows ≡ CAPACITY)
HasNoRoom (Raises at counter) rows = ⊥
HasNoRoom (Retires at counter) rows = ⊥
