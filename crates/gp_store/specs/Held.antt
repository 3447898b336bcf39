-- One row of an image.
use Rattle.std.specs.Prelude.{◌≡◌, ℕ, List, Option, slice_get}
use Rattle.gp_rows.specs.declared.row.Row.{Row}
use Rattle.gp_store.specs.Image.{HoldsRows}

-- the row of this number of the rows that the image holds, where it holds as many
abbrev pub IsRowOf : List ℕ → ℕ → Option Row → Type 0
IsRowOf image at row = (rows : List Row) → HoldsRows image rows → row ≡ slice_get rows at

-- how many device calls it takes at most to read one row: a read of each of its slots
unfoldable pub held_calls : ℕ
held_calls = 2
