-- A state as four numbers, one a column, whose lowest octet is that of the first row.
use Rattle.std.specs.Prelude.{ℕ, List, ◌++◌, slice_index}
use Rattle.std.specs.Int.{w32, to_le_bytes}

-- the octets of a column, from the first row on
abbrev pub rows_of : ℕ → List ℕ
rows_of w = to_le_bytes w32 w

-- the octets of four columns
abbrev pub octets_of : List ℕ → List ℕ
octets_of ws =
    rows_of (slice_index ws 0) ++ (rows_of (slice_index ws 1) ++ (rows_of (slice_index ws 2) ++ rows_of (slice_index ws 3)))
