-- The ledger with which a sink begins over the rows of its disk.
use Rattle.std.specs.Prelude.{◌≡◌, ◌≤◌, ℕ, suc, nat_le, Bool, List, [], ◌∷◌, ◌++◌, map, if◌then◌else◌}
use Rattle.gp_rows.specs.declared.row.Row.{Row}
use Rattle.gp_ideal.specs.declared.ledger.Change.{Change}
use Rattle.gp_ideal.specs.declared.ledger.Change.TheVariants.{Pair, Retire}
use Rattle.gp_sink.specs.Fits.{shown}

-- a row is paired, with its floor
abbrev pub pairing : Row → Change
pairing row = Pair (shown row) row.floor

-- each row is paired, in row order; the newest change comes first
unfoldable pub paired_in_turn : List Row → List Change → List Change
paired_in_turn [] ledger = ledger
paired_in_turn (row ∷ rows) ledger = paired_in_turn rows (pairing row ∷ ledger)

-- a row among rows by falling order, behind those of its order
unfoldable pub put_by_order : Row → List Row → List Row
put_by_order row [] = row ∷ []
put_by_order row (other ∷ rows) = if nat_le row.order other.order then other ∷ put_by_order row rows else row ∷ other ∷ rows

-- the rows by falling order; of two of one order the one of greater number comes first
unfoldable pub by_order : List Row → List Row
by_order [] = []
by_order (row ∷ rows) = put_by_order row (by_order rows)

-- the rows from this number on that aren't live are retired, with their floors
unfoldable pub retired_from : ℕ → List Row → List Change → List Change
retired_from at [] ledger = ledger
retired_from at (row ∷ rows) ledger = retired_from (suc at) rows (if row.live then ledger else Retire at row.floor ∷ ledger)

-- each row is paired in row order, each again by rising order, and each that isn't live is retired
unfoldable pub opening : List Row → List Change
opening rows = retired_from 0 rows (map pairing (by_order rows) ++ paired_in_turn rows [])
