-- How the rows of a sink stand for a ledger, the list of all its changes.
use Rattle.std.specs.Prelude.{◌≡◌, ◌<◌, ◌≤◌, ℕ, List, length, slice_get, Some, map}
use Rattle.gp_rows.specs.declared.row.Row.{Row}
use Rattle.gp_store.specs.Image.{HoldsRows}
use Rattle.gp_ideal.specs.declared.ledger.Values.{Values}
use Rattle.gp_ideal.specs.declared.ledger.Change.{Change}
use Rattle.gp_ideal.specs.Ledger.{Pairing, rows, values_of, live, floor, paired_at}

-- what a row has of a pairing
abbrev pub shown : Row → Values
shown row = record { src = row.src; key = row.key; kind = row.kind; level = row.level; mode = row.mode; group = row.group; device = row.device }

-- its SrcID and key
abbrev pub pairing_in : Row → Pairing
pairing_in row = (row.src.0, row.key.0)

-- in the ledger the row of this number has these values, is live or not as here, and has this floor
pub record IsRow (ledger : List Change) (at : ℕ) (row : Row) : Type 0 where
  pub values : values_of ledger at ≡ Some (shown row)
  pub is_live : live ledger at ≡ row.live
  pub has_floor : floor ledger at ≡ row.floor

-- The rows are those of the ledger, in every field but order; of two rows of one SrcID the one with the greater order was
-- paired later; and a row that isn't there has floor 0.
pub record Fits (table : List Row) (ledger : List Change) : Type 0 where
  pub pairs : map pairing_in table ≡ rows ledger
  pub each : (at : ℕ) (row : Row) → slice_get table at ≡ Some row → IsRow ledger at row
  pub order : (i j : ℕ) (a b : Row) → slice_get table i ≡ Some a → slice_get table j ≡ Some b → a.src.0 ≡ b.src.0 → a.order < b.order → paired_at ledger i < paired_at ledger j
  pub behind : (at : ℕ) → length table ≤ at → floor ledger at ≡ 0

-- an image holds rows that fit the ledger
abbrev pub ImageFits : List Change → List ℕ → Type 0
ImageFits ledger image = (rows : List Row) × HoldsRows image rows × Fits rows ledger
