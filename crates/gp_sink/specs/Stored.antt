-- How a change of the ledger is stored: as which change of the rows.
use Rattle.std.specs.Prelude.{◌≡◌, ℕ, List, ◌∷◌, true}
use Rattle.gp_rows.specs.declared.row.Row.{Row}
use Rattle.gp_rows.specs.Changes.{Pairs, Raises, Retires, applied, place, Change as RowChange}
use Rattle.gp_store.specs.Commit.{ordered}
use Rattle.gp_ideal.specs.declared.ledger.Values.{Values}
use Rattle.gp_ideal.specs.declared.ledger.Change.{Change}
use Rattle.gp_ideal.specs.declared.ledger.Change.TheVariants.{Pair, Accept, Retire}
use Rattle.gp_ideal.specs.Ledger.{row_of}
use Rattle.gp_sink.specs.Fits.{Fits}

-- the row of a pairing, which is live, before it has an order
abbrev pub row_with : Values → ℕ → Row
row_with values counter = record {
  src = values.src;
  key = values.key;
  kind = values.kind;
  level = values.level;
  mode = values.mode;
  group = values.group;
  device = values.device;
  order = 0;
  live = true;
  floor = counter;
}

-- the change of the rows, where this is the last generation: a pairing gets the next one as its order
abbrev pub stored : ℕ → Change → RowChange
stored last (Pair values counter) = Pairs (ordered last (row_with values counter))
stored last (Accept row counter) = Raises row counter
stored last (Retire row counter) = Retires row counter

-- the change of the rows is at the row that the change of the ledger concerns, and makes them fit the ledger with it
pub record StoresAs (ledger : List Change) (change : Change) (rows : List Row) (as_rows : RowChange) : Type 0 where
  pub at : place as_rows rows ≡ row_of change ledger
  pub fits : Fits (applied as_rows rows) (change ∷ ledger)
