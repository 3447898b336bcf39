-- What a store is to its callers.
use Rattle.std.specs.Prelude.{◌≡◌, ℕ, Bool, List, Option}
use Rattle.gp_rows.specs.declared.row.Row.{Row}

-- the disk; the rows; the last generation; whether an earlier commit answered Worn or DiskFault; and the row of the
-- commit that answered DiskFault, with the values that its change gives it
pub record State (D : Type 0) : Type 0 where
  pub disk : D
  pub rows : List Row
  pub last : ℕ
  pub halted : Bool
  pub undecided : Option (ℕ × Row)

-- two states that differ in the disk alone
pub record SameButDisk {D : Type 0} (old new : State D) : Type 0 where
  pub same_rows : new.rows ≡ old.rows
  pub same_last : new.last ≡ old.last
  pub same_halted : new.halted ≡ old.halted
  pub same_undecided : new.undecided ≡ old.undecided
