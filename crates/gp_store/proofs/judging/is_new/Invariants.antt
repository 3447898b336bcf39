use Rattle.std.proofs.Common.{◌≡◌, ◌<◌, ℕ, slice_get, Some}
use Rattle.gp_rows.specs.declared.row.Row.{Row}
use Rattle.gp_store.specs.Reading.{IsOther}
use Rattle.gp_store.proofs.judging.is_new.Given as goal

abbrev pub invariant-loop-at : goal.invariant-loop-at
invariant-loop-at l = (k : ℕ) (row : Row) (before : ℕ) → k < l.at → slice_get l.table k ≡ Some row → slice_get l.older k ≡ Some before → IsOther row before l.row.src.0 l.row.key.0 l.row.order
