use Rattle.std.proofs.Common.{◌≡◌, ℕ, List, length, Some, None, Option, MatchOption, slice_get}
use Rattle.std.specs.Ordering.{nat_cmp}
use Rattle.gp_rows.specs.declared.row.Row.{Row}
use Rattle.gp_rows.specs.Rows.{IsNewest}
use Rattle.gp_rows.specs.Index.{IsIndex, IsPlace, by_order}
use Rattle.gp_rows.proofs.Places.{rises-source, found-newest, found-no_source}
use Rattle.gp_rows.proofs.table.newest.Goals as goal

pub search-requires : goal.search-requires
search-requires g c = rises-source c.args.rows.now (length c.args.rows.now) c.args.index.now c.args.source.0 c.requires

of_kept : (rows : List Row) (index : List ℕ) (src end : ℕ) (kept : Option ℕ) → IsIndex by_order rows (length rows) index → IsPlace (λ r. nat_cmp r.src.0 src) rows index end kept
    → MatchOption kept ((k : ℕ) (row : Row) → slice_get rows k ≡ Some row → row.src.0 ≡ src → ⊥) (λ at. (row : Row) × IsNewest rows src at row)
of_kept rows index src end None x is = found-no_source rows index src end x is
of_kept rows index src end (Some k) x is = found-newest rows index src end k x is

pub returns-clause-newest : goal.returns-clause-newest
returns-clause-newest g c = of_kept c.args.rows.now c.args.index.now c.args.source.0 c.search.result.end c.search.result.kept c.requires c.search.ensures.place
