use Rattle.std.proofs.Common.{ℕ, List, length, Some, None, Option, IfSome, IfNone}
use Rattle.std.specs.Cmp.Lexicographic.{slice_cmp}
use Rattle.std.specs.Ordering.{nat_cmp, ordering_then}
use Rattle.gp_rows.specs.declared.row.Row.{Row}
use Rattle.gp_rows.specs.Rows.{IsPair}
use Rattle.gp_rows.specs.Index.{IsIndex, IsPlace, by_pair}
use Rattle.gp_rows.proofs.Places.{rises-pair, found-pair, found-no_pair}
use Rattle.gp_rows.proofs.table.pair_at.Goals as goal

pub search-requires : goal.search-requires
search-requires g c = rises-pair c.args.rows.now (length c.args.rows.now) c.args.index.now c.args.source.0 c.args.key.now.0 c.requires

some : (rows : List Row) (index : List ℕ) (src : ℕ) (key : List ℕ) (end : ℕ) (kept : Option ℕ) → IsPlace (λ r. ordering_then (nat_cmp r.src.0 src) (slice_cmp nat_cmp r.key.0 key)) rows index end kept → IfSome kept (IsPair rows src key)
some rows index src key end None is = tt
some rows index src key end (Some k) is = found-pair rows index src key end k is

none : (rows : List Row) (index : List ℕ) (src : ℕ) (key : List ℕ) (end : ℕ) (kept : Option ℕ) → IsIndex by_pair rows (length rows) index
    → IsPlace (λ r. ordering_then (nat_cmp r.src.0 src) (slice_cmp nat_cmp r.key.0 key)) rows index end kept → IfNone kept ((k : ℕ) → IsPair rows src key k → ⊥)
none rows index src key end None x is = found-no_pair rows index src key end x is
none rows index src key end (Some k) x is = tt

pub returns-clause-found : goal.returns-clause-found
returns-clause-found g c = some c.args.rows.now c.args.index.now c.args.source.0 c.args.key.now.0 c.search.result.end c.search.result.kept c.search.ensures.place

pub returns-clause-absent : goal.returns-clause-absent
returns-clause-absent g c = none c.args.rows.now c.args.index.now c.args.source.0 c.args.key.now.0 c.search.result.end c.search.result.kept c.requires c.search.ensures.place
