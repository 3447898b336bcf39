use Rattle.std.proofs.Common.{subst, List}
use Rattle.gp_rows.specs.declared.row.Row.{Row}
use Rattle.gp_rows.specs.Rows.{IsNewPair}
use Rattle.gp_store.proofs.PutBy.{rows_of}
use Rattle.gp_store.proofs.store.Store.commit_row.Goals as goal

pub add-requires-clause-new_pair : goal.add-requires-clause-new_pair
add-requires-clause-new_pair g c = subst (λ (l : List Row). IsNewPair l c.args.row) (rows_of c.self.view_is) (λ k other is s q. c.in-None.ensures.absent k (other, is, s, q))
