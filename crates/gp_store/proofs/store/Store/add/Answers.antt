use Rattle.std.proofs.Common.{◌≡◌, ◌∙◌, Ok, sym, ap, subst, List}
use Rattle.gp_rows.specs.declared.row.Row.{Row}
use Rattle.gp_rows.specs.Rows.{IsNewPair}
use Rattle.gp_rows.specs.Changes.{Pairs, place_of, with_row}
use Rattle.gp_rows.proofs.Applied.{with_row-end}
use Rattle.gp_store.specs.Commit.{Commits, ordered}
use Rattle.gp_store.specs.Kept.{state_of}
use Rattle.gp_store.proofs.PutBy.{rows_of, new_place, new_puts, new_may, new_order}
use Rattle.gp_store.proofs.store.Store.add.Goals as goal

pub put-requires-clause-fits : goal.put-requires-clause-fits
put-requires-clause-fits g c = λ small.
    let new = subst (λ (l : List Row). IsNewPair l c.args.row) (sym (rows_of c.self.view_is)) c.requires.new_pair in
    new_may c.self.inside.table c.args.row c.saturating_add.result c.self.inside.keeper.marks.last c.saturating_add.ensures c.count-at.result new c.count-at.ensures.count c.requires.above c.requires.below small

pub put_row-requires-clause-pair : goal.put_row-requires-clause-pair
put_row-requires-clause-pair g c = subst (λ (l : List Row). IsNewPair l c.args.row) (sym (rows_of c.self.view_is)) c.requires.new_pair

pub put_row-requires-clause-order : goal.put_row-requires-clause-order
put_row-requires-clause-order g c =
    let new = subst (λ (l : List Row). IsNewPair l c.args.row) (sym (rows_of c.self.view_is)) c.requires.new_pair in
    new_order c.self.inside.table c.args.row c.saturating_add.result c.self.inside.keeper.marks.last c.saturating_add.ensures c.count-at.result new c.count-at.ensures.count c.self.invariant.orders c.in-Ok.ensures.small

pub invariant_of-self : goal.invariant_of-self
invariant_of-self g c =
    let row : Row = record c.args.row { order = c.saturating_add.result } in
    let rows_are : c.put_row.new.table ≡ with_row c.self.inside.table c.count-at.result row = c.put_row.ensures ∙ sym (with_row-end c.self.inside.table c.count-at.result row c.count-at.ensures.count) in
    rw rows_are c.in-Ok.ensures.kept

pub returns-in-Ok-clause-commits : goal.returns-in-Ok-clause-commits
returns-in-Ok-clause-commits g c =
    let new = subst (λ (l : List Row). IsNewPair l c.args.row) (sym (rows_of c.self.view_is)) c.requires.new_pair in
    let row : Row = record c.args.row { order = c.saturating_add.result } in
    let rows_are : c.put_row.new.table ≡ with_row c.self.inside.table c.count-at.result row = c.put_row.ensures ∙ sym (with_row-end c.self.inside.table c.count-at.result row c.count-at.ensures.count) in
    let commits = c.in-Ok.ensures.commits (Pairs (ordered c.self.inside.keeper.marks.last c.args.row)) (new_puts c.self.inside.table c.args.row c.saturating_add.result c.self.inside.keeper.marks.last c.saturating_add.ensures c.count-at.result new c.count-at.ensures.count c.if-at-eq-ROWS.false) in
    rw (← c.self.view_is) (subst (λ (l : List Row). Commits g.D.Disk (Pairs (ordered c.self.inside.keeper.marks.last c.args.row)) (state_of c.self.inside.keeper.disk c.self.inside.table c.self.inside.keeper.marks) (state_of c.put.new.self.disk l c.put.new.self.marks) (Ok tt)) (sym rows_are) commits)

pub returns-in-Err-clause-commits : goal.returns-in-Err-clause-commits
returns-in-Err-clause-commits g c =
    let new = subst (λ (l : List Row). IsNewPair l c.args.row) (sym (rows_of c.self.view_is)) c.requires.new_pair in
    rw (← c.self.view_is) (c.in-Err.ensures.commits (Pairs (ordered c.self.inside.keeper.marks.last c.args.row)) (new_puts c.self.inside.table c.args.row c.saturating_add.result c.self.inside.keeper.marks.last c.saturating_add.ensures c.count-at.result new c.count-at.ensures.count c.if-at-eq-ROWS.false))

pub returns-in-Ok-clause-number : goal.returns-in-Ok-clause-number
returns-in-Ok-clause-number g c =
    let new = subst (λ (l : List Row). IsNewPair l c.args.row) (sym (rows_of c.self.view_is)) c.requires.new_pair in
    new_place c.self.inside.table c.args.row c.saturating_add.result c.self.inside.keeper.marks.last c.saturating_add.ensures c.count-at.result new c.count-at.ensures.count ∙ ap (λ (l : List Row). place_of c.args.row.src.0 c.args.row.key.0 l) (rows_of c.self.view_is)
