use Rattle.std.proofs.Common.{◌≡◌, ◌∙◌, Ok, refl, sym, subst, List}
use Rattle.gp_rows.specs.declared.row.Row.{Row}
use Rattle.gp_rows.specs.Changes.{Retires, retired_row, with_row}
use Rattle.gp_rows.proofs.Applied.{applied-is, value-retires}
use Rattle.gp_store.specs.Commit.{Commits}
use Rattle.gp_store.specs.Kept.{state_of}
use Rattle.gp_store.proofs.PutBy.{retire_puts}
use Rattle.gp_store.proofs.store.Store.retire.Goals as goal

pub invariant_of-self : goal.invariant_of-self
invariant_of-self g c =
    let row = retired_row c.args.counter c.row.result.now in
    let rows_are : c.retire.new.self ≡ with_row c.self.inside.table c.args.at row = c.retire.ensures ∙ applied-is (Retires c.args.at c.args.counter) c.self.inside.table c.args.at row refl (value-retires c.self.inside.table c.args.at c.args.counter c.row.result.now c.row.ensures.row) in
    rw rows_are c.in-Ok.ensures.kept

pub returns-in-Ok : goal.returns-in-Ok
returns-in-Ok g c =
    let row = retired_row c.args.counter c.row.result.now in
    let rows_are : c.retire.new.self ≡ with_row c.self.inside.table c.args.at row = c.retire.ensures ∙ applied-is (Retires c.args.at c.args.counter) c.self.inside.table c.args.at row refl (value-retires c.self.inside.table c.args.at c.args.counter c.row.result.now c.row.ensures.row) in
    let commits = c.in-Ok.ensures.commits (Retires c.args.at c.args.counter) (retire_puts c.self.inside.table c.self.inside.keeper.marks.last c.args.at c.args.counter c.row.result.now c.row.ensures.row) in
    rw (← c.self.view_is) (record { commits = subst (λ (l : List Row). Commits g.D.Disk (Retires c.args.at c.args.counter) (state_of c.self.inside.keeper.disk c.self.inside.table c.self.inside.keeper.marks) (state_of c.put.new.self.disk l c.put.new.self.marks) (Ok tt)) (sym rows_are) commits })

pub returns-in-Err : goal.returns-in-Err
returns-in-Err g c =
    rw (← c.self.view_is) (record { commits = c.in-Err.ensures.commits (Retires c.args.at c.args.counter) (retire_puts c.self.inside.table c.self.inside.keeper.marks.last c.args.at c.args.counter c.row.result.now c.row.ensures.row) })
