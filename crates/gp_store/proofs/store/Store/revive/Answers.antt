use Rattle.std.proofs.Common.{◌≡◌, ◌∙◌, Ok, sym, ap, subst, List}
use Rattle.std.proofs.lemmas.Option.{slice_get_within}
use Rattle.gp_rows.specs.declared.row.Row.{Row}
use Rattle.gp_rows.specs.Rows.{IsPair}
use Rattle.gp_rows.specs.Changes.{Pairs, place_of, with_row}
use Rattle.gp_rows.proofs.Applied.{with_row-set}
use Rattle.gp_store.specs.Commit.{Commits, ordered}
use Rattle.gp_store.specs.Kept.{state_of}
use Rattle.gp_store.proofs.PutBy.{rows_of, again_place, again_puts, again_may, again_revives}
use Rattle.gp_store.proofs.store.Store.revive.Goals as goal

pub put-requires-clause-fits : goal.put-requires-clause-fits
put-requires-clause-fits g c = λ small.
    let pair = subst (λ (l : List Row). IsPair l c.args.row.src.0 c.args.row.key.0 c.args.at) (sym (rows_of c.self.view_is)) c.requires in
    again_may c.self.inside.table c.args.row c.saturating_add.result c.self.inside.keeper.marks.last c.saturating_add.ensures c.args.at c.max.result c.row-before.result.now c.row-before.ensures.table pair c.row-before.ensures.row c.max.ensures small

pub revive-requires : goal.revive-requires
revive-requires g c =
    let pair = subst (λ (l : List Row). IsPair l c.args.row.src.0 c.args.row.key.0 c.args.at) (sym (rows_of c.self.view_is)) c.requires in
    again_revives c.self.inside.table c.args.row c.saturating_add.result c.self.inside.keeper.marks.last c.saturating_add.ensures c.args.at c.max.result c.row-before.result.now c.row-before.ensures.table pair c.row-before.ensures.row c.max.ensures c.self.invariant.orders c.in-Ok.ensures.small

pub invariant_of-self : goal.invariant_of-self
invariant_of-self g c =
    let row : Row = record c.args.row { order = c.saturating_add.result; floor = c.max.result } in
    let within = slice_get_within c.self.inside.table c.args.at c.row-before.result.now c.row-before.ensures.row in
    let rows_are : c.revive.new.self ≡ with_row c.self.inside.table c.args.at row = c.revive.ensures ∙ sym (with_row-set c.self.inside.table c.args.at row within) in
    rw rows_are c.in-Ok.ensures.kept

pub returns-in-Ok-clause-commits : goal.returns-in-Ok-clause-commits
returns-in-Ok-clause-commits g c =
    let pair = subst (λ (l : List Row). IsPair l c.args.row.src.0 c.args.row.key.0 c.args.at) (sym (rows_of c.self.view_is)) c.requires in
    let row : Row = record c.args.row { order = c.saturating_add.result; floor = c.max.result } in
    let within = slice_get_within c.self.inside.table c.args.at c.row-before.result.now c.row-before.ensures.row in
    let rows_are : c.revive.new.self ≡ with_row c.self.inside.table c.args.at row = c.revive.ensures ∙ sym (with_row-set c.self.inside.table c.args.at row within) in
    let commits = c.in-Ok.ensures.commits (Pairs (ordered c.self.inside.keeper.marks.last c.args.row)) (again_puts c.self.inside.table c.args.row c.saturating_add.result c.self.inside.keeper.marks.last c.saturating_add.ensures c.args.at c.max.result c.row-before.result.now c.row-before.ensures.table pair c.row-before.ensures.row c.max.ensures) in
    rw (← c.self.view_is) (subst (λ (l : List Row). Commits g.D.Disk (Pairs (ordered c.self.inside.keeper.marks.last c.args.row)) (state_of c.self.inside.keeper.disk c.self.inside.table c.self.inside.keeper.marks) (state_of c.put.new.self.disk l c.put.new.self.marks) (Ok tt)) (sym rows_are) commits)

pub returns-in-Err-clause-commits : goal.returns-in-Err-clause-commits
returns-in-Err-clause-commits g c =
    let pair = subst (λ (l : List Row). IsPair l c.args.row.src.0 c.args.row.key.0 c.args.at) (sym (rows_of c.self.view_is)) c.requires in
    rw (← c.self.view_is) (c.in-Err.ensures.commits (Pairs (ordered c.self.inside.keeper.marks.last c.args.row)) (again_puts c.self.inside.table c.args.row c.saturating_add.result c.self.inside.keeper.marks.last c.saturating_add.ensures c.args.at c.max.result c.row-before.result.now c.row-before.ensures.table pair c.row-before.ensures.row c.max.ensures))

pub returns-in-Ok-clause-number : goal.returns-in-Ok-clause-number
returns-in-Ok-clause-number g c =
    let pair = subst (λ (l : List Row). IsPair l c.args.row.src.0 c.args.row.key.0 c.args.at) (sym (rows_of c.self.view_is)) c.requires in
    again_place c.self.inside.table c.args.row c.saturating_add.result c.self.inside.keeper.marks.last c.saturating_add.ensures c.args.at c.max.result c.row-before.result.now c.row-before.ensures.table pair c.row-before.ensures.row c.max.ensures ∙ ap (λ (l : List Row). place_of c.args.row.src.0 c.args.row.key.0 l) (rows_of c.self.view_is)

pub returns-in-Err-clause-number : goal.returns-in-Err-clause-number
returns-in-Err-clause-number g c =
    let pair = subst (λ (l : List Row). IsPair l c.args.row.src.0 c.args.row.key.0 c.args.at) (sym (rows_of c.self.view_is)) c.requires in
    again_place c.self.inside.table c.args.row c.saturating_add.result c.self.inside.keeper.marks.last c.saturating_add.ensures c.args.at c.max.result c.row-before.result.now c.row-before.ensures.table pair c.row-before.ensures.row c.max.ensures ∙ ap (λ (l : List Row). place_of c.args.row.src.0 c.args.row.key.0 l) (rows_of c.self.view_is)
