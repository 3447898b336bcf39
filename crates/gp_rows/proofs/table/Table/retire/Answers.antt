use Rattle.std.proofs.Common.{ap, sym, subst, refl, ◌∙◌, ◌≡◌, List, Some, slice_get}
use Rattle.std.proofs.lemmas.Option.{get_or_from_slice_get, slice_get_within}
use Rattle.gp_rows.specs.declared.row.Row.{Row}
use Rattle.gp_rows.specs.Rows.{IsBelow}
use Rattle.gp_rows.specs.Changes.{Retires, retired_row, applied}
use Rattle.gp_rows.proofs.Tables.{IsTable-changed}
use Rattle.gp_rows.proofs.Applied.{with_row-set, applied-is, value-retires}
use Rattle.gp_rows.proofs.Indexed.{IsIndexed-set}
use Rattle.gp_rows.proofs.table.Table.retire.Goals as goal

pub invariant_of-self : goal.invariant_of-self
invariant_of-self c =
    let below = subst (λ (l : List Row). IsBelow l c.args.at c.args.counter) (sym c.self.view_is) c.requires in
    let was : c.index_mut-row.result.now ≡ below.0 = c.index_mut-row.ensures.value ∙ get_or_from_slice_get c.self.inside.rows.items c.args.at below.0 c.index_mut-row.result.now below.1 in
    let there : slice_get c.self.inside.rows.items c.args.at ≡ Some c.index_mut-row.result.now = below.1 ∙ ap (λ (r : Row). Some r) (sym was) in (
      IsTable-changed (retired_row c.args.counter) (λ r. refl) (λ r. refl) (λ r. refl) c.self.inside.rows.items c.args.at c.index_mut-row.result.now c.self.invariant.0 there,
      c.self.invariant.1,
      IsIndexed-set c.self.inside.rows.items c.args.at c.index_mut-row.result.now (retired_row c.args.counter c.index_mut-row.result.now) c.self.inside.by_order.items c.self.inside.by_pair.items c.self.invariant.2 there refl refl refl,
      c.self.invariant.3,
      c.self.invariant.4,
    )

pub returns : goal.returns
returns c =
    let below = subst (λ (l : List Row). IsBelow l c.args.at c.args.counter) (sym c.self.view_is) c.requires in
    let was : c.index_mut-row.result.now ≡ below.0 = c.index_mut-row.ensures.value ∙ get_or_from_slice_get c.self.inside.rows.items c.args.at below.0 c.index_mut-row.result.now below.1 in
    let there : slice_get c.self.inside.rows.items c.args.at ≡ Some c.index_mut-row.result.now = below.1 ∙ ap (λ (r : Row). Some r) (sym was) in
    let within = slice_get_within c.self.inside.rows.items c.args.at c.index_mut-row.result.now there in
    sym (with_row-set c.self.inside.rows.items c.args.at (retired_row c.args.counter c.index_mut-row.result.now) within)
    ∙ sym (applied-is (Retires c.args.at c.args.counter) c.self.inside.rows.items c.args.at (retired_row c.args.counter c.index_mut-row.result.now) refl (value-retires c.self.inside.rows.items c.args.at c.args.counter c.index_mut-row.result.now there))
    ∙ ap (applied (Retires c.args.at c.args.counter)) c.self.view_is
