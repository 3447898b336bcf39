use Rattle.std.proofs.Common.{ap, sym, subst, refl, ◌∙◌, ◌≡◌, List, Some, slice_get}
use Rattle.std.proofs.lemmas.Option.{get_or_from_slice_get, slice_get_within}
use Rattle.gp_rows.specs.declared.row.Row.{Row}
use Rattle.gp_rows.specs.Rows.{IsBelow}
use Rattle.gp_rows.specs.Changes.{Raises, with_floor, applied}
use Rattle.gp_rows.proofs.Tables.{IsTable-changed}
use Rattle.gp_rows.proofs.Applied.{with_row-set, applied-is, value-raises}
use Rattle.gp_rows.proofs.Indexed.{IsIndexed-set}
use Rattle.gp_rows.proofs.table.Table.raise.Goals as goal

pub invariant_of-self : goal.invariant_of-self
invariant_of-self c =
    let below = subst (λ (l : List Row). IsBelow l c.args.at c.args.counter) (sym c.self.view_is) c.requires in
    let was : c.index_mut.result.now ≡ below.0 = c.index_mut.ensures.value ∙ get_or_from_slice_get c.self.inside.rows.items c.args.at below.0 c.index_mut.result.now below.1 in
    let there : slice_get c.self.inside.rows.items c.args.at ≡ Some c.index_mut.result.now = below.1 ∙ ap (λ (r : Row). Some r) (sym was) in (
      IsTable-changed (with_floor c.args.counter) (λ r. refl) (λ r. refl) (λ r. refl) c.self.inside.rows.items c.args.at c.index_mut.result.now c.self.invariant.0 there,
      c.self.invariant.1,
      IsIndexed-set c.self.inside.rows.items c.args.at c.index_mut.result.now (with_floor c.args.counter c.index_mut.result.now) c.self.inside.by_order.items c.self.inside.by_pair.items c.self.invariant.2 there refl refl refl,
      c.self.invariant.3,
      c.self.invariant.4,
    )

pub returns : goal.returns
returns c =
    let below = subst (λ (l : List Row). IsBelow l c.args.at c.args.counter) (sym c.self.view_is) c.requires in
    let was : c.index_mut.result.now ≡ below.0 = c.index_mut.ensures.value ∙ get_or_from_slice_get c.self.inside.rows.items c.args.at below.0 c.index_mut.result.now below.1 in
    let there : slice_get c.self.inside.rows.items c.args.at ≡ Some c.index_mut.result.now = below.1 ∙ ap (λ (r : Row). Some r) (sym was) in
    let within = slice_get_within c.self.inside.rows.items c.args.at c.index_mut.result.now there in
    sym (with_row-set c.self.inside.rows.items c.args.at (with_floor c.args.counter c.index_mut.result.now) within)
    ∙ sym (applied-is (Raises c.args.at c.args.counter) c.self.inside.rows.items c.args.at (with_floor c.args.counter c.index_mut.result.now) refl (value-raises c.self.inside.rows.items c.args.at c.args.counter c.index_mut.result.now there))
    ∙ ap (applied (Raises c.args.at c.args.counter)) c.self.view_is
