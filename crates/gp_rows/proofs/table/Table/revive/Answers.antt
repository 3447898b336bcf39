use Rattle.std.proofs.Common.{subst, sym, ◌∙◌, ◌≡◌, ◌-◌, List, ℕ, Some, slice_get, ap, arith, length, set}
use Rattle.std.proofs.lemmas.Option.{get_or_from_slice_get, slice_get_within}
use Rattle.std.specs.List.{remove}
use Rattle.gp_rows.specs.declared.row.Row.{Row}
use Rattle.gp_rows.specs.Rows.{Revives}
use Rattle.gp_rows.proofs.Tables.{IsTable-revive}
use Rattle.gp_rows.proofs.Indexed.{IsIndex-pulled, IsIndexed-revive}
use Rattle.gp_rows.proofs.Places.{rises-order, found-row}
use Rattle.gp_rows.proofs.table.Table.revive.Goals as goal

pub locate-found-requires : goal.locate-found-requires
locate-found-requires c =
    rw (c.deref-2.ensures.value, c.deref.ensures.value) (rises-order c.self.inside.rows.items (length c.self.inside.rows.items) c.self.inside.by_order.items c.index-before.result.now.src.0 c.index-before.result.now.order c.self.invariant.2.orders_indexed)

pub overflow_sub-found : goal.overflow_sub-found
overflow_sub-found c =
    let revives = subst (λ (l : List Row). Revives l c.args.at c.args.row) (sym c.self.view_is) c.requires in
    let was : c.index-before.result.now ≡ revives.before = c.index-before.ensures ∙ get_or_from_slice_get c.self.inside.rows.items c.args.at revives.before c.index-before.result.now revives.there in
    let there : slice_get c.self.inside.rows.items c.args.at ≡ Some c.index-before.result.now = revives.there ∙ ap (λ (r : Row). Some r) (sym was) in
    let place = rw (c.deref-2.ensures.value, c.deref.ensures.value) at c.locate-found.ensures in
    let found = found-row c.self.inside.rows.items c.self.inside.by_order.items c.args.at c.locate-found.result.end c.index-before.result.now c.locate-found.result.kept c.self.invariant.0 c.self.invariant.2.orders_indexed there place in
    omega (arith, found.0)

pub index_mut-requires : goal.index_mut-requires
index_mut-requires c =
    let revives = subst (λ (l : List Row). Revives l c.args.at c.args.row) (sym c.self.view_is) c.requires in
    omega (arith, slice_get_within c.self.inside.rows.items c.args.at revives.before revives.there)

pub enter-requires-clause-rises : goal.enter-requires-clause-rises
enter-requires-clause-rises c =
    let rows : List Row = c.self.inside.rows.items in
    let orders : List ℕ = c.self.inside.by_order.items in
    let revives = subst (λ (l : List Row). Revives l c.args.at c.args.row) (sym c.self.view_is) c.requires in
    let was : c.index-before.result.now ≡ revives.before = c.index-before.ensures ∙ get_or_from_slice_get rows c.args.at revives.before c.index-before.result.now revives.there in
    let there : slice_get rows c.args.at ≡ Some c.index-before.result.now = revives.there ∙ ap (λ (r : Row). Some r) (sym was) in
    let place = rw (c.deref-2.ensures.value, c.deref.ensures.value) at c.locate-found.ensures in
    let found = found-row rows orders c.args.at c.locate-found.result.end c.index-before.result.now c.locate-found.result.kept c.self.invariant.0 c.self.invariant.2.orders_indexed there place in
    rw (c.deref-3.ensures.value, c.pull.ensures.left) (rises-order (set rows c.args.at c.args.row) c.args.at (remove orders (c.locate-found.result.end - 1)) c.args.row.src.0 c.args.row.order
    (IsIndex-pulled rows c.args.at (c.locate-found.result.end - 1) c.args.row orders c.self.inside.by_pair.items c.self.invariant.2 (omega (arith, found.0, found.1)) found.2))

pub invariant_of-self : goal.invariant_of-self
invariant_of-self c =
    let rows : List Row = c.self.inside.rows.items in
    let orders : List ℕ = c.self.inside.by_order.items in
    let revives = subst (λ (l : List Row). Revives l c.args.at c.args.row) (sym c.self.view_is) c.requires in
    let was : c.index-before.result.now ≡ revives.before = c.index-before.ensures ∙ get_or_from_slice_get rows c.args.at revives.before c.index-before.result.now revives.there in
    let there : slice_get rows c.args.at ≡ Some c.index-before.result.now = revives.there ∙ ap (λ (r : Row). Some r) (sym was) in
    let place = rw (c.deref-2.ensures.value, c.deref.ensures.value) at c.locate-found.ensures in
    let found = found-row rows orders c.args.at c.locate-found.result.end c.index-before.result.now c.locate-found.result.kept c.self.invariant.0 c.self.invariant.2.orders_indexed there place in
    let entered = rw (c.deref-3.ensures.value, c.pull.ensures.left) at c.enter.ensures.entered in (
      IsTable-revive rows c.args.at c.args.row c.self.invariant.0 revives,
      c.self.invariant.1,
      IsIndexed-revive rows c.args.at (c.locate-found.result.end - 1) revives.before c.args.row orders c.self.inside.by_pair.items c.enter.new.index.items c.self.invariant.2 revives.there revives.source revives.key
          (omega (arith, found.0, found.1)) found.2 entered,
      omega (arith, c.enter.ensures.room, c.pull.ensures.room, c.self.invariant.3),
      c.self.invariant.4,
    )
