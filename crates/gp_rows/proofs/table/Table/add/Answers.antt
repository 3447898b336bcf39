use Rattle.std.proofs.Common.{arith, subst, sym, length, ◌<◌, ◌≡◌, ◌++◌, ◌∷◌, [], List, ap}
use Rattle.gp_rows.specs.declared.row.Row.{Row}
use Rattle.gp_rows.specs.Rows.{IsNewPair, IsNewOrder, CAPACITY}
use Rattle.gp_rows.specs.Index.{by_order, by_pair}
use Rattle.gp_rows.proofs.Tables.{IsTable-push}
use Rattle.gp_rows.proofs.Indexes.{IsIndex-push}
use Rattle.gp_rows.proofs.Indexed.{IsIndexed-push}
use Rattle.gp_rows.proofs.Places.{rises-order, rises-pair}
use Rattle.gp_rows.proofs.table.Table.add.Goals as goal

pub enter-requires-clause-rises : goal.enter-requires-clause-rises
enter-requires-clause-rises c =
    let rows : List Row = c.self.inside.rows.items in
    rw (c.deref.ensures.value, c.put_last.ensures.added) (rises-order (rows ++ c.args.row ∷ []) (length rows) c.self.inside.by_order.items c.args.row.src.0 c.args.row.order
    (IsIndex-push by_order rows c.args.row c.self.inside.by_order.items c.self.invariant.2.orders_indexed))

pub enter-requires-2-clause-rises : goal.enter-requires-2-clause-rises
enter-requires-2-clause-rises c =
    let rows : List Row = c.self.inside.rows.items in
    rw (c.deref-2.ensures.value, c.put_last.ensures.added) (rises-pair (rows ++ c.args.row ∷ []) (length rows) c.self.inside.by_pair.items c.args.row.src.0 c.args.row.key.0
    (IsIndex-push by_pair rows c.args.row c.self.inside.by_pair.items c.self.invariant.2.pairs_indexed))

pub invariant_of-self : goal.invariant_of-self
invariant_of-self c =
    let rows : List Row = c.self.inside.rows.items in
    let count : c.count-at.result ≡ length rows = omega (arith, c.count-at.ensures.count, ap length c.self.view_is) in
    let room : length rows < CAPACITY = omega (arith, count) in
    let pair = subst (λ (l : List Row). IsNewPair l c.args.row) (sym c.self.view_is) c.requires.pair in
    let order = subst (λ (l : List Row). IsNewOrder l c.args.row) (sym c.self.view_is) c.requires.order in
    let first = rw (c.deref.ensures.value, c.put_last.ensures.added, count) at c.enter.ensures.entered in
    let second = rw (c.deref-2.ensures.value, c.put_last.ensures.added, count) at c.enter-2.ensures.entered in (
      rw c.put_last.ensures.added (IsTable-push rows c.args.row c.self.invariant.0 room pair order),
      omega (arith, c.put_last.ensures.room, c.self.invariant.1),
      rw c.put_last.ensures.added (IsIndexed-push rows c.args.row c.self.inside.by_order.items c.self.inside.by_pair.items c.enter.new.index.items c.enter-2.new.index.items c.self.invariant.2 first second),
      omega (arith, c.enter.ensures.room, c.self.invariant.3),
      omega (arith, c.enter-2.ensures.room, c.self.invariant.4),
    )
