use Rattle.std.proofs.Common.{arith, length}
use Rattle.gp_rows.proofs.Few.{within_few}
use Rattle.gp_rows.proofs.table.Table.find.Goals as goal

pub returns-in-Some-clause-few : goal.returns-in-Some-clause-few
returns-in-Some-clause-few g c =
    within_few c.args.steps.now c.newest.new.steps (length c.self.inside.by_order.items) (omega (arith, c.self.invariant.0.few, c.self.invariant.2.all_orders)) (rw c.deref.ensures.value at c.newest.ensures.cost)

pub returns-in_default-clause-few : goal.returns-in_default-clause-few
returns-in_default-clause-few g c =
    within_few c.args.steps.now c.newest.new.steps (length c.self.inside.by_order.items) (omega (arith, c.self.invariant.0.few, c.self.invariant.2.all_orders)) (rw c.deref.ensures.value at c.newest.ensures.cost)

pub returns-in_default-2-clause-few : goal.returns-in_default-2-clause-few
returns-in_default-2-clause-few g c =
    within_few c.args.steps.now c.newest.new.steps (length c.self.inside.by_order.items) (omega (arith, c.self.invariant.0.few, c.self.invariant.2.all_orders)) (rw c.deref.ensures.value at c.newest.ensures.cost)
