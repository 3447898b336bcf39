use Rattle.std.proofs.Common.{arith, length, ℕ, subst, ◌∙◌, List, IfNone}
use Rattle.gp_rows.specs.declared.row.Row.{Row}
use Rattle.gp_rows.specs.Rows.{IsPair}
use Rattle.gp_rows.proofs.Few.{within_few}
use Rattle.gp_rows.proofs.table.Table.same.Goals as goal

pub returns-clause-absent : goal.returns-clause-absent
returns-clause-absent g c =
    subst (λ (l : List Row). IfNone c.pair_at.result ((at : ℕ) → IsPair l c.args.source.0 c.args.key.now.0 at → ⊥)) (c.deref-2.ensures.value ∙ c.self.view_is) c.pair_at.ensures.absent

pub returns-clause-few : goal.returns-clause-few
returns-clause-few g c =
    within_few c.args.steps.now c.pair_at.new.steps (length c.self.inside.by_pair.items) (omega (arith, c.self.invariant.0.few, c.self.invariant.2.all_pairs)) (rw c.deref.ensures.value at c.pair_at.ensures.cost)
