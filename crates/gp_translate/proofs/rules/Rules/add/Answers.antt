use Rattle.std.proofs.Common.{List, subst, sym, ◌∙◌}
use Rattle.gp_translate.specs.declared.rule.Rule.{Rule}
use Rattle.gp_translate.specs.Rules.{AreRules}
use Rattle.gp_translate.proofs.Sparse.{rules_push}
use Rattle.gp_translate.proofs.rules.Rules.add.Goals as goal

pub invariant_of-self : goal.invariant_of-self
invariant_of-self c =
    let fine = sym c.refusal.ensures ∙ c.in_default.is in
    subst (λ (rules : List Rule). AreRules rules) (sym c.push.ensures.items)
    (rules_push c.self.inside.items.items c.args.rule c.self.invariant (rw (← c.as_slice.ensures.value) fine))
