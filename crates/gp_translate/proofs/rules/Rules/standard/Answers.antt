use Rattle.std.proofs.Common.{List, subst, sym}
use Rattle.gp_translate.specs.declared.rule.Rule.{Rule}
use Rattle.gp_translate.specs.Meanings.{identifiers}
use Rattle.gp_translate.specs.Rules.{AreRules, standard}
use Rattle.gp_translate.proofs.Standard.{standard_are}
use Rattle.gp_translate.proofs.rules.Rules.standard.Goals as goal

pub invariant_of-result : goal.invariant_of-result
unfolding standard identifiers
invariant_of-result c = subst (λ (rules : List Rule). AreRules rules) (sym c.standard_rules.ensures) standard_are

pub returns : goal.returns
unfolding standard identifiers
returns c = c.standard_rules.ensures
