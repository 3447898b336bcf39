use Rattle.std.proofs.Common.{◌∙◌, List, sym, ap, subst}
use Rattle.gp_translate.specs.declared.rule.Rule.{Rule}
use Rattle.gp_power.specs.declared.power.Supply.{Supply}
use Rattle.gp_power.specs.declared.power.Supply.TheVariants.{Off}
use Rattle.gp_power.specs.Inside.{IfOn, Falls}
use Rattle.gp_power.proofs.power.Powered.darken.Goals as goal

pub returns-in-On-clause-falls : goal.returns-in-On-clause-falls
returns-in-On-clause-falls c =
    let fell : Falls c.in-On.sink (Off c.fall-rules.result.0 c.fall-rules.result.1) c.fall-rules.result.2 = record {
      disk = c.fall-rules.result.1;
      supply_is = ap (λ (r : List Rule). Off r c.fall-rules.result.1) c.fall-rules.ensures.rules;
      crashed_is = c.fall-rules.ensures.crashed;
      settles = c.fall-rules.ensures.bit;
      there = c.fall-rules.ensures.there;
    } in
    subst (λ (s : Supply). IfOn s (λ sink. Falls sink (Off c.fall-rules.result.0 c.fall-rules.result.1) c.fall-rules.result.2)) (sym c.in-On.is ∙ c.replace.ensures.value) fell
