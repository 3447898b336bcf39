use Rattle.std.proofs.Common.{ap, refl, subst}
use Rattle.gp_power.specs.declared.power.Powered.{Powered}
use Rattle.gp_power.specs.declared.power.Supply.{Supply}
use Rattle.gp_power.specs.Inside.{IfOn, Falls}
use Rattle.gp_power.proofs.Switching.{goes_off, stays_off}
use Rattle.gp_power.proofs.power.Powered.switch_off.Goals as goal

pub returns-in-On-clause-comes : goal.returns-in-On-clause-comes
returns-in-On-clause-comes c = goes_off c.args.self.now c.darken-bit.new.self c.in-On.field-0 c.darken-bit.result c.in-On.is (ap (λ (p : Powered). p.config) c.darken-bit.ensures.same)
    (subst (λ (s : Supply). IfOn s (λ sink. Falls sink c.darken-bit.new.self.supply c.darken-bit.result)) c.in-On.is c.darken-bit.ensures.falls)

pub returns-in_default : goal.returns-in_default
returns-in_default c = record { comes = stays_off c.args.self.now c.args.self.now c.in_default.not-On refl refl; few = λ most b. b; config = refl }
