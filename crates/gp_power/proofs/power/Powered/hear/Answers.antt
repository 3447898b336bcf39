use Rattle.std.proofs.Common.{◌+◌, ap, refl, subst}
use Rattle.gp_power.specs.declared.power.Powered.{Powered}
use Rattle.gp_power.specs.Few.{IsSupplyBelow}
use Rattle.gp_power.proofs.Answering.{heard_comes, dark_comes}
use Rattle.gp_power.proofs.Few.{more_few}
use Rattle.gp_world.specs.Sinks.{sink_hears}
use Rattle.gp_power.proofs.power.Powered.hear.Goals as goal

pub returns-in-On-clause-comes : goal.returns-in-On-clause-comes
returns-in-On-clause-comes c = heard_comes c.args.octets.now c.args.self.now c.settle.new.self c.in-On.sink c.hear-answer.new.sink c.hear-answer.result c.settle.result.0 c.settle.result.1
    c.in-On.is (ap (λ (p : Powered). p.config) c.settle.ensures.same) c.requires.room c.settle.ensures.after c.hear-answer.ensures.comes

pub returns-in-On-clause-few : goal.returns-in-On-clause-few
returns-in-On-clause-few c = λ most b. c.settle.ensures.few (most + 2) (c.hear-answer.ensures.few most (subst (IsSupplyBelow most) c.in-On.is b))

pub returns-in_default : goal.returns-in_default
returns-in_default c = record { comes = dark_comes (sink_hears c.args.octets.now) c.args.self.now _ c.in_default.not-On refl refl; message = tt; few = λ most b. more_few most c.args.self.now.supply b; config = refl }
