use Rattle.std.proofs.Common.{◌+◌, ap, refl, subst}
use Rattle.gp_power.specs.declared.power.Powered.{Powered}
use Rattle.gp_power.specs.Few.{IsSupplyBelow}
use Rattle.gp_power.proofs.Answering.{paired_comes, dark_comes}
use Rattle.gp_power.proofs.Few.{more_few}
use Rattle.gp_sink.specs.Verdict.{offered}
use Rattle.gp_world.specs.Sinks.{sink_pairs}
use Rattle.gp_power.proofs.power.Powered.pair.Goals as goal

pub returns-in-On-clause-comes : goal.returns-in-On-clause-comes
returns-in-On-clause-comes c = paired_comes c.args.offer.now c.args.self.now c.settle.new.self c.in-On.sink c.pair-answer.new.sink c.pair-answer.result c.settle.result.0 c.settle.result.1
    c.in-On.is (ap (λ (p : Powered). p.config) c.settle.ensures.same) c.requires.room c.settle.ensures.after c.pair-answer.ensures.comes

pub returns-in-On-clause-few : goal.returns-in-On-clause-few
returns-in-On-clause-few c = λ most b. c.settle.ensures.few (most + 2) (c.pair-answer.ensures.few most (subst (IsSupplyBelow most) c.in-On.is b))

pub returns-in_default : goal.returns-in_default
returns-in_default c =
    record { comes = dark_comes (λ sink. sink_pairs (offered sink.config c.args.offer.now) c.args.offer.now.counter sink) c.args.self.now _ c.in_default.not-On refl refl; message = tt; few = λ most b. more_few most c.args.self.now.supply b; config = refl }
