use Rattle.std.proofs.Common.{refl}
use Rattle.gp_power.specs.declared.power.Supply.TheVariants.{On, Off}
use Rattle.gp_power.proofs.Quiet.{rules_come, on_only, off_only}
use Rattle.gp_power.proofs.power.Powered.add_rule.Goals as goal

pub returns-in-On-clause-comes : goal.returns-in-On-clause-comes
returns-in-On-clause-comes c = rules_come c.args.rule c.add_rule.result c.args.self.now _ (On c.in-On.sink) (On c.add_rule.new.sink) c.in-On.is refl refl (on_only c.in-On.sink c.add_rule.new.sink c.add_rule.ensures.same) c.add_rule.ensures.ruled

pub returns-in-Off-clause-comes : goal.returns-in-Off-clause-comes
returns-in-Off-clause-comes c = rules_come c.args.rule c.add_to.result c.args.self.now _ (Off c.in-Off.rules c.in-Off.disk) (Off c.add_to.new.rules c.in-Off.disk) c.in-Off.is refl refl (off_only c.in-Off.rules c.add_to.new.rules c.in-Off.disk) c.add_to.ensures
