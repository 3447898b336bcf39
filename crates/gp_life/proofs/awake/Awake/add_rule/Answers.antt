use Rattle.std.proofs.Common.{refl}
use Rattle.gp_life.proofs.Effects.{rules_come}
use Rattle.gp_life.proofs.awake.Awake.add_rule.Goals as goal

pub returns-clause-comes : goal.returns-clause-comes
returns-clause-comes g c = λ life h.
    rules_come g.D.Disk life c.args.rule c.add_rule-answer.result c.args.self.now _ _ c.args.telling.now c.say.new.self h c.add_rule-answer.ensures refl c.own.ensures c.say.ensures
