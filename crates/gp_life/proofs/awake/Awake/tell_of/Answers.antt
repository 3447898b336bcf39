use Rattle.std.proofs.Common.{Ok, refl, subst}
use Rattle.gp_script.specs.declared.sink_script.SinkAction.{SinkAction}
use Rattle.gp_world.specs.Sinks.{sink_rules, sink_announces, sink_lists, rule_of}
use Rattle.gp_life.specs.Inside.{ActionComes}
use Rattle.gp_life.proofs.Effects.{acts, gone_rule, gone_announce, gone_table, lists_come}
use Rattle.gp_life.proofs.awake.Awake.tell_of.Goals as goal

pub returns-in-Rule-clause-comes : goal.returns-in-Rule-clause-comes
returns-in-Rule-clause-comes g c = λ life h.
    rw c.in-Rule.is (acts g.D.Disk life _ (sink_rules c.rule_of-rule.result life.sink) c.args.self.now c.add_rule.new.self c.args.telling.now c.add_rule.new.telling
    (rw c.rule_of-rule.ensures (gone_rule life c.args.telling.now.line c.in-Rule.source c.in-Rule.command c.in-Rule.endpoint c.in-Rule.form)) (c.add_rule.ensures.comes life h))

pub returns-in-Announce-clause-comes : goal.returns-in-Announce-clause-comes
returns-in-Announce-clause-comes g c = λ life h.
    rw c.in-Announce.is (acts g.D.Disk life _ (sink_announces c.in-Announce.source life.sink) c.args.self.now c.announce.new.self c.args.telling.now c.announce.new.telling
    (gone_announce life c.args.telling.now.line c.in-Announce.source) (c.announce.ensures.comes life h))

pub returns-in-Table-clause-comes : goal.returns-in-Table-clause-comes
returns-in-Table-clause-comes g c = λ life h.
    rw c.in-Table.is (acts g.D.Disk life _ (sink_lists life.sink) c.args.self.now c.args.self.now c.args.telling.now c.list.new.self
    (gone_table life c.args.telling.now.line) (lists_come g.D.Disk life c.args.self.now c.own.result c.args.telling.now c.list.new.self h c.own.ensures (rw c.rows.ensures.rows at c.list.ensures)))
