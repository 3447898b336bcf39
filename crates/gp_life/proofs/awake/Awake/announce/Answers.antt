use Rattle.std.proofs.Common.{Some, None, refl, sym, ◌∙◌, arith}
use Rattle.gp_life.proofs.Effects.{announces_come, told_by}
use Rattle.gp_life.proofs.awake.Awake.announce.Goals as goal

pub returns-in-Ok-Some-clause-comes : goal.returns-in-Ok-Some-clause-comes
returns-in-Ok-Some-clause-comes g c = λ life h.
    announces_come g.D.Disk life c.args.source (Some c.in-Ok-Some.sent) c.args.self.now _ c.args.telling.now c.put.new.self h (rw c.in-Ok-Some.field-0-is at c.in-Ok-Some.ensures.announced) refl refl
    (told_by c.own-name.result _ c.args.telling.now c.put.new.self c.own-name.ensures c.put.ensures)

pub returns-in-Ok-None-clause-comes : goal.returns-in-Ok-None-clause-comes
returns-in-Ok-None-clause-comes g c = λ life h.
    announces_come g.D.Disk life c.args.source None c.args.self.now _ c.args.telling.now c.say.new.self h (rw c.in-Ok-None.field-0-is at c.in-Ok-None.ensures.announced) refl (omega arith)
    (told_by c.own-name.result _ c.args.telling.now c.say.new.self c.own-name.ensures c.say.ensures)
