use Rattle.gp_life.proofs.Effects.{hears_come, hears_fail}
use Rattle.gp_life.proofs.awake.Awake.hear.Goals as goal

pub returns-in-Ok-clause-comes : goal.returns-in-Ok-clause-comes
returns-in-Ok-clause-comes g c = λ life h.
    hears_come g.D.Disk life c.args.octets.now c.args.self.now c.tell.new.self c.hear.new.sink c.in-Ok.verdict c.args.telling.now c.tell.new.telling h (c.in-Ok.ensures.answers life.sink h.is_sink) c.tell.ensures

pub returns-in-Err-clause-comes : goal.returns-in-Err-clause-comes
returns-in-Err-clause-comes g c = λ life h. hears_fail g.D.Disk life c.args.octets.now c.args.self.now (record c.args.self.now { sink = c.hear.new.sink }) c.in-Err.fault c.args.telling.now c.args.telling.now (c.in-Err.ensures.answers life.sink h.is_sink)
