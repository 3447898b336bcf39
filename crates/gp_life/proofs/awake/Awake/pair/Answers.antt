use Rattle.gp_sink.specs.Verdict.{offered}
use Rattle.gp_life.proofs.Effects.{pairs_come, pairs_fail}
use Rattle.gp_life.proofs.awake.Awake.pair.Goals as goal

pub returns-in-Ok-clause-comes : goal.returns-in-Ok-clause-comes
returns-in-Ok-clause-comes g c = λ life h.
    let offer = c.args.offer.now in
    pairs_come g.D.Disk life (offered life.sink.config offer) offer.counter c.args.self.now c.tell.new.self c.pair.new.sink c.in-Ok.verdict c.args.telling.now c.tell.new.telling h (c.in-Ok.ensures.answers life.sink h.is_sink) c.tell.ensures

pub returns-in-Err-clause-comes : goal.returns-in-Err-clause-comes
returns-in-Err-clause-comes g c = λ life h.
    let offer = c.args.offer.now in
    pairs_fail g.D.Disk life (offered life.sink.config offer) offer.counter c.args.self.now (record c.args.self.now { sink = c.pair.new.sink }) c.in-Err.fault c.args.telling.now c.args.telling.now (c.in-Err.ensures.answers life.sink h.is_sink)
