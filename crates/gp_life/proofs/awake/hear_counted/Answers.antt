use Rattle.std.proofs.Common.{List, subst}
use Rattle.gp_ideal.specs.Heard.{heard}
use Rattle.gp_translate.specs.declared.rule.Rule.{Rule}
use Rattle.gp_sink.specs.Sink.{Comes}
use Rattle.gp_life.proofs.Answering.{answers}
use Rattle.gp_life.proofs.Effects.{is_new, runs_on}
use Rattle.gp_life.proofs.awake.hear_counted.Goals as goal

pub returns-clause-answers : goal.returns-clause-answers
returns-clause-answers g c = λ model h.
    answers g.D.Disk g.met.D.Disk.counts_now model (heard model.rules model.ledger c.args.octets.now) c.args.sink.now c.hear.new.self c.hear.result h
    (subst (λ (rules : List Rule). Comes g.D.Disk model.ledger (heard rules model.ledger c.args.octets.now) c.args.sink.now c.hear.new.self c.hear.result) h.rules (c.hear.ensures.comes model.ledger h.fits))
    c.hear.ensures.cause c.hear.ensures.goes c.hear.ensures.kept

pub returns-clause-fault : goal.returns-clause-fault
returns-clause-fault g c = is_new g.D.Disk c.args.sink.now c.hear.new.self c.hear.result c.requires.runs c.hear.ensures.cause

pub returns-clause-runs : goal.returns-clause-runs
returns-clause-runs g c = runs_on g.D.Disk c.args.sink.now c.hear.new.self c.hear.result c.hear.ensures.cause
