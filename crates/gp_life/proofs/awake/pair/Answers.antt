use Rattle.std.proofs.Common.{subst}
use Rattle.gp_ideal.specs.declared.config.Config.{Config}
use Rattle.gp_ideal.specs.Paired.{paired}
use Rattle.gp_sink.specs.Sink.{Comes}
use Rattle.gp_sink.specs.Verdict.{offered}
use Rattle.gp_life.proofs.Answering.{answers}
use Rattle.gp_life.proofs.Effects.{is_new, runs_on}
use Rattle.gp_life.proofs.awake.pair.Goals as goal

pub returns-clause-answers : goal.returns-clause-answers
returns-clause-answers g c = λ model h.
    let offer = c.args.offer.now in
    answers g.D.Disk g.met.D.Disk.counts_now model (paired model.config model.ledger (offered model.config offer) offer.counter) c.args.sink.now c.pair.new.self c.pair.result h
    (subst (λ (config : Config). Comes g.D.Disk model.ledger (paired config model.ledger (offered config offer) offer.counter) c.args.sink.now c.pair.new.self c.pair.result) h.config (c.pair.ensures.comes model.ledger h.fits))
    c.pair.ensures.cause c.pair.ensures.goes c.pair.ensures.kept

pub returns-clause-fault : goal.returns-clause-fault
returns-clause-fault g c = is_new g.D.Disk c.args.sink.now c.pair.new.self c.pair.result c.requires.runs c.pair.ensures.cause

pub returns-clause-runs : goal.returns-clause-runs
returns-clause-runs g c = runs_on g.D.Disk c.args.sink.now c.pair.new.self c.pair.result c.pair.ensures.cause
