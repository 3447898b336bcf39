use Rattle.std.proofs.Common.{refl}
use Rattle.gp_world.specs.Sinks.{sink_hears, sink_pairs}
use Rattle.gp_sink.specs.Verdict.{offered}
use Rattle.gp_life.proofs.Effects.{acts, gone_config, gone_hear, gone_pair}
use Rattle.gp_life.proofs.awake.Awake.happen.Goals as goal

pub returns-in-Config-clause-comes : goal.returns-in-Config-clause-comes
returns-in-Config-clause-comes g c = λ life h.
    let asked = c.in-Config in
    rw asked.is (gone_config life c.args.telling.now.line asked.address asked.ieee asked.mode asked.channel asked.link asked.shared, refl)

pub returns-in-Ok-clause-comes : goal.returns-in-Ok-clause-comes
returns-in-Ok-clause-comes g c = λ life h.
    rw c.in-Hear.is (acts g.D.Disk life _ (sink_hears c.as_slice.result.now life.sink) c.args.self.now c.hear.new.self c.args.telling.now c.hear.new.telling
    (rw c.as_slice.ensures.value (gone_hear life c.args.telling.now.line c.in-Hear.octets)) (c.in-Ok.ensures.comes life h))

pub returns-in-Ok-pair-clause-comes : goal.returns-in-Ok-pair-clause-comes
returns-in-Ok-pair-clause-comes g c = λ life h.
    let asked = c.in-Pair in
    let offer = c.offer_of-offer.result in
    rw asked.is (acts g.D.Disk life _ (sink_pairs (offered life.sink.config offer) offer.counter life.sink) c.args.self.now c.pair.new.self c.args.telling.now c.pair.new.telling
    (rw c.offer_of-offer.ensures (gone_pair life c.args.telling.now.line asked.source asked.key asked.kind asked.level asked.device asked.counter)) (c.in-Ok-pair.ensures.comes life h))
