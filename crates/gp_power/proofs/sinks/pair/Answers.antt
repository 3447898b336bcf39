use Rattle.gp_power.proofs.Few.{sink_few}
use Rattle.gp_power.proofs.sinks.pair.Goals as goal

pub returns-clause-few : goal.returns-clause-few
returns-clause-few c = sink_few c.args.sink.now c.pair.new.self c.pair.result c.pair.ensures.cause c.pair.ensures.goes c.pair.ensures.kept
