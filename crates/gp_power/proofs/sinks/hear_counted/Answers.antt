use Rattle.gp_power.proofs.Few.{sink_few}
use Rattle.gp_power.proofs.sinks.hear_counted.Goals as goal

pub returns-clause-few : goal.returns-clause-few
returns-clause-few g c = sink_few c.args.sink.now c.hear.new.self c.hear.result c.hear.ensures.cause c.hear.ensures.goes c.hear.ensures.kept
