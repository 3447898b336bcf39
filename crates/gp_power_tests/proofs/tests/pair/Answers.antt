use Rattle.std.proofs.Common.{arith}
use Rattle.gp_power.proofs.Few.{few_within}
use Rattle.gp_power_tests.proofs.tests.pair.Goals as goal

pub pair-answer-requires : goal.pair-answer-requires
pair-answer-requires c = record { room = few_within 0 18446744073709551614 (omega arith) c.args.powered.now.supply c.requires }
