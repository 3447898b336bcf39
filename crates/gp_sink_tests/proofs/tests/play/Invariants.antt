use Rattle.gp_sink_tests.proofs.tests.play.Given as goal

abbrev pub invariant-loop-action : goal.invariant-loop-action
invariant-loop-action g l = Unit {0}
