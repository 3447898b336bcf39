use Rattle.gp_security_tests.proofs.tests.both_ways_and_kinds.Given as goal

abbrev pub ghosts-off : goal.ghosts-off
ghosts-off g a = record { name = a.blank.name; parts = a.blank.parts }
