use Rattle.gp_security_tests.proofs.tests.keys_both_ways.Given as goal

abbrev pub ghosts-check_key : goal.ghosts-check_key
ghosts-check_key g a = record { name = a.blank.name; parts = a.blank.parts }
