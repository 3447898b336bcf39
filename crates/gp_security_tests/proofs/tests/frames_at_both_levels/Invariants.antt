use Rattle.gp_security_tests.proofs.tests.frames_at_both_levels.Given as goal

abbrev pub ghosts-check : goal.ghosts-check
ghosts-check g a = record { name = a.blank.name; parts = a.blank.parts }
