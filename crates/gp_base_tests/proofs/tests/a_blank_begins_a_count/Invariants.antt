use Rattle.gp_base_tests.proofs.tests.a_blank_begins_a_count.Given as goal

abbrev pub ghosts-counted_twice : goal.ghosts-counted_twice
ghosts-counted_twice a = record { name = a.blank.name; parts = a.blank.parts }
