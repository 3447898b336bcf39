use Rattle.gp_aes_tests.proofs.tests.the_published_examples.Given as goal

abbrev pub ghosts-check : goal.ghosts-check
ghosts-check g a = record { name = a.blank.name; parts = a.blank.parts }
