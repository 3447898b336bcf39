use Rattle.gp_bench.proofs.cipher.run.Given as goal

abbrev pub ghosts-sum_of_tags : goal.ghosts-sum_of_tags
ghosts-sum_of_tags a = record { name = a.blank.name; parts = a.blank.parts }
