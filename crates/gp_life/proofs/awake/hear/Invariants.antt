use Rattle.gp_life.proofs.awake.hear.Given as goal

abbrev pub ghosts-hear_counted : goal.ghosts-hear_counted
ghosts-hear_counted g a = record { name = a.blank.name; parts = a.blank.parts }
