use Rattle.gp_rows.proofs.table.Table.of_pair.Given as goal

abbrev pub ghosts-find_pair : goal.ghosts-find_pair
ghosts-find_pair a = record { name = a.blank.name; parts = a.blank.parts }
