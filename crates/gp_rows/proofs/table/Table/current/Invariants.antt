use Rattle.gp_rows.proofs.table.Table.current.Given as goal

abbrev pub ghosts-find_current : goal.ghosts-find_current
ghosts-find_current a = record { name = a.blank.name; parts = a.blank.parts }
