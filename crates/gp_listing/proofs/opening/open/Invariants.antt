use Rattle.gp_listing.proofs.opening.open.Given as goal

abbrev pub ghosts-open_secured : goal.ghosts-open_secured
ghosts-open_secured a = record { name = a.blank.name; parts = a.blank.parts }
