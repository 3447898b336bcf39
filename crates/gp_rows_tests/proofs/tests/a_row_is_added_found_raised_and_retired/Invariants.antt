use Rattle.gp_rows_tests.proofs.tests.a_row_is_added_found_raised_and_retired.Given as goal

abbrev pub ghosts-first_row : goal.ghosts-first_row
ghosts-first_row g a = record { name = a.blank.name; parts = a.blank.parts }
