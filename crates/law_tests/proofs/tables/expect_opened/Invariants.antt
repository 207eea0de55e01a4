use Rattle.law_tests.proofs.tables.expect_opened.Given as goal

abbrev pub ghosts-open_counted : goal.ghosts-open_counted
ghosts-open_counted g a = record { name = a.blank.name; parts = a.blank.parts }
