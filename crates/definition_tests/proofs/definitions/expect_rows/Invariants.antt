use Rattle.definition_tests.proofs.definitions.expect_rows.Given as goal

abbrev pub ghosts-expect_answers : goal.ghosts-expect_answers
ghosts-expect_answers g a = record { name = a.blank.name; parts = a.blank.parts }
