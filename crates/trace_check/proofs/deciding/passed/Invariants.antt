use Rattle.trace_check.proofs.deciding.passed.Given as goal

abbrev pub ghosts-passed_by : goal.ghosts-passed_by
ghosts-passed_by a = record { name = a.blank.name; parts = a.blank.parts }
