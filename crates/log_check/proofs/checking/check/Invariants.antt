use Rattle.log_check.proofs.checking.check.Given as goal

abbrev pub ghosts-followed : goal.ghosts-followed
ghosts-followed a = record { name = a.blank.name; parts = a.blank.parts }
