use Rattle.run_state.proofs.state.open_with.Given as goal

abbrev pub ghosts-open_frames : goal.ghosts-open_frames
ghosts-open_frames a = record { name = a.blank.name; parts = a.blank.parts }
