use Rattle.run_core.proofs.replaying.replay.Given as goal

abbrev pub ghosts-replay_named-N-RunName : goal.ghosts-replay_named-N-RunName
ghosts-replay_named-N-RunName a = record { project = a.project; script = a.script; limit = a.limit }

abbrev pub ghosts-replay_named-L-Ledger : goal.ghosts-replay_named-L-Ledger
ghosts-replay_named-L-Ledger a = record { name = a.blank.name; parts = a.blank.parts }
