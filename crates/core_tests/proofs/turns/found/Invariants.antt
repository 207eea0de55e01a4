use Rattle.std.specs.Prelude.{[]}
use Rattle.core_tests.proofs.turns.found.Given as goal

abbrev pub ghosts-walked-N-RunName : goal.ghosts-walked-N-RunName
ghosts-walked-N-RunName a = record { project = a.project; script = []; limit = a.limit }

abbrev pub ghosts-walked-L-Ledger : goal.ghosts-walked-L-Ledger
ghosts-walked-L-Ledger a = record { name = a.blank.name; parts = a.blank.parts }
