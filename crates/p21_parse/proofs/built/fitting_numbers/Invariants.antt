use Rattle.p21_parse.proofs.Building.{Looked}
use Rattle.p21_parse.proofs.built.fitting_numbers.Given as goal

abbrev pub invariant-loop-at : goal.invariant-loop-at
invariant-loop-at l = Looked l.items l.at l.numbers.items
