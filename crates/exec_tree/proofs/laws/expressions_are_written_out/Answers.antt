use Rattle.exec_tree.proofs.WrittenLemmas.{term_whole, test_whole}
use Rattle.exec_tree.proofs.laws.expressions_are_written_out.Goals as goal

pub returns : goal.returns
returns c = record { values = term_whole; tests = test_whole }
