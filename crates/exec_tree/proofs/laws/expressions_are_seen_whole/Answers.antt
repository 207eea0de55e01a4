use Rattle.exec_tree.proofs.WholeLemmas.{size_whole, size_more}
use Rattle.exec_tree.proofs.laws.expressions_are_seen_whole.Goals as goal

pub returns : goal.returns
returns c = record { whole = size_whole; deeper = size_more }
