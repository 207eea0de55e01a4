use Rattle.exec_tree.proofs.ResolvedLemmas.{walk_executable}
use Rattle.exec_tree.proofs.laws.walks_are_resolved.Goals as goal

pub returns : goal.returns
returns c = walk_executable
