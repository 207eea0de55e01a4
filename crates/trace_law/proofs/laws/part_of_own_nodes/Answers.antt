use Rattle.exec_tree.specs.Exec.{nodes}
use Rattle.trace_law.proofs.StepLemmas.{only_all}
use Rattle.trace_law.proofs.StepForthLemmas.{part_of_whole}
use Rattle.trace_law.proofs.StepBackLemmas.{part_inside}
use Rattle.trace_law.proofs.laws.part_of_own_nodes.Goals as goal

pub returns-clause-nodes : goal.returns-clause-nodes
returns-clause-nodes c = λ e t p. only_all (nodes e) t (part_inside e t p)

pub returns-clause-whole : goal.returns-clause-whole
returns-clause-whole c = λ e t w. part_of_whole e t w
