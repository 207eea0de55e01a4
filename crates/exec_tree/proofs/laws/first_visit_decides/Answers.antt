use Rattle.exec_tree.proofs.FirstLemmas.{is_first, is_only, numbers_after, weight_after}
use Rattle.exec_tree.proofs.laws.first_visit_decides.Goals as goal

pub returns : goal.returns
returns c = record {
  first = λ entities seen visits fault. (is_first entities seen visits fault, is_only entities seen visits fault);
  numbers = numbers_after;
  weight = weight_after;
}
