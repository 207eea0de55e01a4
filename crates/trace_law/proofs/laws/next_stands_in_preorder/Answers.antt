use Rattle.trace_law.proofs.PreorderLemmas.{next_is_in_preorder, first_in_preorder, any_in_preorder}
use Rattle.trace_law.proofs.laws.next_stands_in_preorder.Goals as goal

pub returns-clause-order : goal.returns-clause-order
returns-clause-order c = λ e t d. next_is_in_preorder e t d

pub returns-clause-first : goal.returns-clause-first
returns-clause-first c = λ e t test d. first_in_preorder e t test d

pub returns-clause-any : goal.returns-clause-any
returns-clause-any c = λ e t test d. any_in_preorder e t test d
