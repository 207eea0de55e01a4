use Rattle.frame_law.proofs.StepUpLemmas.{of_plan, of_par, of_picks, of_sel, of_yes, of_no, of_body}
use Rattle.frame_law.proofs.tree.elements_are_found.Goals as goal

pub returns-clause-plan : goal.returns-clause-plan
returns-clause-plan g = λ e k n p es i q d h own. of_plan e k n p es i q d h own

pub returns-clause-parallel : goal.returns-clause-parallel
returns-clause-parallel g = λ e k p es i q d h own. of_par e k p es i q d h own

pub returns-clause-non_sequential : goal.returns-clause-non_sequential
returns-clause-non_sequential g = λ e k p es i q d h own. of_picks e k p es i q d h own

pub returns-clause-selective : goal.returns-clause-selective
returns-clause-selective g = λ e k p es i q d h own. of_sel e k p es i q d h own

pub returns-clause-branch_yes : goal.returns-clause-branch_yes
returns-clause-branch_yes g = λ e k p a b q d h own. of_yes e k p a b q d h own

pub returns-clause-branch_no : goal.returns-clause-branch_no
returns-clause-branch_no g = λ e k p a b q d h own. of_no e k p a b q d h own

pub returns-clause-body : goal.returns-clause-body
returns-clause-body g = λ e k p a q d h own. of_body e k p a q d h own
