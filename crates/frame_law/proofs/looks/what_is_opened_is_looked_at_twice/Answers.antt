use Rattle.frame_law.proofs.LookLemmas.{both_few, first_few}
use Rattle.frame_law.proofs.looks.what_is_opened_is_looked_at_twice.Goals as goal

pub returns-clause-executable : goal.returns-clause-executable
returns-clause-executable g = λ e v. both_few e v

pub returns-clause-elements : goal.returns-clause-elements
returns-clause-elements g = λ es v. first_few es v
