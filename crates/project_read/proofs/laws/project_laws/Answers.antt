use Rattle.project_read.proofs.OneProject.{one_project, no_refusal, one_refusal}
use Rattle.project_read.proofs.laws.project_laws.Goals as goal

pub returns-clause-one : goal.returns-clause-one
returns-clause-one c = one_project c.text_laws.ensures.one

pub returns-clause-apart : goal.returns-clause-apart
returns-clause-apart c = no_refusal c.text_laws.ensures.one c.text_laws.ensures.apart

pub returns-clause-single : goal.returns-clause-single
returns-clause-single c = one_refusal c.text_laws.ensures.one c.text_laws.ensures.apart c.text_laws.ensures.single
