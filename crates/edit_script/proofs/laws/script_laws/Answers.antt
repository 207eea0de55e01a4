use Rattle.edit_script.proofs.OneScript.{one, apart, single}
use Rattle.edit_script.proofs.laws.script_laws.Goals as goal

pub returns-clause-one : goal.returns-clause-one
returns-clause-one c = λ bytes. one c.reading_laws.ensures.same c.reading_laws.ensures.refused bytes

pub returns-clause-apart : goal.returns-clause-apart
returns-clause-apart c = λ bytes. apart c.reading_laws.ensures.same c.reading_laws.ensures.refused bytes

pub returns-clause-single : goal.returns-clause-single
returns-clause-single c = λ bytes. single c.reading_laws.ensures.same c.reading_laws.ensures.refused bytes
