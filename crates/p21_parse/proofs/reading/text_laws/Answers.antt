use Rattle.p21_parse.proofs.OneMeaning.{apart, one_error}
use Rattle.p21_parse.proofs.Followed.{text_spelled}
use Rattle.p21_parse.proofs.reading.text_laws.Goals as goal

pub returns-clause-apart : goal.returns-clause-apart
returns-clause-apart c =
    λ bytes x e. apart bytes (c.reading_laws.ensures.same bytes) (c.reading_laws.ensures.refused bytes) (c.grammar_laws.ensures.single bytes) (c.grammar_laws.ensures.allowed bytes) x e

pub returns-clause-single : goal.returns-clause-single
returns-clause-single c =
    λ bytes e f. one_error bytes (c.reading_laws.ensures.same bytes) (c.reading_laws.ensures.refused bytes) (c.grammar_laws.ensures.single bytes) (c.grammar_laws.ensures.allowed bytes) e f

pub returns-clause-spelled : goal.returns-clause-spelled
returns-clause-spelled c = text_spelled
