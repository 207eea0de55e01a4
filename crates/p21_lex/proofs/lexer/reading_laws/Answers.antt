use Rattle.p21_lex.proofs.Whole.{found, only}
use Rattle.p21_lex.proofs.Longest.{longest}
use Rattle.p21_lex.proofs.Refusals.{is_refused, refuses, no_want}
use Rattle.p21_lex.proofs.lexer.reading_laws.Goals as goal

pub returns : goal.returns
returns c = record { same = λ bytes ts. (found bytes ts, only bytes ts); longest = longest; refused = λ bytes e. (is_refused bytes e, refuses bytes e); memory = no_want }
