use Rattle.p21_lex.proofs.Values.{few_digits}
use Rattle.p21_lex.proofs.piece.is_too_long.Goals as goal

pub returns-else-bytes-gt-MAX_DIGITS : goal.returns-else-bytes-gt-MAX_DIGITS
returns-else-bytes-gt-MAX_DIGITS c = few_digits c.args.bytes.now c.if-bytes-gt-MAX_DIGITS.false
