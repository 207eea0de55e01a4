use Rattle.p21_lex.specs.declared.token.TokenKind.TheVariants as kinds
use Rattle.p21_parse.specs.Symbol.{value}
use Rattle.p21_parse.proofs.Spellings.{told_same}
use Rattle.p21_parse.proofs.spelling.is_enumeration.Goals as goal

pub returns : goal.returns
returns c = told_same (value kinds.Enumeration c.args.text.now) c.is_identifier.result c.is_identifier.ensures
