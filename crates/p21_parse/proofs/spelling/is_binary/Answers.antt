use Rattle.p21_lex.specs.declared.token.TokenKind.TheVariants as kinds
use Rattle.p21_parse.specs.Symbol.{value}
use Rattle.p21_parse.proofs.Spellings.{told_same}
use Rattle.p21_parse.proofs.spelling.is_binary.Goals as goal

pub returns : goal.returns
returns c = told_same (value kinds.Binary c.args.text.now) c.are_hex.result c.are_hex.ensures
