use Rattle.std.proofs.Common.{◌+◌, List, length}
use Rattle.p21_lex.specs.declared.token.Token.{Token}
use Rattle.p21_parse.specs.declared.parser.Parser.{Parser}
use Rattle.p21_parse.specs.Names.{IsBehind, AreNumbers}
use Rattle.p21_parse.proofs.parser.Parser.own_numbers.Given as goal

abbrev pub invariant-loop-at : goal.invariant-loop-at
invariant-loop-at l = (s : Parser) (ts : List Token) → IsBehind s l.self ts l.earlier → AreNumbers s (length ts + l.at) l.numbers.items
