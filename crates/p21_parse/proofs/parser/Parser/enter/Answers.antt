use Rattle.std.proofs.Common.{suc, [], arith, refl}
use Rattle.p21_lex.specs.declared.token.TokenKind.TheVariants.{Open}
use Rattle.p21_parse.specs.Symbol.{opening}
use Rattle.p21_parse.specs.Machine.{fixed}
use Rattle.p21_parse.specs.Parser.{from}
use Rattle.p21_parse.proofs.Moves.{stopped, sunk}
use Rattle.p21_parse.proofs.Marks.{opens, mark_sticks}
use Rattle.p21_parse.proofs.parser.Parser.enter.Goals as goal

pub returns-then-not-is_mark-clause-refused : goal.returns-then-not-is_mark-clause-refused
returns-then-not-is_mark-clause-refused c =
    stopped c.args.self.now (fixed opening) c.args.n c.args.at c.requires.at (mark_sticks Open opening (from c.args.self.now c.args.at) opens (c.is_mark.ensures.none c.if-not-is_mark.true opening opens))

pub returns-clause-found : goal.returns-clause-found
returns-clause-found c = (c.is_mark.ensures.found c.if-not-is_mark.false opening opens, omega arith)

pub returns-then-n-ge-MAX_NESTING-clause-refused : goal.returns-then-n-ge-MAX_NESTING-clause-refused
returns-then-n-ge-MAX_NESTING-clause-refused c =
    sunk c.args.self.now (fixed opening) c.args.n (suc c.args.n) c.args.at opening [] (c.is_mark.ensures.found c.if-not-is_mark.false opening opens) refl refl (omega arith)
