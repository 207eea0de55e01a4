use Rattle.std.proofs.Common.{◌≡◌, ◌+◌, ◌-◌, arith}
use Rattle.p21_parse.specs.Symbol.{semicolon}
use Rattle.p21_parse.proofs.Marks.{ends}
use Rattle.p21_parse.proofs.BehindLemmas.{name_found, name_none, not_marked}
use Rattle.p21_parse.proofs.parser.Parser.own_name.Goals as goal

pub returns-then-not-is_mark-clause-none : goal.returns-then-not-is_mark-clause-none
returns-then-not-is_mark-clause-none c =
    let back : c.args.at ≡ (c.args.at - 1) + 1 = omega arith in
    λ s ts l. not_marked s c.args.self.now ts c.args.earlier.now l c.args.at (c.args.at - 1) back (c.is_mark.ensures.none c.if-not-is_mark.true semicolon ends)

pub returns-clause-found : goal.returns-clause-found
returns-clause-found c =
    let back : c.args.at ≡ (c.args.at - 1) + 1 = omega arith in
    name_found c.args.self.now c.args.earlier.now c.args.at (c.args.at - 1) c.name.result back (c.is_mark.ensures.found c.if-not-is_mark.false semicolon ends) c.name.ensures.found

pub returns-clause-none : goal.returns-clause-none
returns-clause-none c = name_none c.args.self.now c.args.earlier.now c.args.at c.name.result c.name.ensures.none
