use Rattle.std.proofs.Common.{◌+◌, ◌≤◌, Some, length, arith}
use Rattle.p21_parse.specs.declared.names.NameFault.TheVariants.{TooMany, Duplicate}
use Rattle.p21_parse.specs.Names.{NamesAre}
use Rattle.p21_parse.proofs.BehindLemmas.{count_is, same_start}
use Rattle.p21_parse.proofs.Telling.{names_many, names_twice}
use Rattle.p21_parse.proofs.parser.Parser.check_names.Goals as goal

pub returns-in-Some-TooMany-clause-refused : goal.returns-in-Some-TooMany-clause-refused
returns-in-Some-TooMany-clause-refused c = λ s ts l bound.
    let f : NamesAre s (length ts + c.args.end) (Some (TooMany (length ts + c.in-Some-TooMany.at))) = rw (c.in-Some-TooMany.is, c.in-Some-TooMany.field-0-is) at (c.in_ok-name_fault.ensures s ts l) in
    let within : length ts + c.args.end ≤ length s.tokens.now = omega (arith, count_is s c.args.self.now ts c.args.earlier.now l, c.requires.end) in
    names_many s l.real (length ts + c.args.end) (length ts + c.in-Some-TooMany.at) f.0 f.1.early within bound f.1 c.place.result
    (same_start s c.args.self.now ts c.args.earlier.now l c.in-Some-TooMany.at c.place.result c.place.ensures)

pub returns-in-Some-Duplicate-clause-refused : goal.returns-in-Some-Duplicate-clause-refused
returns-in-Some-Duplicate-clause-refused c = λ s ts l bound.
    let f : NamesAre s (length ts + c.args.end) (Some (Duplicate c.in-Some-Duplicate.number)) = rw (c.in-Some-Duplicate.is, c.in-Some-Duplicate.field-0-is) at (c.in_ok-name_fault.ensures s ts l) in
    let within : length ts + c.args.end ≤ length s.tokens.now = omega (arith, count_is s c.args.self.now ts c.args.earlier.now l, c.requires.end) in
    names_twice s l.real (length ts + c.args.end) f.0 c.in-Some-Duplicate.number f.1.early within bound f.1
