use Rattle.std.proofs.lemmas.Result.{err_from_is_err_and}
use Rattle.p21_parse.specs.Symbol.{semicolon}
use Rattle.p21_parse.specs.Spell.{spell_list}
use Rattle.p21_parse.specs.View.{trees_of}
use Rattle.p21_parse.proofs.Marks.{ends}
use Rattle.p21_parse.proofs.Heading.{entry_missing, entry_shut, entry_empty, entry_open, entry_read}
use Rattle.p21_parse.proofs.parser.Parser.entry.Goals as goal

pub returns-in_default-clause-refused : goal.returns-in_default-clause-refused
returns-in_default-clause-refused c = entry_missing c.args.self.now c.args.at c.requires.at c.in_default.ensures.none

pub returns-in_err-inner-clause-refused : goal.returns-in_err-inner-clause-refused
returns-in_err-inner-clause-refused c =
    let p = err_from_is_err_and c.from_residual.result c.from_residual.ensures.1 in
    rw (p.1, p.2) (entry_shut c.args.self.now c.args.at c.in-Some.word.now c.in_err-inner.field-0.0 c.in-Some.ensures.found c.requires.goes c.in_err-inner.ensures.refused)

pub returns-in_err-parameters-clause-refused : goal.returns-in_err-parameters-clause-refused
returns-in_err-parameters-clause-refused c =
    let p = err_from_is_err_and c.from_residual-in_err-parameters.result c.from_residual-in_err-parameters.ensures.1 in
    rw (p.1, p.2) (entry_empty c.args.self.now c.args.at c.in-Some.word.now c.in_err-parameters.field-0.0 c.in-Some.ensures.found c.requires.goes c.in_ok-inner.ensures.found.0 (rw c.in_ok-inner.ensures.next at c.in_err-parameters.ensures.refused))

pub returns-in_err-next-clause-refused : goal.returns-in_err-next-clause-refused
returns-in_err-next-clause-refused c =
    let p = err_from_is_err_and c.from_residual-in_err-next.result c.from_residual-in_err-next.ensures.1 in
    rw (p.1, p.2) (entry_open c.args.self.now c.args.at c.in-Some.word.now c.in_ok-parameters.after (spell_list (trees_of c.in_ok-parameters.parameters)) c.in_err-next.field-0.0 c.in-Some.ensures.found c.requires.goes c.in_ok-inner.ensures.found.0
    (rw c.in_ok-inner.ensures.next at c.in_ok-parameters.ensures.read) (c.in_err-next.ensures.refused semicolon 0 ends))

pub returns-clause-read : goal.returns-clause-read
returns-clause-read c =
    entry_read c.args.self.now c.args.at c.in-Some.word.now c.in_ok-parameters.after c.in_ok-next.next (record { keyword = c.in_ok-keyword.keyword; parameters = trees_of c.in_ok-parameters.parameters }) c.in_ok-keyword.ensures c.in-Some.ensures.found
    c.requires.goes c.in_ok-inner.ensures.found.0 (rw c.in_ok-inner.ensures.next at c.in_ok-parameters.ensures.read) (c.in_ok-next.ensures.found semicolon ends) c.in_ok-next.ensures.next
