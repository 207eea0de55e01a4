use Rattle.std.proofs.lemmas.Result.{err_from_is_err_and}
use Rattle.p21_parse.specs.Symbol.{semicolon}
use Rattle.p21_parse.specs.Spell.{spell_list}
use Rattle.p21_parse.specs.View.{trees_of}
use Rattle.p21_parse.proofs.Marks.{ends}
use Rattle.p21_parse.proofs.Heading.{named_refused, named_open, named_read}
use Rattle.p21_parse.proofs.parser.Parser.named.Goals as goal

pub returns-in_err-parameters-clause-refused : goal.returns-in_err-parameters-clause-refused
returns-in_err-parameters-clause-refused c =
    let p = err_from_is_err_and c.from_residual-in_err-parameters.result c.from_residual-in_err-parameters.ensures.1 in
    let opening = rw c.in_ok-start.ensures.next at c.in_ok-inner.ensures.found.0 in
    rw (p.1, p.2) (named_refused c.args.self.now c.args.at c.args.more c.args.text.now c.requires.keyword c.in_err-parameters.field-0.0 c.in_ok-start.ensures.found opening
    (rw (c.in_ok-inner.ensures.next, c.in_ok-start.ensures.next) at c.in_err-parameters.ensures.refused))

pub returns-in_err-next-clause-refused : goal.returns-in_err-next-clause-refused
returns-in_err-next-clause-refused c =
    let p = err_from_is_err_and c.from_residual-in_err-next.result c.from_residual-in_err-next.ensures.1 in
    let opening = rw c.in_ok-start.ensures.next at c.in_ok-inner.ensures.found.0 in
    rw (p.1, p.2) (named_open c.args.self.now c.args.at c.args.more c.args.text.now c.requires.keyword c.in_ok-parameters.after (spell_list (trees_of c.in_ok-parameters.parameters)) c.in_err-next.field-0.0 c.in_ok-start.ensures.found opening
    (rw (c.in_ok-inner.ensures.next, c.in_ok-start.ensures.next) at c.in_ok-parameters.ensures.read) (c.in_err-next.ensures.refused semicolon 0 ends))

pub returns-clause-read : goal.returns-clause-read
returns-clause-read c =
    let opening = rw c.in_ok-start.ensures.next at c.in_ok-inner.ensures.found.0 in
    named_read c.args.self.now c.args.at c.args.more c.args.text.now c.requires.keyword c.in_ok-parameters.after c.in_ok-next.next (record { keyword = c.in_ok-keyword.keyword; parameters = trees_of c.in_ok-parameters.parameters })
    c.in_ok-keyword.ensures c.in_ok-start.ensures.found opening (rw (c.in_ok-inner.ensures.next, c.in_ok-start.ensures.next) at c.in_ok-parameters.ensures.read) (c.in_ok-next.ensures.found semicolon ends) c.in_ok-next.ensures.next
