use Rattle.std.proofs.Common.{length}
use Rattle.std.proofs.lemmas.Result.{err_from_is_err_and}
use Rattle.p21_parse.specs.View.{exchange_of}
use Rattle.p21_parse.proofs.BehindLemmas.{nothing, alone, start_is, start_refuses}
use Rattle.p21_parse.proofs.Telling.{exchanged, told_syntax, told_deep, bound_syntax, bound_deep, bound_read}
use Rattle.p21_parse.proofs.parser.Parser.exchange.Goals as goal

pub returns-in_err-check_names-in-Ok-clause-refused :
    goal.returns-in_err-check_names-in-Ok-clause-refused
returns-in_err-check_names-in-Ok-clause-refused c =
    let s = c.args.self.now in
    let whole = alone s c.nothing-nothing.result c.requires.parser c.nothing-nothing.ensures.numbers c.nothing-nothing.ensures.marked in
    let p = err_from_is_err_and c.from_residual.result c.from_residual.ensures.1 in
    rw (p.1, p.2) (start_refuses s (length s.tokens.now) c.in_err-check_names-in-Ok.field-0.0 (c.in_err-check_names-in-Ok.ensures.refused s nothing whole) (bound_read s (exchange_of c.in-Ok.exchange) c.in-Ok.ensures.read))

pub returns-in_ok-check_names-in-Ok-clause-read : goal.returns-in_ok-check_names-in-Ok-clause-read
returns-in_ok-check_names-in-Ok-clause-read c =
    let s = c.args.self.now in
    let whole = alone s c.nothing-nothing.result c.requires.parser c.nothing-nothing.ensures.numbers c.nothing-nothing.ensures.marked in
    exchanged s (exchange_of c.in-Ok.exchange) c.in-Ok.ensures.read (start_is s (length s.tokens.now) (c.in_ok-check_names-in-Ok.ensures.fine s nothing whole))

pub returns-in_err-check_names-in-Err-Syntax-clause-refused :
    goal.returns-in_err-check_names-in-Err-Syntax-clause-refused
returns-in_err-check_names-in-Err-Syntax-clause-refused c =
    let s = c.args.self.now in
    let whole = alone s c.nothing-nothing.result c.requires.parser c.nothing-nothing.ensures.numbers c.nothing-nothing.ensures.marked in
    let p = err_from_is_err_and c.from_residual-in_err-check_names-in-Err-Syntax.result c.from_residual-in_err-check_names-in-Err-Syntax.ensures.1 in
    let stops = rw c.in-Err-Syntax.field-0-is at c.in-Err-Syntax.ensures.refused in
    rw (p.1, p.2) (start_refuses s c.in-Err-Syntax.at c.in_err-check_names-in-Err-Syntax.field-0.0 (c.in_err-check_names-in-Err-Syntax.ensures.refused s nothing whole) (bound_syntax s c.in-Err-Syntax.at stops))

pub returns-in_ok-check_names-in-Err-Syntax-clause-refused :
    goal.returns-in_ok-check_names-in-Err-Syntax-clause-refused
returns-in_ok-check_names-in-Err-Syntax-clause-refused c =
    let s = c.args.self.now in
    let whole = alone s c.nothing-nothing.result c.requires.parser c.nothing-nothing.ensures.numbers c.nothing-nothing.ensures.marked in
    told_syntax s c.in-Err-Syntax.at c.place.result (rw c.in-Err-Syntax.field-0-is at c.in-Err-Syntax.ensures.refused) (start_is s c.in-Err-Syntax.at (c.in_ok-check_names-in-Err-Syntax.ensures.fine s nothing whole)) c.place.ensures

pub returns-in_err-check_names-in-Err-TooDeep-clause-refused :
    goal.returns-in_err-check_names-in-Err-TooDeep-clause-refused
returns-in_err-check_names-in-Err-TooDeep-clause-refused c =
    let s = c.args.self.now in
    let whole = alone s c.nothing-nothing.result c.requires.parser c.nothing-nothing.ensures.numbers c.nothing-nothing.ensures.marked in
    let p = err_from_is_err_and c.from_residual-in_err-check_names-in-Err-TooDeep.result c.from_residual-in_err-check_names-in-Err-TooDeep.ensures.1 in
    let stops = rw c.in-Err-TooDeep.field-0-is at c.in-Err-TooDeep.ensures.refused in
    rw (p.1, p.2) (start_refuses s c.in-Err-TooDeep.at c.in_err-check_names-in-Err-TooDeep.field-0.0 (c.in_err-check_names-in-Err-TooDeep.ensures.refused s nothing whole) (bound_deep s c.in-Err-TooDeep.at stops))

pub returns-in_ok-check_names-in-Err-TooDeep-clause-refused :
    goal.returns-in_ok-check_names-in-Err-TooDeep-clause-refused
returns-in_ok-check_names-in-Err-TooDeep-clause-refused c =
    let s = c.args.self.now in
    let whole = alone s c.nothing-nothing.result c.requires.parser c.nothing-nothing.ensures.numbers c.nothing-nothing.ensures.marked in
    told_deep s c.in-Err-TooDeep.at c.place-in-Err-TooDeep.result (rw c.in-Err-TooDeep.field-0-is at c.in-Err-TooDeep.ensures.refused) (start_is s c.in-Err-TooDeep.at (c.in_ok-check_names-in-Err-TooDeep.ensures.fine s nothing whole)) c.place-in-Err-TooDeep.ensures
