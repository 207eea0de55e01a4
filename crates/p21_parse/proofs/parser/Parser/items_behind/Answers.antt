use Rattle.std.proofs.Common.{length, map, subst, ◌+◌, ℕ, sym}
use Rattle.std.proofs.lemmas.Result.{err_from_is_err_and}
use Rattle.p21_parse.specs.Names.{before, AreFine}
use Rattle.p21_parse.specs.View.{instance_of}
use Rattle.p21_parse.proofs.BehindLemmas.{count_is}
use Rattle.p21_parse.proofs.Resuming.{rest_bound, told_syntax_behind, told_deep_behind, bound_syntax_behind, bound_deep_behind}
use Rattle.p21_parse.proofs.parser.Parser.items_behind.Goals as goal

pub returns-in_err-check_names-in-Ok-clause-refused :
    goal.returns-in_err-check_names-in-Ok-clause-refused
returns-in_err-check_names-in-Ok-clause-refused c =
    let t = c.args.self.now in
    let b = c.args.earlier.now in
    let p = err_from_is_err_and c.from_residual.result c.from_residual.ensures.1 in
    rw (p.1, p.2) (λ s ts l g. c.in_err-check_names-in-Ok.ensures.refused s ts l (rest_bound s t ts b l g (map instance_of c.in-Ok.items) (length ts + length t.tokens.now) c.in-Ok.ensures.read))

pub returns-in_ok-check_names-in-Ok-clause-fine : goal.returns-in_ok-check_names-in-Ok-clause-fine
returns-in_ok-check_names-in-Ok-clause-fine c = λ s ts l.
    subst (λ (k : ℕ). AreFine (before s k)) (sym (count_is s c.args.self.now ts c.args.earlier.now l)) (c.in_ok-check_names-in-Ok.ensures.fine s ts l)

pub returns-in_err-check_names-in-Err-Syntax-clause-refused :
    goal.returns-in_err-check_names-in-Err-Syntax-clause-refused
returns-in_err-check_names-in-Err-Syntax-clause-refused c =
    let t = c.args.self.now in
    let b = c.args.earlier.now in
    let p = err_from_is_err_and c.from_residual-in_err-check_names-in-Err-Syntax.result c.from_residual-in_err-check_names-in-Err-Syntax.ensures.1 in
    let stops = rw c.in-Err-Syntax.field-0-is at c.in-Err-Syntax.ensures.refused in
    rw (p.1, p.2) (λ s ts l g. c.in_err-check_names-in-Err-Syntax.ensures.refused s ts l (bound_syntax_behind s t ts b l g c.in-Err-Syntax.at stops))

pub returns-in_ok-check_names-in-Err-Syntax-clause-refused :
    goal.returns-in_ok-check_names-in-Err-Syntax-clause-refused
returns-in_ok-check_names-in-Err-Syntax-clause-refused c =
    let t = c.args.self.now in
    let b = c.args.earlier.now in
    let stops = rw c.in-Err-Syntax.field-0-is at c.in-Err-Syntax.ensures.refused in
    λ s ts l g. told_syntax_behind s t ts b l g c.in-Err-Syntax.at c.place.result stops (c.in_ok-check_names-in-Err-Syntax.ensures.fine s ts l) c.place.ensures

pub returns-in_err-check_names-in-Err-TooDeep-clause-refused :
    goal.returns-in_err-check_names-in-Err-TooDeep-clause-refused
returns-in_err-check_names-in-Err-TooDeep-clause-refused c =
    let t = c.args.self.now in
    let b = c.args.earlier.now in
    let p = err_from_is_err_and c.from_residual-in_err-check_names-in-Err-TooDeep.result c.from_residual-in_err-check_names-in-Err-TooDeep.ensures.1 in
    let stops = rw c.in-Err-TooDeep.field-0-is at c.in-Err-TooDeep.ensures.refused in
    rw (p.1, p.2) (λ s ts l g. c.in_err-check_names-in-Err-TooDeep.ensures.refused s ts l (bound_deep_behind s t ts b l g c.in-Err-TooDeep.at stops))

pub returns-in_ok-check_names-in-Err-TooDeep-clause-refused :
    goal.returns-in_ok-check_names-in-Err-TooDeep-clause-refused
returns-in_ok-check_names-in-Err-TooDeep-clause-refused c =
    let t = c.args.self.now in
    let b = c.args.earlier.now in
    let stops = rw c.in-Err-TooDeep.field-0-is at c.in-Err-TooDeep.ensures.refused in
    λ s ts l g. told_deep_behind s t ts b l g c.in-Err-TooDeep.at c.place-in-Err-TooDeep.result stops (c.in_ok-check_names-in-Err-TooDeep.ensures.fine s ts l) c.place-in-Err-TooDeep.ensures
