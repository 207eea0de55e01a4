use Rattle.std.proofs.lemmas.Result.{err_from_is_err_and}
use Rattle.std.proofs.lemmas.List.Elements.{recursion_from_All}
use Rattle.p21_lex.specs.Reading.{IsToken}
use Rattle.p21_parse.proofs.Resuming.{lex_behind}
use Rattle.p21_parse.proofs.behind.tokens_behind.Goals as goal

pub returns-in_err-found-clause-refused : goal.returns-in_err-found-clause-refused
returns-in_err-found-clause-refused c =
    let p = err_from_is_err_and c.from_residual.result c.from_residual.ensures.1 in
    rw (p.1, p.2) (λ x f. lex_behind c.args.bytes.now c.args.from x f c.in_err-found.field-0.0 c.requires.from c.in_err-found.ensures.refused)

pub returns-clause-inside : goal.returns-clause-inside
returns-clause-inside c = recursion_from_All (IsToken c.args.bytes.now) c.in_ok-found.found.items c.in_ok-found.ensures.inside
