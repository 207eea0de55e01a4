use Rattle.std.proofs.lemmas.Result.{err_from_is_err_and}
use Rattle.p21_parse.proofs.Telling.{told_lex}
use Rattle.p21_parse.proofs.reading.tokens_of.Goals as goal

pub returns-in_err-found-clause-refused : goal.returns-in_err-found-clause-refused
returns-in_err-found-clause-refused c =
    let p = err_from_is_err_and c.from_residual.result c.from_residual.ensures.1 in
    rw (p.1, p.2) (told_lex c.args.bytes.now c.in_err-found.field-0.0 c.in_err-found.ensures.refused)
