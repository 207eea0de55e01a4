use Rattle.p21_lex.proofs.Whole.{found}
use Rattle.p21_lex.proofs.Places.{inside, ordered}
use Rattle.p21_lex.proofs.lexer.tokens_fit.Goals as goal

pub returns : goal.returns
returns c =
    let reads = found c.args.bytes.now c.args.tokens.now c.requires in
    record { found = reads; inside = inside c.args.bytes.now c.args.tokens.now reads; ordered = ordered c.args.bytes.now c.args.tokens.now reads }
