use Rattle.p21_lex.proofs.Pieces.{whole_is}
use Rattle.p21_lex.proofs.piece.spells.Goals as goal

pub returns : goal.returns
returns c =
    let whole = whole_is 0 c.args.text.now c.next_piece.result c.args.kind c.next_piece.ensures.exact in
    (λ yes_is. whole.0 (c.is_answer.ensures.0 yes_is), λ spelled. c.is_answer.ensures.1 (whole.1 spelled))
