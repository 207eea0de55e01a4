use Rattle.p21_lex.proofs.Pieces.{is_piece, is_token}
use Rattle.p21_lex.proofs.Refusals.{front_refused, front_refuses}
use Rattle.p21_lex.proofs.piece.next_piece.Goals as goal

pub returns-clause-found : goal.returns-clause-found
returns-clause-found c = is_piece c.args.at c.args.bytes.now c.piece_at.result c.piece_at.ensures.exact

pub returns-clause-only : goal.returns-clause-only
returns-clause-only c = is_token c.args.at c.args.bytes.now c.piece_at.result c.piece_at.ensures.exact

pub returns-clause-refused : goal.returns-clause-refused
returns-clause-refused c = front_refused c.args.at c.args.bytes.now c.piece_at.result c.piece_at.ensures.exact

pub returns-clause-refuses : goal.returns-clause-refuses
returns-clause-refuses c = front_refuses c.args.at c.args.bytes.now c.piece_at.result c.piece_at.ensures.exact
