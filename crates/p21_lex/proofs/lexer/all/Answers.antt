use Rattle.std.proofs.Common.{◌<◌, ◌≤◌, length, drop, sym, arith}
use Rattle.std.proofs.lemmas.Result.{err_from_is_err_and}
use Rattle.std.proofs.lemmas.List.{take_rest, length-drop}
use Rattle.p21_lex.specs.Front.{piece_len}
use Rattle.p21_lex.specs.Tokens.{tokens_behind_place}
use Rattle.p21_lex.proofs.Loop.{begun, goes_on, fails, is_done, is_filled, is_empty}
use Rattle.p21_lex.proofs.lexer.all.Goals as goal

pub loop-rest-init : goal.loop-rest-init
loop-rest-init c =
    rw (take_rest c.args.bytes.now c.args.from, c.new-found.ensures.items) (omega (arith, length-drop c.args.from c.args.bytes.now, c.requires.from), begun c.args.from (drop c.args.from c.args.bytes.now))

pub returns-in_err-piece : goal.returns-in_err-piece
returns-in_err-piece c =
    let p = err_from_is_err_and c.from_residual.result c.from_residual.ensures.1 in
    let filled : 0 < length c.loop-rest.rest.now = is_filled c.loop-rest.rest.now c.is_empty.result c.is_empty.ensures c.loop-rest-test.true in
    rw (p.1, p.2) (fails (tokens_behind_place c.args.from (drop c.args.from c.args.bytes.now)) c.loop-rest.found.items c.loop-rest.at c.loop-rest.rest.now c.in_err-piece.field-0.0 c.loop-rest.invariant.1 filled (sym c.in_err-piece.ensures.exact))

pub loop-rest-preserved : goal.loop-rest-preserved
loop-rest-preserved c =
    let rest = c.loop-rest.rest.now in
    let filled : 0 < length rest = is_filled rest c.is_empty.result c.is_empty.ensures c.loop-rest-test.true in
    let takes : 0 < piece_len c.in_ok-piece.piece = c.in_ok-piece.ensures.filled filled in
    let within : piece_len c.in_ok-piece.piece ≤ length rest = c.in_ok-piece.ensures.within in
    let next = goes_on (tokens_behind_place c.args.from (drop c.args.from c.args.bytes.now)) c.loop-rest.found.items c.loop-rest.at rest c.in_ok-piece.piece c.loop-rest.invariant.1 filled (sym c.in_ok-piece.ensures.exact) takes in
    rw (take_rest rest c.len-len.result, c.len-len.ensures, c.in_ok-add.ensures.added) (omega (arith, length-drop (piece_len c.in_ok-piece.piece) rest, c.loop-rest.invariant.0), next)

pub returns : goal.returns
returns c = is_done (tokens_behind_place c.args.from (drop c.args.from c.args.bytes.now)) c.loop-rest.found.items c.loop-rest.at c.loop-rest.rest.now c.loop-rest.invariant.1 (is_empty c.loop-rest.rest.now c.is_empty.result c.is_empty.ensures c.loop-rest-test.false)
