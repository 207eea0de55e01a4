use Rattle.std.proofs.Common.{◌<◌, ◌≤◌, length, sym, ◌∙◌, arith}
use Rattle.std.proofs.lemmas.Result.{err_from_is_err_and}
use Rattle.std.proofs.lemmas.List.{take_rest, length-drop}
use Rattle.p21_lex.specs.Front.{piece_len}
use Rattle.p21_lex.specs.Slice.{slice_of}
use Rattle.p21_lex.proofs.Loop.{is_filled, is_empty}
use Rattle.p21_lex.proofs.Slices.{begun, goes_on, ended, fails, is_done}
use Rattle.p21_lex.proofs.slice.first_slice.Goals as goal

pub loop-rest-init : goal.loop-rest-init
loop-rest-init c = (omega arith, rw c.new-found.ensures.items (begun c.args.least c.args.bytes.now))

pub returns-in_err-piece : goal.returns-in_err-piece
returns-in_err-piece c =
    let p = err_from_is_err_and c.from_residual.result c.from_residual.ensures.1 in
    let rest = c.loop-rest.rest.now in
    let filled : 0 < length rest = is_filled rest c.is_empty.result c.is_empty.ensures c.loop-rest-test.true in
    rw (p.1, p.2) (fails c.args.least (slice_of c.args.least c.args.bytes.now) c.loop-rest.found.items c.loop-rest.at rest c.in_err-piece.field-0.0 c.loop-rest.invariant.1 filled (sym c.in_err-piece.ensures.exact))

pub returns-then-ends_slice : goal.returns-then-ends_slice
returns-then-ends_slice c =
    let rest = c.loop-rest.rest.now in
    let filled : 0 < length rest = is_filled rest c.is_empty.result c.is_empty.ensures c.loop-rest-test.true in
    rw (c.len-len.ensures, c.in_ok-add.ensures.added) (ended c.args.least (slice_of c.args.least c.args.bytes.now) c.loop-rest.found.items c.loop-rest.at rest c.in_ok-piece.piece c.loop-rest.invariant.1 filled (sym c.in_ok-piece.ensures.exact)
    (rw c.len-len.ensures at (sym c.ends_slice.ensures ∙ c.if-ends_slice.true)))

pub loop-rest-preserved : goal.loop-rest-preserved
loop-rest-preserved c =
    let rest = c.loop-rest.rest.now in
    let filled : 0 < length rest = is_filled rest c.is_empty.result c.is_empty.ensures c.loop-rest-test.true in
    let takes : 0 < piece_len c.in_ok-piece.piece = c.in_ok-piece.ensures.filled filled in
    let within : piece_len c.in_ok-piece.piece ≤ length rest = c.in_ok-piece.ensures.within in
    let open_still = rw c.len-len.ensures at (sym c.ends_slice.ensures ∙ c.if-ends_slice.false) in
    let next = goes_on c.args.least (slice_of c.args.least c.args.bytes.now) c.loop-rest.found.items c.loop-rest.at rest c.in_ok-piece.piece c.loop-rest.invariant.1 filled (sym c.in_ok-piece.ensures.exact) takes open_still in
    rw (take_rest rest c.len-len.result, c.len-len.ensures, c.in_ok-add.ensures.added) (omega (arith, length-drop (piece_len c.in_ok-piece.piece) rest, c.loop-rest.invariant.0), next)

pub returns : goal.returns
returns c =
    is_done c.args.least (slice_of c.args.least c.args.bytes.now) c.loop-rest.found.items c.loop-rest.at c.loop-rest.rest.now c.loop-rest.invariant.1 (is_empty c.loop-rest.rest.now c.is_empty.result c.is_empty.ensures c.loop-rest-test.false)
