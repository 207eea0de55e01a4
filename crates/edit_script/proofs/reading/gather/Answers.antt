use Rattle.std.proofs.Common.{arith}
use Rattle.std.proofs.lemmas.Result.{err_from_is_err_and}
use Rattle.edit_script.proofs.Gathering.{full_behind, refused_edit, one_more_read}
use Rattle.edit_script.proofs.reading.gather.Goals as goal

pub returns-then-gathered-ge-MAX_EDITS-clause-refused : goal.returns-then-gathered-ge-MAX_EDITS-clause-refused
returns-then-gathered-ge-MAX_EDITS-clause-refused c =
    full_behind c.args.source.now c.loop-at.at c.loop-at.gathered c.loop-at.invariant c.one_more.result (omega arith) c.one_more.ensures

pub returns-in_err-written-clause-refused : goal.returns-in_err-written-clause-refused
returns-in_err-written-clause-refused c =
    let p = err_from_is_err_and c.from_residual.result c.from_residual.ensures.1 in
    rw (p.1, p.2) (refused_edit c.args.source.now c.loop-at.at c.loop-at.gathered c.loop-at.invariant c.in_err-written.field-0.0 (omega arith) c.in_err-written.ensures.refused)

pub loop-at-preserved : goal.loop-at-preserved
loop-at-preserved c =
    let r = c.loop-at.invariant in
    let x = c.in_ok-written.ensures.read in
    one_more_read c.args.source.now c.loop-at.at c.in_ok-written.next c.loop-at.gathered c.add.new.self x.0 r (omega arith) x.1 (c.in_ok-add.ensures r.edits x.0 r.gathered x.2)
