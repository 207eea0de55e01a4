use Rattle.std.proofs.Common.{sym, arith}
use Rattle.std.proofs.lemmas.Bool.Decides.{nat_tests}
use Rattle.std.proofs.lemmas.Result.{err_from_is_err_and}
use Rattle.log_read.proofs.Stepping.{few_read, read_more, shorter, whole, no_end, refusal_reads}
use Rattle.log_read.proofs.reading.lines.Goals as goal

pub next_step-requires-clause-few : goal.next_step-requires-clause-few
next_step-requires-clause-few c = omega (arith, few_read _ _ _ c.loop-rest.invariant, c.len.ensures)

pub returns-in_err-entry : goal.returns-in_err-entry
returns-in_err-entry c =
    let p = err_from_is_err_and c.from_residual-in_err-entry.result c.from_residual-in_err-entry.ensures.1 in
    rw (p.1, p.2) (refusal_reads _ c.in_err-entry.field-0.0 (c.in_err-entry.ensures _ _ (sym c.len.ensures) c.loop-rest.invariant))

pub loop-rest-smaller : goal.loop-rest-smaller
loop-rest-smaller c =
    let h = rw c.in-Next.is at c.in_ok-entry.ensures in
    shorter c.in-Next.entry c.loop-rest.rest.now c.in-Next.behind.now h.2

pub loop-rest-preserved : goal.loop-rest-preserved
loop-rest-preserved c =
    let h = rw c.in-Next.is at c.in_ok-entry.ensures in
    rw c.in_ok-push-in-Next.ensures.ok (read_more _ c.loop-rest.log c.in-Next.entry c.loop-rest.rest.now c.in-Next.behind.now c.loop-rest.invariant (omega (arith, h.0, c.len.ensures)) h.1 h.2)

pub returns-in-Closed : goal.returns-in-Closed
returns-in-Closed c =
    let h = rw c.in-Closed.is at c.in_ok-entry.ensures in
    whole _ c.loop-rest.log c.loop-rest.rest.now c.in-Closed.ending c.len.result (sym c.len.ensures) c.loop-rest.invariant h

pub returns : goal.returns
returns c = no_end _ c.loop-rest.log c.loop-rest.rest.now c.loop-rest.invariant (grind (arith, nat_tests))
