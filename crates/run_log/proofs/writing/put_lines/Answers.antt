use Rattle.std.proofs.Common.{◌+◌, ◌++◌, List, ℕ, [], ◌∷◌, length, take, drop, get_or, append-nil, arith, subst, ap, ◌∙◌, sym}
use Rattle.run_log.specs.LinesFrom.{lines_from}
use Rattle.std.proofs.lemmas.Result.{err_from_is_err_and}
use Rattle.nc_outside.specs.Outside.{Appends, AppendsFront}
use Rattle.run_log.specs.LogText.{first_line, line_after, last_line}
use Rattle.run_log.specs.declared.entry.Entry.TheVariants.{Dispatch}
use Rattle.run_log.proofs.Fronts.{front_first, front_after, appends_after, told_more, told_split, all_told, on_ok, on_err}
use Rattle.run_log.proofs.writing.put_lines.Goals as goal

pub returns-in_err-put_all-clause-failed_takes_front : goal.returns-in_err-put_all-clause-failed_takes_front
returns-in_err-put_all-clause-failed_takes_front g c =
    let p = err_from_is_err_and c.from_residual.result c.from_residual.ensures.1 in
    rw (p.1) (front_first _ _ first_line (lines_from line_after [] c.args.log.now ++ last_line c.args.ending (length c.args.log.now)) c.in_err-put_all.ensures.failed_takes_front)

pub returns-in_err-put_all-2-clause-failed_takes_front : goal.returns-in_err-put_all-2-clause-failed_takes_front
returns-in_err-put_all-2-clause-failed_takes_front g c =
    let p = err_from_is_err_and c.from_residual-in_err-put_all-2.result c.from_residual-in_err-put_all-2.ensures.1 in
    let t = c.args.log.now in
    let i = c.loop-entry.entry-index in
    let tail = last_line c.args.ending (length t) in
    let line = rw (c.as_slice.ensures.value, c.of_entry.ensures) at c.in_err-put_all-2.ensures.failed_takes_front in
    let front = front_after _ _ _ (first_line ++ lines_from line_after [] (take i t)) _ (lines_from line_after (take i t ++ get_or t i (Dispatch 0 0) ∷ []) (drop (i + 1) t) ++ tail) c.loop-entry.invariant.taken line in
    rw (p.1) (subst (λ (m : List ℕ). AppendsFront (g.S.Sink.taken c.args.sink.now) (g.S.Sink.taken c.put_all-in-loop-entry.new.sink) m) (told_split line_after first_line t i (Dispatch 0 0) tail c.loop-entry-test.true) front)

pub loop-entry-preserved : goal.loop-entry-preserved
loop-entry-preserved g c =
    let t = c.args.log.now in
    let i = c.loop-entry.entry-index in
    let line = rw (c.as_slice.ensures.value, c.of_entry.ensures) at c.in_ok-put_all-2.ensures.ok in
    record {
      counted = omega (arith, c.loop-entry.invariant.counted, c.put_all-in-loop-entry.ensures.counted);
      taken =
          subst (λ (m : List ℕ). Appends (g.S.Sink.taken c.args.sink.now) (g.S.Sink.taken c.put_all-in-loop-entry.new.sink) m)
          (sym (told_more line_after first_line t i (Dispatch 0 0) c.loop-entry-test.true))
          (appends_after _ _ _ (first_line ++ lines_from line_after [] (take i t)) _ c.loop-entry.invariant.taken line);
    }

pub returns-clause-ok : goal.returns-clause-ok
returns-clause-ok g c =
    let t = c.args.log.now in
    let i = c.loop-entry.entry-index in
    let tail = last_line c.args.ending (length t) in
    let whole = all_told line_after first_line t i tail (omega arith) in
    on_ok _ (rw (c.as_slice-2.ensures.value, c.of_ending.ensures, c.requires) at c.put_all-2.ensures.ok)
    (λ line. subst (λ (m : List ℕ). Appends (g.S.Sink.taken c.args.sink.now) (g.S.Sink.taken c.put_all-2.new.sink) m) whole
    (appends_after _ _ _ (first_line ++ lines_from line_after [] (take i t)) tail c.loop-entry.invariant.taken line))

pub returns-clause-failed_takes_front : goal.returns-clause-failed_takes_front
returns-clause-failed_takes_front g c =
    let t = c.args.log.now in
    let i = c.loop-entry.entry-index in
    let tail = last_line c.args.ending (length t) in
    let whole = ap (λ (m : List ℕ). (first_line ++ lines_from line_after [] (take i t)) ++ m) (append-nil tail) ∙ all_told line_after first_line t i tail (omega arith) in
    on_err _ (rw (c.as_slice-2.ensures.value, c.of_ending.ensures, c.requires) at c.put_all-2.ensures.failed_takes_front)
    (λ line. subst (λ (m : List ℕ). AppendsFront (g.S.Sink.taken c.args.sink.now) (g.S.Sink.taken c.put_all-2.new.sink) m) whole
    (front_after _ _ _ (first_line ++ lines_from line_after [] (take i t)) tail [] c.loop-entry.invariant.taken line))
