use Rattle.std.proofs.Common.{◌∙◌, ◌-◌, ap, ℕ}
use Rattle.std.specs.Prelude.{slice_set}
use Rattle.trace_law.specs.Cells.{Left}
use Rattle.run_frames.proofs.going.count_down.Goals as goal

pub returns-clause-written : goal.returns-clause-written
returns-clause-written c =
    let f = c.args.frames.now.cells in
    let p = c.args.place in
    c.put.ensures.cells ∙ (ap (λ (k : ℕ). slice_set f p (Left k)) c.saturating_sub.ensures ∙ ap (λ (k : ℕ). slice_set f p (Left (k - 1))) c.left-left.ensures)
