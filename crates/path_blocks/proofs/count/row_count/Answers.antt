use Rattle.std.proofs.Common.{◌∙◌, ap, ℕ, ◌+◌, w64, unsigned_abs}
use Rattle.std.proofs.lemmas.Int.{to_z-of_z}
use Rattle.path_blocks.specs.Cuts.{count_below}
use Rattle.path_blocks.proofs.CutsLemmas.{length-cuts}
use Rattle.path_blocks.proofs.count.row_count.Goals as goal

pub returns-clause-exact : goal.returns-clause-exact
returns-clause-exact c =
    let width = c.unsigned_abs-2.ensures.value ∙ ap unsigned_abs (to_z-of_z w64 c.args.width c.ranges.width) in
    let step = c.unsigned_abs.ensures.value ∙ ap unsigned_abs (to_z-of_z w64 c.args.step c.ranges.step) in
    let count = c.cut_count.ensures.exact ∙ length-cuts c.unsigned_abs.result c.unsigned_abs-2.result in
    ap (λ (n : ℕ). n + 1)
    (count
    ∙ ap (λ (s : ℕ). count_below s c.unsigned_abs-2.result + 1) step
    ∙ ap (λ (whole : ℕ). count_below (unsigned_abs c.args.step) whole + 1) width)
