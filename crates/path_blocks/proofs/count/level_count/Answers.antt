use Rattle.std.proofs.Common.{◌≡◌, ◌∙◌, ap, ℕ, ◌+◌, ◌-ℤ◌, ℤ, to_z, of_z, w64, arith, IsTrue, FitsSigned, unsigned_abs}
use Rattle.std.proofs.lemmas.Int.{ints, to_z-of_z}
use Rattle.path_blocks.specs.Range.{is_within}
use Rattle.path_blocks.specs.Cuts.{count_below}
use Rattle.path_blocks.proofs.CutsLemmas.{length-cuts}
use Rattle.path_blocks.proofs.count.level_count.Goals as goal

depth_back : (z0 bottom : ℤ) → FitsSigned w64 z0 → FitsSigned w64 bottom → IsTrue (is_within z0) → IsTrue (is_within bottom)
    → to_z w64 (of_z w64 (to_z w64 (of_z w64 z0) -ℤ to_z w64 (of_z w64 bottom))) ≡ z0 -ℤ bottom
depth_back z0 bottom f g h k = grind (arith, ints, to_z-of_z)

pub returns-clause-exact : goal.returns-clause-exact
returns-clause-exact c =
    let depth = c.unsigned_abs-2.ensures.value ∙ ap unsigned_abs (depth_back c.args.z0 c.args.bottom c.ranges.z0 c.ranges.bottom c.requires.upper c.requires.lower) in
    let axial = c.unsigned_abs.ensures.value ∙ ap unsigned_abs (to_z-of_z w64 c.args.axial c.ranges.axial) in
    c.cut_count.ensures.exact ∙ length-cuts c.unsigned_abs.result c.unsigned_abs-2.result
    ∙ ap (λ (step : ℕ). count_below step c.unsigned_abs-2.result + 1) axial
    ∙ ap (λ (whole : ℕ). count_below (unsigned_abs c.args.axial) whole + 1) depth
