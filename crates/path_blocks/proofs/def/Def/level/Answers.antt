use Rattle.std.proofs.Common.{rules, ◌≡◌, ◌∙◌, ap, sym, ℕ, ℤ, pos, ◌-ℤ◌, ◌≤◌, Some, Option, FitsSigned, to_z, of_z, w64, arith, IsTrue, slice_get, unsigned_abs}
use Rattle.std.specs.Prelude.{option_map}
use Rattle.std.proofs.lemmas.Int.{ints, to_z-of_z}
use Rattle.std.proofs.lemmas.Option.{slice_get-map}
use Rattle.path_blocks.specs.declared.def.Def.{Def}
use Rattle.path_blocks.specs.Range.{is_within}
use Rattle.path_blocks.specs.Cuts.{cuts}
use Rattle.path_blocks.specs.ShapeRanges.{height_ranges}
use Rattle.path_blocks.proofs.def.Def.level.Goals as goal
use Rattle.path_blocks.proofs.def.Def.level.Goals.{After-cut}

height_fits : (z0 : ℤ) (n : ℕ) → FitsSigned w64 z0 → n ≤ 400000000 → IsTrue (is_within z0) → FitsSigned w64 (to_z w64 (of_z w64 z0) -ℤ to_z w64 n)
height_fits z0 n f h k = grind (arith, ints, to_z-of_z)

height_back : (z0 : ℤ) (n : ℕ) → FitsSigned w64 z0 → n ≤ 400000000 → IsTrue (is_within z0) → to_z w64 (of_z w64 (to_z w64 (of_z w64 z0) -ℤ to_z w64 n)) ≡ z0 -ℤ pos n
height_back z0 n f h k = grind (arith, ints, to_z-of_z)

pub overflow_cast-result : goal.overflow_cast-result
overflow_cast-result c = omega (arith, ints)

pub overflow_sub-result : goal.overflow_sub-result
overflow_sub-result c =
    let f : FitsSigned w64 c.args.self.now.z0 = search rules in
    let h : c.cut.result ≤ 400000000 = omega arith in
    height_fits c.args.self.now.z0 c.cut.result f h (height_ranges c.args.self.now).z0_within

pub returns : goal.returns
returns c =
    let f : FitsSigned w64 c.args.self.now.z0 = search rules in
    let h : c.cut.result ≤ 400000000 = omega arith in
    let axial : FitsSigned w64 c.args.self.now.axial = search rules in
    let step : unsigned_abs c.args.self.now.axial ≡ c.unsigned_abs.result = sym (c.unsigned_abs.ensures.value ∙ ap unsigned_abs (to_z-of_z w64 c.args.self.now.axial axial)) in
    let d : Def = c.args.self.now in
    slice_get-map (λ (depth : ℕ). d.z0 -ℤ pos depth) (cuts (unsigned_abs d.axial) (unsigned_abs (d.z0 -ℤ d.bottom))) c.args.index
    ∙ ap (λ (got : Option ℕ). option_map (λ (depth : ℕ). d.z0 -ℤ pos depth) got)
    (ap (λ (s : ℕ). slice_get (cuts s (unsigned_abs (d.z0 -ℤ d.bottom))) c.args.index) step
    ∙ ap (λ (whole : ℕ). slice_get (cuts c.unsigned_abs.result whole) c.args.index) (sym c.depth.ensures.exact)
    ∙ c.cut.ensures.exact)
    ∙ ap (λ (z : ℤ). Some z) (sym (height_back d.z0 c.cut.result f h (height_ranges d).z0_within))
