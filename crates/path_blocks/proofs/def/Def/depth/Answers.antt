use Rattle.std.proofs.Common.{arith, rules, ℤ, IsTrue, FitsSigned, to_z, of_z, w64, ◌≡◌, ◌∙◌, ap, ◌≤◌, ◌-ℤ◌, unsigned_abs}
use Rattle.std.proofs.lemmas.Int.{ints, to_z-of_z}
use Rattle.path_blocks.specs.Range.{is_within}
use Rattle.path_blocks.specs.ShapeRanges.{height_ranges}
use Rattle.path_blocks.proofs.def.Def.depth.Goals as goal

fits : (a b : ℤ) → FitsSigned w64 a → FitsSigned w64 b → IsTrue (is_within a) → IsTrue (is_within b) → FitsSigned w64 (to_z w64 (of_z w64 a) -ℤ to_z w64 (of_z w64 b))
fits a b f g h k = grind (arith, ints, to_z-of_z)

back : (a b : ℤ) → FitsSigned w64 a → FitsSigned w64 b → IsTrue (is_within a) → IsTrue (is_within b) → to_z w64 (of_z w64 (to_z w64 (of_z w64 a) -ℤ to_z w64 (of_z w64 b))) ≡ a -ℤ b
back a b f g h k = grind (arith, ints, to_z-of_z)

small : (a b : ℤ) → IsTrue (is_within a) → IsTrue (is_within b) → unsigned_abs (a -ℤ b) ≤ 400000000
small a b h k = grind (arith, ints)

pub overflow_sub-self : goal.overflow_sub-self
overflow_sub-self c =
    let f : FitsSigned w64 c.args.self.now.z0 = search rules in
    let g : FitsSigned w64 c.args.self.now.bottom = search rules in
    let h = height_ranges c.args.self.now in
    fits _ _ f g h.z0_within h.bottom_within

pub returns-clause-exact : goal.returns-clause-exact
returns-clause-exact c =
    let f : FitsSigned w64 c.args.self.now.z0 = search rules in
    let g : FitsSigned w64 c.args.self.now.bottom = search rules in
    let h = height_ranges c.args.self.now in
    c.unsigned_abs.ensures.value ∙ ap unsigned_abs (back _ _ f g h.z0_within h.bottom_within)

pub returns-clause-shallow : goal.returns-clause-shallow
returns-clause-shallow c =
    let f : FitsSigned w64 c.args.self.now.z0 = search rules in
    let g : FitsSigned w64 c.args.self.now.bottom = search rules in
    let h = height_ranges c.args.self.now in
    let e = c.unsigned_abs.ensures.value ∙ ap unsigned_abs (back _ _ f g h.z0_within h.bottom_within) in
    omega (arith, e, small c.args.self.now.z0 c.args.self.now.bottom h.z0_within h.bottom_within)
