-- The numbers of a pocket fit the machine's.
use Rattle.std.proofs.Common.{◌≡◌, ℕ, ℤ, pos, ◌+ℤ◌, ◌-ℤ◌, ◌*◌, ◌/◌, ◌≤◌, ◌<◌, min, IsTrue, FitsSigned, to_z, of_z, w64, arith, unsigned_abs}
use Rattle.std.proofs.lemmas.Int.{ints, to_z-of_z}
use Rattle.std.proofs.Math.Nat.{le-div_iff_mul-le}
use Rattle.std.specs.Int.{is_positive}
use Rattle.path_blocks.specs.Range.{is_within}
use Rattle.path_blocks.specs.PathPocket.{innermost}
use Rattle.path_blocks.specs.ShapeRanges.{PocketRanges, pocket_ranges}
use Rattle.path_pocket.specs.Inset.{rectangle_of}
use Rattle.path_pocket.specs.declared.inset.Inset.{Inset}

-- what the ranges of a pocket say
pub inset_ranges : (i : Inset) → PocketRanges i.left i.low i.right i.high i.radial
inset_ranges i = pocket_ranges i.left i.low i.right i.high i.radial i.fits

pub positive_abs : (a : ℤ) → IsTrue (is_positive a) → 0 < unsigned_abs a
positive_abs a h = grind (arith, ints)

pub side_short : (a b : ℤ) → IsTrue (is_within a) → IsTrue (is_within b) → unsigned_abs (b -ℤ a) ≤ 400000000
side_short a b h k = grind (arith, ints)

pub side_fits : (a b : ℤ) → FitsSigned w64 a → FitsSigned w64 b → IsTrue (is_within a) → IsTrue (is_within b) → FitsSigned w64 (to_z w64 (of_z w64 b) -ℤ to_z w64 (of_z w64 a))
side_fits a b f g h k = grind (arith, ints, to_z-of_z)

pub side_back : (a b : ℤ) → FitsSigned w64 a → FitsSigned w64 b → IsTrue (is_within a) → IsTrue (is_within b) → to_z w64 (of_z w64 (to_z w64 (of_z w64 b) -ℤ to_z w64 (of_z w64 a))) ≡ b -ℤ a
side_back a b f g h k = grind (arith, ints, to_z-of_z)

pub sum_fits : (a : ℤ) (n : ℕ) → FitsSigned w64 a → IsTrue (is_within a) → n ≤ 200000000 → FitsSigned w64 (to_z w64 (of_z w64 a) +ℤ to_z w64 n)
sum_fits a n f h k = grind (arith, ints, to_z-of_z)

pub sum_back : (a : ℤ) (n : ℕ) → FitsSigned w64 a → IsTrue (is_within a) → n ≤ 200000000 → to_z w64 (of_z w64 (to_z w64 (of_z w64 a) +ℤ to_z w64 n)) ≡ a +ℤ pos n
sum_back a n f h k = grind (arith, ints, to_z-of_z)

pub difference_fits : (a : ℤ) (n : ℕ) → FitsSigned w64 a → IsTrue (is_within a) → n ≤ 200000000 → FitsSigned w64 (to_z w64 (of_z w64 a) -ℤ to_z w64 n)
difference_fits a n f h k = grind (arith, ints, to_z-of_z)

pub difference_back : (a : ℤ) (n : ℕ) → FitsSigned w64 a → IsTrue (is_within a) → n ≤ 200000000 → to_z w64 (of_z w64 (to_z w64 (of_z w64 a) -ℤ to_z w64 n)) ≡ a -ℤ pos n
difference_back a n f h k = grind (arith, ints, to_z-of_z)

-- a ring lies within both sides
pub inward : (side n r : ℕ) → 0 < r → n ≤ side / (2 * r) → 2 * (n * r) ≤ side
inward side n r h k =
    let twice : 0 < 2 * r = omega arith in
    omega (arith, (le-div_iff_mul-le {k = 2 * r} {x = n} {y = side} twice).0 k)

-- a ring is shrunk by no more than a length
pub ring_small : (i : Inset) (n : ℕ) → n ≤ innermost (rectangle_of i) i.radial → n * unsigned_abs i.radial ≤ 200000000
ring_small i n h =
    let in_side = inward (min (unsigned_abs (i.right -ℤ i.left)) (unsigned_abs (i.high -ℤ i.low))) n (unsigned_abs i.radial) (positive_abs i.radial (inset_ranges i).radial_positive) h in
    omega (arith, in_side, side_short i.left i.right (inset_ranges i).left_within (inset_ranges i).right_within)
