-- The numbers of a face fit the machine's.
use Rattle.std.proofs.Common.{◌≡◌, inl, inr, refl, Bool, true, false, ◌&&◌, ◌||◌, ℕ, ℤ, pos, ◌+ℤ◌, ◌*ℤ◌, ◌≤◌, ◌<◌, ◌⊎◌, IsTrue, FitsSigned, to_z, of_z, w64, arith, unsigned_abs, ap}
use Rattle.std.proofs.lemmas.Bool.Decides.{Decides-int_eq}
use Rattle.std.proofs.lemmas.Int.{ints, to_z-of_z, unsigned_abs-mul, fits_signed_from_abs}
use Rattle.std.proofs.lemmas.Nat.{mul-le}
use Rattle.std.specs.Int.{is_positive}
use Rattle.std.specs.Ordering.{int_eq}
use Rattle.path_blocks.specs.Range.{is_within, is_unit, is_course}
use Rattle.path_blocks.specs.ShapeRanges.{PlaneRanges, plane_ranges}
use Rattle.path_plane.specs.declared.facing.Facing.{Facing}

-- what the ranges of a face say
pub facing_ranges : (f : Facing) → PlaneRanges f.x f.y f.ux f.uy f.length f.width f.step
facing_ranges f = plane_ranges f.x f.y f.ux f.uy f.length f.width f.step f.both f.fits

pub sum_fits : (a : ℤ) (n : ℕ) → FitsSigned w64 a → IsTrue (is_within a) → n ≤ 200000000 → FitsSigned w64 (to_z w64 (of_z w64 a) +ℤ to_z w64 n)
sum_fits a n f h k = grind (arith, ints, to_z-of_z)

pub sum_back : (a : ℤ) (n : ℕ) → FitsSigned w64 a → IsTrue (is_within a) → n ≤ 200000000 → to_z w64 (of_z w64 (to_z w64 (of_z w64 a) +ℤ to_z w64 n)) ≡ a +ℤ pos n
sum_back a n f h k = grind (arith, ints, to_z-of_z)

pub within_abs : (a : ℤ) → IsTrue (is_within a) → unsigned_abs a ≤ 200000000
within_abs a h = grind (arith, ints)

pub sum_near : (a : ℤ) (n : ℕ) → IsTrue (is_within a) → n ≤ 200000000 → unsigned_abs (a +ℤ pos n) ≤ 400000000
sum_near a n h k = grind (arith, ints)

pub positive_abs : (a : ℤ) → IsTrue (is_positive a) → 0 < unsigned_abs a
positive_abs a h = grind (arith, ints)

pub is_zero : (u : ℤ) → FitsSigned w64 u → of_z w64 u ≡ 0 → int_eq u (pos 0) ≡ true
is_zero u f h = grind (arith, ints)

only_false : (r : Bool) → (r ≡ true → ⊥) → r ≡ false
only_false true h = absurd (h refl)
only_false false h = refl

pub is_not_zero : (u : ℤ) → (of_z w64 u ≡ 0 → ⊥) → int_eq u (pos 0) ≡ false
is_not_zero u h = only_false (int_eq u (pos 0)) (λ e. h (ap (λ (x : ℤ). of_z w64 x) ((Decides-int_eq u (pos 0)).0 e)))

-- ---- the course

unit_abs : (u : ℤ) → IsTrue (is_unit u) → unsigned_abs u ≤ 1
unit_abs u h = grind (arith, ints)

zero_abs : (u : ℤ) → IsTrue (int_eq u (pos 0)) → unsigned_abs u ≤ 1
zero_abs u h = grind (arith, ints)

split : (a b : Bool) → IsTrue (a && b) → IsTrue a × IsTrue b
split true b e = (refl, e)
split false b e = absurd cc

either : (a b : Bool) → IsTrue (a || b) → IsTrue a ⊎ IsTrue b
either true b e = inl refl
either false b e = inr e

-- a course is no longer than 1 along each axis
pub course_abs : (ux uy : ℤ) → IsTrue (is_course ux uy) → (unsigned_abs ux ≤ 1) × (unsigned_abs uy ≤ 1)
course_abs ux uy h =
    elim (either (is_unit ux && int_eq uy (pos 0)) (int_eq ux (pos 0) && is_unit uy) h) [
      | inl x ↦ let p = split (is_unit ux) (int_eq uy (pos 0)) x in (unit_abs ux p.0, zero_abs uy p.1)
      | inr y ↦ let p = split (int_eq ux (pos 0)) (is_unit uy) y in (zero_abs ux p.0, unit_abs uy p.1)
    ]

-- so many times a unit is no longer
pub times_abs : (u z : ℤ) → unsigned_abs u ≤ 1 → IsTrue (is_within z) → unsigned_abs (u *ℤ z) ≤ 200000000
times_abs u z h k = omega (arith, unsigned_abs-mul u z, mul-le (unsigned_abs u) (unsigned_abs z) 1 200000000 h (within_abs z k))

pub times_fits : (u z : ℤ) → FitsSigned w64 u → FitsSigned w64 z → unsigned_abs u ≤ 1 → IsTrue (is_within z) → FitsSigned w64 (to_z w64 (of_z w64 u) *ℤ to_z w64 (of_z w64 z))
times_fits u z f g h k = rw (to_z-of_z w64 u f, to_z-of_z w64 z g) (fits_signed_from_abs w64 (u *ℤ z) (omega (arith, times_abs u z h k)))

pub times_back : (u z : ℤ) → FitsSigned w64 u → FitsSigned w64 z → unsigned_abs u ≤ 1 → IsTrue (is_within z) → to_z w64 (of_z w64 (to_z w64 (of_z w64 u) *ℤ to_z w64 (of_z w64 z))) ≡ u *ℤ z
times_back u z f g h k = rw (to_z-of_z w64 u f, to_z-of_z w64 z g) (to_z-of_z w64 (u *ℤ z) (fits_signed_from_abs w64 (u *ℤ z) (omega (arith, times_abs u z h k))))

pub ends_fit : (a b : ℤ) → FitsSigned w64 a → FitsSigned w64 b → unsigned_abs a ≤ 400000000 → unsigned_abs b ≤ 200000000 → FitsSigned w64 (to_z w64 (of_z w64 a) +ℤ to_z w64 (of_z w64 b))
ends_fit a b f g h k = grind (arith, ints, to_z-of_z)

pub ends_back : (a b : ℤ) → FitsSigned w64 a → FitsSigned w64 b → unsigned_abs a ≤ 400000000 → unsigned_abs b ≤ 200000000 → to_z w64 (of_z w64 (to_z w64 (of_z w64 a) +ℤ to_z w64 (of_z w64 b))) ≡ a +ℤ b
ends_back a b f g h k = grind (arith, ints, to_z-of_z)
