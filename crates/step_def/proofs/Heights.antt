-- Numbers of a definition fit the machine's.
use Rattle.std.proofs.Common.{◌≡◌, refl, ◌&&◌, ℕ, ℤ, pos, neg_ℤ, ◌+ℤ◌, ◌-ℤ◌, ◌≤◌, int_le, IsTrue, FitsSigned, to_z, of_z, w64, arith}
use Rattle.std.proofs.lemmas.Int.{ints, to_z-of_z}
use Rattle.path_blocks.specs.Range.{is_within}
use Rattle.path_blocks.specs.PathPocket.{Rectangle}
use Rattle.step_def.specs.Faults.{is_sized}

pub bottom_fits : (z0 floor a : ℤ) → FitsSigned w64 z0 → FitsSigned w64 floor → FitsSigned w64 a → IsTrue (is_sized z0) → IsTrue (is_sized floor) → IsTrue (int_le (pos 0) a && int_le a (neg_ℤ floor -ℤ pos 1))
    → FitsSigned w64 (to_z w64 (of_z w64 (to_z w64 (of_z w64 z0) +ℤ to_z w64 (of_z w64 floor))) +ℤ to_z w64 (of_z w64 a))
bottom_fits z0 floor a f g h p q r = grind (arith, ints, to_z-of_z)

pub bottom_back : (z0 floor a : ℤ) → FitsSigned w64 z0 → FitsSigned w64 floor → FitsSigned w64 a → IsTrue (is_sized z0) → IsTrue (is_sized floor) → IsTrue (int_le (pos 0) a && int_le a (neg_ℤ floor -ℤ pos 1))
    → to_z w64 (of_z w64 (to_z w64 (of_z w64 (to_z w64 (of_z w64 z0) +ℤ to_z w64 (of_z w64 floor))) +ℤ to_z w64 (of_z w64 a))) ≡ z0 -ℤ neg_ℤ floor +ℤ a
bottom_back z0 floor a f g h p q r = grind (arith, ints, to_z-of_z)

pub sum_back : (a : ℤ) (n : ℕ) → FitsSigned w64 a → IsTrue (is_within a) → n ≤ 200000000 → to_z w64 (of_z w64 (to_z w64 (of_z w64 a) +ℤ to_z w64 n)) ≡ a +ℤ pos n
sum_back a n f h k = grind (arith, ints, to_z-of_z)

pub difference_back : (a : ℤ) (n : ℕ) → FitsSigned w64 a → IsTrue (is_within a) → n ≤ 200000000 → to_z w64 (of_z w64 (to_z w64 (of_z w64 a) -ℤ to_z w64 n)) ≡ a -ℤ pos n
difference_back a n f h k = grind (arith, ints, to_z-of_z)

abbrev sides : ℤ → ℤ → ℤ → ℤ → Rectangle
sides left low right high = record { left = left; low = low; right = right; high = high }

pub same_sides : (left low right high left' low' right' high' : ℤ) → left ≡ left' → low ≡ low' → right ≡ right' → high ≡ high' → sides left low right high ≡ sides left' low' right' high'
same_sides left low right high left' low' right' high' p q r s = rw (p, q, r, s) refl
