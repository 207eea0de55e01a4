-- Ranges of numbers that come back from the machine.
use Rattle.std.proofs.Common.{ℤ, IsTrue, FitsSigned, to_z, of_z, w64}
use Rattle.std.proofs.lemmas.Int.{to_z-of_z}
use Rattle.std.specs.Int.{is_positive}
use Rattle.path_blocks.specs.Range.{is_within}

-- a number that fits is the same when it comes back from the machine
pub within_back : (z : ℤ) → FitsSigned w64 z → IsTrue (is_within z) → IsTrue (is_within (to_z w64 (of_z w64 z)))
within_back z f h = rw to_z-of_z h

pub positive_back : (z : ℤ) → FitsSigned w64 z → IsTrue (is_positive z) → IsTrue (is_positive (to_z w64 (of_z w64 z)))
positive_back z f h = rw to_z-of_z h
