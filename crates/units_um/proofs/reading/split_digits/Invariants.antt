use Rattle.std.proofs.Common.{length, ◌-◌, ◌≡◌, ℕ, ◌<◌, ◌≤◌, true, get_or}
use Rattle.std.specs.Char.{is_ascii_digit}
use Rattle.units_um.proofs.reading.split_digits.Given as goal

abbrev pub invariant-loop-count : goal.invariant-loop-count
invariant-loop-count l = (l.count ≤ length l.text) × ((k : ℕ) → k < l.count → is_ascii_digit (get_or l.text k 0) ≡ true)

abbrev pub decreases-loop-count : goal.decreases-loop-count
decreases-loop-count l = length l.text - l.count
