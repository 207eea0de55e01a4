use Rattle.std.proofs.Common.{◌<◌, ◌≤◌, ◌-◌, nat_eq, length, take}
use Rattle.std.specs.List.{IsDistinct}
use Rattle.edit_script.proofs.repeat.repeat_in.Given as goal

abbrev pub invariant-loop-distinct : goal.invariant-loop-distinct
invariant-loop-distinct l =
    (l.distinct < l.repeating) × (l.repeating ≤ length l.numbers) × IsDistinct nat_eq (take l.distinct l.numbers) × (IsDistinct nat_eq (take l.repeating l.numbers) → ⊥)

abbrev pub decreases-loop-distinct : goal.decreases-loop-distinct
decreases-loop-distinct l = l.repeating - l.distinct
