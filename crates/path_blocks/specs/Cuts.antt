-- A whole that is gone through step by step.
use Rattle.std.specs.Prelude.{ℕ, zero, suc, ◌+◌, ◌-◌, ◌*◌, ◌/◌, List, [], ◌∷◌, ◌++◌}

-- step, 2 step, .. n step
unfoldable pub multiples : ℕ → ℕ → List ℕ
multiples step zero = []
multiples step (suc n) = multiples step n ++ (suc n * step) ∷ []

-- how many of the multiples of step lie below the whole
abbrev pub count_below : ℕ → ℕ → ℕ
count_below step whole = (whole - 1) / step

-- step, 2 step, .. while below the whole, then the whole
unfoldable pub cuts : ℕ → ℕ → List ℕ
cuts step whole = multiples step (count_below step whole) ++ whole ∷ []

-- how many these are
abbrev pub cut_count : ℕ → ℕ → ℕ
cut_count step whole = count_below step whole + 1
