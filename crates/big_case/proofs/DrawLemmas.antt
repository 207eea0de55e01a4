-- States behind draws, and what is drawn.
use Rattle.std.proofs.Common.{◌≡◌, ℕ, zero, suc, ◌+◌, ◌*◌, refl, ap, ◌∙◌, arith}
use Rattle.big_case.specs.declared.step.Kind.TheVariants.{Face}
use Rattle.big_case.specs.Draws.{next_state, state_after, kind_of}

-- so many draws, and so many more
pub after_more : (state m n : ℕ) → state_after (state_after state m) n ≡ state_after state (m + n)
after_more state m zero = let e : m ≡ m + 0 = omega arith in ap (state_after state) e
after_more state m (suc n) = let e : suc (m + n) ≡ m + suc n = omega arith in ap next_state (after_more state m n) ∙ ap (state_after state) e

-- four more, two more
pub after_step : (start i : ℕ) → state_after (state_after start (4 * i)) 4 ≡ state_after start (4 * (i + 1))
after_step start i = let e : 4 * i + 4 ≡ 4 * (i + 1) = omega arith in after_more start (4 * i) 4 ∙ ap (state_after start) e

pub after_revision : (start n j : ℕ) → state_after (state_after start (n + 2 * j)) 2 ≡ state_after start (n + 2 * (j + 1))
after_revision start n j = let e : n + 2 * j + 2 ≡ n + 2 * (j + 1) = omega arith in after_more start (n + 2 * j) 2 ∙ ap (state_after start) e

-- what is neither 0 nor 1
pub face : (n : ℕ) → (n ≡ 0 → ⊥) → (n ≡ 1 → ⊥) → kind_of n ≡ Face
face zero none one = absurd (none refl)
face (suc zero) none one = absurd (one refl)
face (suc (suc n)) none one = refl
