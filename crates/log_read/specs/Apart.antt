-- Lines that can be told apart.
use Rattle.std.specs.Prelude.{◌≡◌, ℕ, ◌<◌, true, List, ◌++◌, length}
use Rattle.log_read.specs.Format.{Format}

-- Behind the same entries one line is of one entry that may stand there and leaves one rest, a last line is of one ending and leaves one rest, no
-- line of such an entry is a last one, and no line is empty.
pub record AreApart {E D : Type 0} (f : Format E D) : Type 0 where
  pub one : (u : List E) (x y : E) (r s : List ℕ) → f.allows u x ≡ true → f.allows u y ≡ true → f.line u x ++ r ≡ f.line u y ++ s → (x ≡ y) × (r ≡ s)
  pub one_last : (u : List E) (d e : D) (r s : List ℕ) → f.last u d ++ r ≡ f.last u e ++ s → (d ≡ e) × (r ≡ s)
  pub apart : (u : List E) (x : E) (r : List ℕ) (d : D) (s : List ℕ) → f.allows u x ≡ true → f.line u x ++ r ≡ f.last u d ++ s → ⊥
  pub some_first : 0 < length f.first
  pub some : (u : List E) (x : E) → 0 < length (f.line u x)
  pub some_last : (u : List E) (d : D) → 0 < length (f.last u d)
