-- Texts in lines, where a line may depend on what came before.
use Rattle.std.specs.Prelude.{◌≡◌, ℕ, List, [], ◌∷◌, ◌++◌}

-- the lines of entries that come behind others, each told with all those before it
abbrev pub lines_from : {E : Type 0} → (List E → E → List ℕ) → List E → List E → List ℕ
lines_from line before [] = []
lines_from line before (x ∷ t) = line before x ++ lines_from line (before ++ x ∷ []) t

-- these lines, and behind them the last one, told with all entries
abbrev pub text_from : {E D : Type 0} → (List E → E → List ℕ) → (List E → D → List ℕ) → List E → List E → D → List ℕ
text_from line last before [] d = last before d
text_from line last before (x ∷ t) d = line before x ++ text_from line last (before ++ x ∷ []) t d

-- behind the same entries one line is of one entry and leaves one rest, a last line is of one ending, and no line is a last one
pub record AreLines {E D : Type 0} (line : List E → E → List ℕ) (last : List E → D → List ℕ) : Type 0 where
  pub one : (u : List E) (x y : E) (r s : List ℕ) → line u x ++ r ≡ line u y ++ s → (x ≡ y) × (r ≡ s)
  pub one_last : (u : List E) (d e : D) → last u d ≡ last u e → d ≡ e
  pub apart : (u : List E) (x : E) (r : List ℕ) (d : D) → line u x ++ r ≡ last u d → ⊥
