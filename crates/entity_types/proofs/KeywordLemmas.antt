-- Words of different lengths are different.
use Rattle.std.proofs.Common.{◌≡◌, ◌∙◌, ℕ, suc, ◌&&◌, ◌==◌, Bool, true, false, List, [], ◌∷◌, length, eqb-true, refl, ap}
use Rattle.std.specs.Str.{bytes_eq}

and_false : (a b : Bool) → false ≡ b → false ≡ (a && b)
and_false true b e = e
and_false false b e = refl

apart : (xs ys : List ℕ) → (length xs ≡ length ys → ⊥) → false ≡ bytes_eq xs ys
apart [] [] h = absurd (h refl)
apart [] (y ∷ ys) h = refl
apart (x ∷ xs) [] h = refl
apart (x ∷ xs) (y ∷ ys) h = and_false (x == y) (bytes_eq xs ys) (apart xs ys (λ e. h (ap suc e)))

is_false : (b : Bool) → (b ≡ true → ⊥) → b ≡ false
is_false true h = absurd (h refl)
is_false false h = refl

pub other_length : (xs ys : List ℕ) → (length xs ≡ length ys → ⊥) → (length xs == length ys) ≡ bytes_eq xs ys
other_length xs ys other = is_false (length xs == length ys) (λ e. other (eqb-true (length xs) (length ys) e)) ∙ apart xs ys other
