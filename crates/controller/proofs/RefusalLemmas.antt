-- Pieces of a line, one behind another.
use Rattle.std.proofs.Common.{◌≡◌, ℕ, List, ◌++◌, ap, ◌∙◌, append_assoc}

pub joined : (old mid last new a s f : List ℕ) → mid ≡ old ++ a → last ≡ mid ++ s → new ≡ last ++ f → new ≡ old ++ (a ++ (s ++ f))
joined old mid last new a s f p q r = r ∙ ap (λ (xs : List ℕ). xs ++ f) (q ∙ ap (λ (xs : List ℕ). xs ++ s) p) ∙ append_assoc (old ++ a) s f ∙ append_assoc old a (s ++ f)
