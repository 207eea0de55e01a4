-- A text in lines is of one list of entries and one ending.
use Rattle.std.specs.Prelude.{◌≡◌, ℕ, List, [], ◌∷◌, ◌++◌}
use Rattle.std.proofs.Common.{refl, sym, ap, subst, ◌∙◌, append_assoc, append-nil}
use Rattle.run_log.specs.LinesFrom.{lines_from, text_from, AreLines}

pub one_text : {E D : Type 0} (line : List E → E → List ℕ) (last : List E → D → List ℕ) → AreLines line last
    → (u t s : List E) (d e : D) → text_from line last u t d ≡ text_from line last u s e → (t ≡ s) × (d ≡ e)
one_text line last l u [] [] d e q = (refl, l.one_last u d e q)
one_text line last l u [] (y ∷ s) d e q = absurd (l.apart u y (text_from line last (u ++ y ∷ []) s e) d (sym q))
one_text line last l u (x ∷ t) [] d e q = absurd (l.apart u x (text_from line last (u ++ x ∷ []) t d) e q)
one_text line last l u (x ∷ t) (y ∷ s) d e q = go (l.one u x y (text_from line last (u ++ x ∷ []) t d) (text_from line last (u ++ y ∷ []) s e) q) (λ z. one_text line last l (u ++ x ∷ []) t s d e z)
  where
    go : (x ≡ y) × (text_from line last (u ++ x ∷ []) t d ≡ text_from line last (u ++ y ∷ []) s e)
        → (text_from line last (u ++ x ∷ []) t d ≡ text_from line last (u ++ x ∷ []) s e → (t ≡ s) × (d ≡ e)) → (x ∷ t ≡ y ∷ s) × (d ≡ e)
    go z rec =
        let w = rec (subst (λ v. text_from line last (u ++ x ∷ []) t d ≡ text_from line last (u ++ v ∷ []) s e) (sym z.0) z.1) in
        (subst (λ v. x ∷ t ≡ v ∷ s) z.0 (ap (λ v. x ∷ v) w.0), w.1)

-- the lines and then the last one
pub in_lines : {E D : Type 0} (line : List E → E → List ℕ) (last : List E → D → List ℕ) (u t : List E) (d : D) → text_from line last u t d ≡ lines_from line u t ++ last (u ++ t) d
in_lines line last u [] d = ap (λ v. last v d) (sym (append-nil u))
in_lines line last u (x ∷ t) d =
    ap (λ (m : List ℕ). line u x ++ m) (in_lines line last (u ++ x ∷ []) t d ∙ ap (λ v. lines_from line (u ++ x ∷ []) t ++ last v d) (append_assoc u (x ∷ []) t))
    ∙ sym (append_assoc (line u x) (lines_from line (u ++ x ∷ []) t) (last (u ++ x ∷ t) d))
