-- A log has one answer.
use Rattle.std.specs.Prelude.{◌≡◌, ◌<◌, ◌++◌, ◌∷◌, [], ℕ, Bool, true, false, nat_lt, List, length}
use Rattle.std.proofs.Common.{refl, sym, ◌∙◌, ap, inl, inr, arith}
use Rattle.std.proofs.lemmas.Bool.Decides.{nat_tests}
use Rattle.run_log.specs.declared.entry.Entry.{Entry}
use Rattle.run_log.specs.declared.entry.Ending.{Ending}
use Rattle.run_law.specs.Rules.{Rules}
use Rattle.log_check.specs.Checked.{IsFirstMisfit, IsAnswer}
use Rattle.log_check.specs.declared.answer.Answer.{Answer}
use Rattle.log_check.specs.declared.answer.Answer.TheVariants.{Legal, Illegal}

-- of two ways to cut a list at an entry, the later one's front goes through the earlier one's entry
front_of : (b1 : List Entry) (x1 : Entry) (a1 b2 : List Entry) (x2 : Entry) (a2 : List Entry) → b1 ++ x1 ∷ a1 ≡ b2 ++ x2 ∷ a2 → length b1 < length b2 → (middle : List Entry) × (b2 ≡ b1 ++ x1 ∷ middle)
front_of b1 x1 a1 [] x2 a2 e l = absurd (omega (arith, l))
front_of [] x1 a1 (y ∷ b2) x2 a2 e l = let h : x1 ≡ y = cc in (b2, ap (λ (z : Entry). z ∷ b2) (sym h))
front_of (z ∷ b1) x1 a1 (y ∷ b2) x2 a2 e l =
    let h : z ≡ y = cc in
    let rest : b1 ++ x1 ∷ a1 ≡ b2 ++ x2 ∷ a2 = cc in
    let rec = front_of b1 x1 a1 b2 x2 a2 rest (omega (arith, l)) in
    (rec.0, rw h (ap (λ (u : List Entry). y ∷ u) rec.1))

-- what doesn't fit has nothing before it that doesn't either
none_before : (r : Rules) (t : List Entry) (p q : ℕ) (a : IsFirstMisfit r t p) (b : IsFirstMisfit r t q) → length a.before < length b.before → ⊥
none_before r t p q a b l =
    let m = front_of a.before a.entry a.after b.before b.entry b.after (sym a.parts ∙ b.parts) l in
    a.misfit (b.legal a.before a.entry m.0 m.1)

one_place : (r : Rules) (t : List Entry) (p q : ℕ) → IsFirstMisfit r t p → IsFirstMisfit r t q → p ≡ q
one_place r t p q a b = go (nat_lt (length a.before) (length b.before)) (nat_lt (length b.before) (length a.before)) refl refl
  where
    go : (x y : Bool) → nat_lt (length a.before) (length b.before) ≡ x → nat_lt (length b.before) (length a.before) ≡ y → p ≡ q
    go true y e f = absurd (none_before r t p q a b (grind (arith, nat_tests)))
    go false true e f = absurd (none_before r t q p b a (grind (arith, nat_tests)))
    go false false e f = let s : length a.before ≡ length b.before = grind (arith, nat_tests) in a.at ∙ s ∙ sym b.at

pub one_answer : (r : Rules) (t : List Entry) (ending : Ending) (a b : Answer) → IsAnswer r t ending a → IsAnswer r t ending b → a ≡ b
one_answer r t ending (Legal e1) (Legal e2) x y = ap Legal (x.0 ∙ sym y.0)
one_answer r t ending (Legal e1) (Illegal q) x (inl m) = absurd (m.misfit (x.1.legal m.before m.entry m.after m.parts))
one_answer r t ending (Legal e1) (Illegal q) x (inr w) = absurd (w.not_own x.1.own)
one_answer r t ending (Illegal p) (Legal e2) (inl m) y = absurd (m.misfit (y.1.legal m.before m.entry m.after m.parts))
one_answer r t ending (Illegal p) (Legal e2) (inr w) y = absurd (w.not_own y.1.own)
one_answer r t ending (Illegal p) (Illegal q) (inl a) (inl b) = ap Illegal (one_place r t p q a b)
one_answer r t ending (Illegal p) (Illegal q) (inl a) (inr w) = absurd (a.misfit (w.legal a.before a.entry a.after a.parts))
one_answer r t ending (Illegal p) (Illegal q) (inr w) (inl b) = absurd (b.misfit (w.legal b.before b.entry b.after b.parts))
one_answer r t ending (Illegal p) (Illegal q) (inr v) (inr w) = ap Illegal (v.at ∙ sym w.at)
