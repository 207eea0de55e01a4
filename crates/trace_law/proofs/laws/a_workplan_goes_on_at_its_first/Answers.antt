use Rattle.std.specs.Prelude.{◌≡◌, ℕ, List, [], ◌∷◌}
use Rattle.std.proofs.Common.{refl, ap}
use Rattle.exec_tree.specs.Exec.{nodes}
use Rattle.trace_law.specs.Of.{only}
use Rattle.trace_law.specs.Next.{next, next_in_order, first_of_two}
use Rattle.trace_law.proofs.WholeNextLemmas.{empty_from_whole, whole_from_empty}
use Rattle.trace_law.proofs.laws.a_workplan_goes_on_at_its_first.Goals as goal

first_some : (xs ys : List ℕ) → (xs ≡ [] → ⊥) → first_of_two xs ys ≡ xs
first_some [] ys h = absurd (h refl)
first_some (x ∷ xs) ys h = refl

pub returns-clause-whole : goal.returns-clause-whole
returns-clause-whole c = λ e es t w. ap (λ (ns : List ℕ). first_of_two ns (next_in_order es t)) (empty_from_whole e (only (nodes e) t) w)

pub returns-clause-part : goal.returns-clause-part
returns-clause-part c = λ e es t p n. first_some (next e (only (nodes e) t)) (next_in_order es t) (λ h. n (whole_from_empty e (only (nodes e) t) p h))
