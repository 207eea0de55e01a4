use Rattle.std.proofs.Common.{List, ℕ, Contains, refl, sym, subst, ◌∙◌, arith}
use Rattle.definition_tests.proofs.versions.a_set_has_the_steps_that_were_added.Goals as goal

pub add-requires : goal.add-requires
add-requires g c = subst (λ (steps : List ℕ). Contains steps 10) (sym c.in_ok-set.ensures.steps) (1, omega arith, refl)

pub add-requires-3 : goal.add-requires-3
add-requires-3 g c =
    subst (λ (steps : List ℕ). Contains steps 10) (sym (c.add-2.ensures.steps ∙ c.add.ensures.steps ∙ c.in_ok-set.ensures.steps)) (1, omega arith, refl)
