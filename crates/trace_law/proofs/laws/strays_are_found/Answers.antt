use Rattle.std.specs.Prelude.{[]}
use Rattle.trace_law.proofs.StrayLemmas.{none_strays, part_where_none_strays, stray_is_first}
use Rattle.trace_law.proofs.laws.strays_are_found.Goals as goal

pub returns-clause-none : goal.returns-clause-none
returns-clause-none c = λ e t d. (
  λ h. part_where_none_strays c.what_is_offered_follows.ensures.follows e d [] t (c.part_by_steps.ensures.none e) h,
  λ p. none_strays c.what_is_offered_follows.ensures.offered c.part_by_next.ensures e d [] t p,
)

pub returns-clause-first : goal.returns-clause-first
returns-clause-first c = λ e t x d h.
    stray_is_first c.what_is_offered_follows.ensures.follows c.what_is_offered_follows.ensures.offered c.part_by_next.ensures e d [] t x (c.part_by_steps.ensures.none e) h
