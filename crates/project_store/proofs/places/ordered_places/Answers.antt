use Rattle.std.proofs.Common.{IsTrue, rules}
use Rattle.std.proofs.lemmas.List.Sorted.{IsNonDecreasingBy-from_sort_by_key, IsNonDecreasingBy-from_all_adjacent}
use Rattle.project_store.specs.declared.places.Place.{Place}
use Rattle.project_store.proofs.places.ordered_places.Goals as goal
use Rattle.project_store.proofs.places.ordered_places.Goals.{then-not-are_ordered+in_ok-sort_by_key, else-not-are_ordered}

pub returns-clause-ordered : goal.returns-clause-ordered
returns-clause-ordered c =
    elim c.if-not-are_ordered.branch [
      | then-not-are_ordered+in_ok-sort_by_key w ↦
          rw w.places-is (IsNonDecreasingBy-from_sort_by_key (λ (place : Place). place.number) _ w.in_ok-sort_by_key.ensures.sorted (λ a r q k. search rules))
      | else-not-are_ordered w ↦
          let yes : IsTrue c.are_ordered.result = search rules in
          rw (w.places-is, ← c.as_slice.ensures.value) (IsNonDecreasingBy-from_all_adjacent (λ (place : Place). place.number) c.as_slice.result.now (c.are_ordered.ensures yes))
    ]
