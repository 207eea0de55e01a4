use Rattle.std.proofs.Common.{◌≡◌, ◌<◌, sym, subst, ℕ, true, false, List}
use Rattle.place_set.specs.Words.{holds}
use Rattle.place_classes.specs.Classes.{SortedPlaces, index_of, class_at, set_at}
use Rattle.place_classes.proofs.SortedLemmas.{shut_all, all_shut}
use Rattle.place_classes.proofs.sorted.Sorted.are_shut.Goals as goal

pub returns : goal.returns
returns c =
    let s = c.self.inside in (
      λ e. subst (λ (v : SortedPlaces). (q : ℕ) → holds v.all q ≡ true → index_of (class_at v.classes q) ≡ 16) c.self.view_is
          (shut_all s.all s.sets.items s.classes.items c.self.invariant (subst (λ (l : List (List ℕ)). (k q : ℕ) → k < 16 → holds (set_at l k) q ≡ false) c.as_slice.ensures.value (c.are_empty.ensures.0 e))),
      λ h. c.are_empty.ensures.1 (subst (λ (l : List (List ℕ)). (k q : ℕ) → k < 16 → holds (set_at l k) q ≡ false) (sym c.as_slice.ensures.value)
          (all_shut s.all s.sets.items s.classes.items c.self.invariant (subst (λ (v : SortedPlaces). (q : ℕ) → holds v.all q ≡ true → index_of (class_at v.classes q) ≡ 16) (sym c.self.view_is) h))),
    )
