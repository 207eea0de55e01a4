use Rattle.std.proofs.Common.{◌≡◌, ◌∙◌, ◌==◌, ◌&&◌, not, ap, sym, subst, ℕ, List, length}
use Rattle.place_set.specs.Words.{holds}
use Rattle.place_classes.specs.declared.class.Class.{Class}
use Rattle.place_classes.specs.Classes.{index_of, class_at, set_at, AreSorted}
use Rattle.place_classes.proofs.SortedLemmas.{stand_in, sorted_less}
use Rattle.place_classes.proofs.sorted.Sorted.remove.Goals as goal

pub invariant_of-self : goal.invariant_of-self
invariant_of-self c =
    let s = c.self.inside in
    let k : c.index_of-k.result ≡ index_of (class_at s.classes.items c.args.place) = c.index_of-k.ensures ∙ ap index_of (c.class_at.ensures ∙ ap (λ (l : List Class). class_at l c.args.place) c.as_slice.ensures.value) in
    let long = c.remove_from.ensures.long ∙ ap (λ (l : List (List ℕ)). length l) c.as_mut_slice.ensures.value in
    let sorted = subst (λ (l : List (List ℕ)). AreSorted s.all l s.classes.items) (sym c.as_mut_slice.ensures.value) c.self.invariant in
    subst (λ (l : List (List ℕ)). AreSorted c.remove.new.self l s.classes.items) (sym (stand_in s.sets c.remove_from.new.sets long))
    (sorted_less s.all c.remove.new.self c.as_mut_slice.result.now c.remove_from.new.sets s.classes.items c.args.place sorted c.remove.ensures c.remove_from.ensures.long
    (λ j q. subst (λ (i : ℕ). holds (set_at c.remove_from.new.sets j) q ≡ (not ((j == i) && (q == c.args.place)) && holds (set_at c.as_mut_slice.result.now j) q)) k (c.remove_from.ensures.left j q)))
