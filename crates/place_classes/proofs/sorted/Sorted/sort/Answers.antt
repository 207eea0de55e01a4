use Rattle.std.proofs.Common.{◌≡◌, ◌∙◌, ◌<◌, ◌==◌, ◌&&◌, ◌||◌, not, ap, sym, subst, ℕ, List, length, slice_set}
use Rattle.place_set.specs.Words.{holds}
use Rattle.place_classes.specs.declared.class.Class.{Class}
use Rattle.place_classes.specs.Classes.{SortedPlaces, index_of, class_at, set_at, AreSorted}
use Rattle.place_classes.proofs.SortedLemmas.{stand_in, sorted_again}
use Rattle.place_classes.proofs.sorted.Sorted.sort.Goals as goal

pub invariant_of-self : goal.invariant_of-self
invariant_of-self c =
    let s = c.self.inside in
    let p = c.args.place in
    let k : c.index_of-k.result ≡ index_of (class_at s.classes.items p) = c.index_of-k.ensures ∙ ap index_of (c.class_at.ensures ∙ ap (λ (l : List Class). class_at l p) c.as_slice.ensures.value) in
    let long = c.move_between.ensures.long ∙ ap (λ (l : List (List ℕ)). length l) c.as_mut_slice.ensures.value in
    let sorted = subst (λ (l : List (List ℕ)). AreSorted s.all l s.classes.items) (sym c.as_mut_slice.ensures.value) c.self.invariant in
    let inside = subst (λ (v : SortedPlaces). p < length v.classes) (sym c.self.view_is) c.requires.there in
    subst (λ (l : List (List ℕ)). AreSorted s.all l (slice_set s.classes.items p c.args.class)) (sym (stand_in s.sets c.move_between.new.sets long))
    (sorted_again s.all c.as_mut_slice.result.now c.move_between.new.sets s.classes.items p c.args.class c.contains-there.result sorted c.contains-there.ensures inside c.requires.one c.move_between.ensures.long
    (λ e j q. subst (λ (i : ℕ). holds (set_at c.move_between.new.sets j) q ≡ (((j == index_of c.args.class) && (q == p)) || (not ((j == i) && (q == p)) && holds (set_at c.as_mut_slice.result.now j) q))) k
    (subst (λ (i : ℕ). holds (set_at c.move_between.new.sets j) q ≡ (((j == i) && (q == p)) || (not ((j == c.index_of-k.result) && (q == p)) && holds (set_at c.as_mut_slice.result.now j) q))) c.index_of.ensures (c.move_between.ensures.moved e j q)))
    c.move_between.ensures.kept)
