use Rattle.std.proofs.Common.{◌+◌, ◌||◌, sym, subst, ℕ, Bool, true, List}
use Rattle.std.specs.Prelude.{Option}
use Rattle.place_set.specs.Words.{holds}
use Rattle.place_classes.specs.Classes.{SortedPlaces, set_at, is_in_channel}
use Rattle.place_classes.proofs.SortedLemmas.{IsFirstOf, found_first, first_same, first_of_two, in_both}
use Rattle.place_classes.proofs.sorted.Sorted.first_in_channel.Goals as goal

pub returns-then-idle : goal.returns-then-idle
returns-then-idle c =
    let s = c.self.inside in
    let channel = c.args.channel in
    let sets = s.sets.items in
    let free = subst (λ (l : List (List ℕ)). IsFirstOf (λ q. holds (set_at l channel) q) c.first_in-free.result) c.as_slice.ensures.value (found_first (λ q. holds (set_at c.as_slice.result.now channel) q) c.first_in-free.result c.first_in-free.ensures) in
    let idle = subst (λ (l : List (List ℕ)). IsFirstOf (λ q. holds (set_at l (8 + channel)) q) c.first_in.result) c.as_slice-then-idle.ensures.value
    (found_first (λ q. holds (set_at c.as_slice-then-idle.result.now (8 + channel)) q) c.first_in.result c.first_in.ensures) in
    let both = first_of_two (λ q. holds (set_at sets channel) q) (λ q. holds (set_at sets (8 + channel)) q) c.first_in-free.result c.first_in.result free idle in
    let first = subst (λ (o : Option ℕ). IsFirstOf (λ q. holds (set_at sets channel) q || holds (set_at sets (8 + channel)) q) o) (sym c.least.ensures) both in
    subst (λ (v : SortedPlaces). IsFirstOf (is_in_channel v channel c.args.idle) c.least.result) c.self.view_is
    (subst (λ (b : Bool). IsFirstOf (is_in_channel (record { all = s.all; classes = s.classes.items }) channel b) c.least.result) (sym c.if-idle.true)
    (first_same (λ q. holds (set_at sets channel) q || holds (set_at sets (8 + channel)) q) (λ q. is_in_channel (record { all = s.all; classes = s.classes.items }) channel true q) c.least.result (λ q. in_both s.all sets s.classes.items channel q c.self.invariant c.requires) first))
