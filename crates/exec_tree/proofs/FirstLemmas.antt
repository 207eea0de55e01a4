-- The first fault is that of one visit, after others without a fault; and what the walk has come by is read off those.
use Rattle.std.specs.Prelude.{◌≡◌, ◌+◌, ◌<◌, ◌==◌, ℕ, max, Bool, true, false, List, [], ◌∷◌, ◌++◌, length, map, sum, find, Option, Some, None}
use Rattle.std.specs.Option.{option_or, option_map_or}
use Rattle.std.proofs.Common.{refl, sym, ap, ◌∙◌, arith, append_assoc, add_assoc, cond}
use Rattle.std.proofs.lemmas.List.{append-nil}
use Rattle.entity_types.specs.declared.entity.Entity.{Entity}
use Rattle.exec_tree.specs.declared.error.TreeErr.{TreeErr}
use Rattle.exec_tree.specs.Walk.{Visit}
use Rattle.exec_tree.specs.TreeFault.{Seen, weight_of, fault_at, seen_with, first_fault, seen_after, walk_of}
use Rattle.exec_tree.specs.Walked.{number_among}
use Rattle.exec_tree.specs.First.{IsFirst}
use Rattle.exec_tree.specs.Built.{channel_from, channels_from}
use Rattle.exec_tree.proofs.WholeLemmas.{sum_next}
use Rattle.exec_tree.proofs.FaultLemmas.{fault_later}
use Rattle.exec_tree.proofs.ChannelLemmas.{AllAmong, walk_among}

pub is_first : (entities : ℕ → Option Entity) (seen : Seen) (vs : List Visit) (e : TreeErr) → first_fault entities seen vs ≡ Some e → IsFirst entities seen vs e
is_first entities seen [] e h = absurd (cc)
is_first entities seen (v ∷ vs) e h = go (fault_at entities seen v) refl h (is_first entities (seen_with entities seen v) vs e)
  where
    go : (o : Option TreeErr) → fault_at entities seen v ≡ o → option_or o (first_fault entities (seen_with entities seen v) vs) ≡ Some e
        → (first_fault entities (seen_with entities seen v) vs ≡ Some e → IsFirst entities (seen_with entities seen v) vs e) → IsFirst entities seen (v ∷ vs) e
    go (Some x) f i r = record { before = []; visit = v; after = vs; in_order = refl; none_before = refl; here = f ∙ i }
    go None f i r =
        let later = r i in
        record {
          before = v ∷ later.before;
          visit = later.visit;
          after = later.after;
          in_order = ap (λ (us : List Visit). v ∷ us) later.in_order;
          none_before = ap (λ (o : Option TreeErr). option_or o (first_fault entities (seen_with entities seen v) later.before)) f ∙ later.none_before;
          here = later.here;
        }

pub is_only : (entities : ℕ → Option Entity) (seen : Seen) (vs : List Visit) (e : TreeErr) → IsFirst entities seen vs e → first_fault entities seen vs ≡ Some e
is_only entities seen vs e f =
    ap (first_fault entities seen) f.in_order
    ∙ (fault_later entities seen f.before (f.visit ∷ f.after) f.none_before
    ∙ ap (λ (o : Option TreeErr). option_or o (first_fault entities (seen_with entities (seen_after entities seen f.before) f.visit) f.after)) f.here)

pub numbers_after : (entities : ℕ → Option Entity) (seen : Seen) (vs : List Visit) → (seen_after entities seen vs).numbers ≡ seen.numbers ++ map (λ v. v.number) vs
numbers_after entities seen [] = sym (append-nil seen.numbers)
numbers_after entities seen (v ∷ vs) = numbers_after entities (seen_with entities seen v) vs ∙ append_assoc seen.numbers (v.number ∷ []) (map (λ (u : Visit). u.number) vs)

pub weight_after : (entities : ℕ → Option Entity) (seen : Seen) (vs : List Visit) → (seen_after entities seen vs).weight ≡ seen.weight + sum (map (weight_of entities) vs)
weight_after entities seen [] = omega arith
weight_after entities seen (v ∷ vs) =
    let later = weight_after entities (seen_with entities seen v) vs in
    let next : sum (map (weight_of entities) (v ∷ vs)) ≡ weight_of entities v + sum (map (weight_of entities) vs) = sum_next (weight_of entities) v vs in
    later ∙ (add_assoc seen.weight (weight_of entities v) (sum (map (weight_of entities) vs)) ∙ ap (λ (k : ℕ). seen.weight + k) (sym next))

found_among : (cs : List ℕ) (vs : List Visit) (n : ℕ) → AllAmong cs vs → option_map_or (λ (v : Visit). number_among cs v.channel) (find (λ (v : Visit). v.number == n) vs) 0 < max 1 (length cs)
found_among cs [] n h = omega arith
found_among cs (v ∷ vs) n h = go (v.number == n) h.0 (found_among cs vs n h.1)
  where
    go : (b : Bool) → number_among cs v.channel < max 1 (length cs) → option_map_or (λ (u : Visit). number_among cs u.channel) (find (λ (u : Visit). u.number == n) vs) 0 < max 1 (length cs)
        → option_map_or (λ (u : Visit). number_among cs u.channel) (cond b (Some v) (find (λ (u : Visit). u.number == n) vs)) 0 < max 1 (length cs)
    go true f g = f
    go false f g = g

-- each node's channel is one of the tree's
pub channel_below_count : (start : Seen) (entities : ℕ → Option Entity) (main n : ℕ) → channel_from start entities main n < max 1 (length (channels_from start entities main))
channel_below_count start entities main n = found_among (channels_from start entities main) (walk_of entities main) n (walk_among start entities main)
