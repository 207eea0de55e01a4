-- The set of what is reached, grown from its members in turn.
use Rattle.std.proofs.Common.{◌≡◌, ℕ, ◌+◌, ◌<◌, ◌≤◌, inl, inr, List, [], ◌∷◌, length, refl, ap, sym, subst, ◌∙◌, arith, ◌↔◌}
use Rattle.std.specs.Prelude.{Contains, slice_get, Option, Some, None, Result, Ok, Err, IfOk}
use Rattle.std.specs.List.Sorted.{IsStrictlyIncreasing}
use Rattle.nc_base.specs.declared.memory.NoMemory.{NoMemory}
use Rattle.std.specs.Option.{option_map_or}
use Rattle.entity_types.specs.declared.entity.Entity.{Entity}
use Rattle.entity_types.specs.Entity.{uses_of}
use Rattle.project_store.specs.Inserts.{insert_all, AreMembers, uses_at}
use Rattle.project_store.specs.Reach.{Reaches, root, used, IsClosure}
use borrow.Author.Count.{below_more}
use Rattle.std.proofs.lemmas.Option.{get_or_from_slice_get, slice_get-get_or}
use Rattle.std.proofs.lemmas.List.Elements.{Contains-push}
use Rattle.std.specs.BTreeSet.{BTreeSet}
use Rattle.std.proofs.lemmas.Cmp.{nat_cmp_total}
use Rattle.std.proofs.lemmas.Map.Lookups.{exact_unsigned}
use Rattle.std.proofs.lemmas.Map.Views.{btree_set_contains_iff}
use Rattle.project_store.proofs.Inserting.{among_holds, holds_among, Contains-old, Contains-new, Contains-back, slice_get-insert_all, length-insert_all, none_there, only_there}

-- the members are reached, and what the first i use is there
pub record Grows (entities : ℕ → Option Entity) (n : ℕ) (ks : List ℕ) (i : ℕ) : Type 0 where
  pub sound : (m : ℕ) → Contains ks m → Reaches entities n m
  pub root : Contains ks n
  pub done : (k m r : ℕ) → k < i → slice_get ks k ≡ Some m → Contains (uses_at entities m) r → Contains ks r
  pub bound : i ≤ length ks

uses_by : (entities : ℕ → Option Entity) (n m r : ℕ) (o : Option Entity) → entities m ≡ o → Reaches entities n m → Contains (option_map_or uses_of o []) r → Reaches entities n r
uses_by entities n m r None e h c = absurd (none_there r c)
uses_by entities n m r (Some entity) e h c = used m r entity h e c

at_uses : (entities : ℕ → Option Entity) (m r : ℕ) (entity : Entity) → entities m ≡ Some entity → Contains (uses_of entity) r → Contains (uses_at entities m) r
at_uses entities m r entity e c = subst (λ o. Contains (option_map_or uses_of o []) r) (sym e) c

-- what the next member uses is put behind
pub Grows-turn : (entities : ℕ → Option Entity) (n m : ℕ) (ks : List ℕ) (i : ℕ) → Grows entities n ks i → slice_get ks i ≡ Some m → i < length ks
    → Grows entities n (insert_all ks (uses_at entities m)) (i + 1)
Grows-turn entities n m ks i g at l =
    let us = uses_at entities m in
    let there : Contains ks m = (i, l, get_or_from_slice_get ks i m m at) in
    record {
      sound = λ q h. elim (Contains-back ks us q h) [
        | inl old ↦ g.sound q old
        | inr new ↦ uses_by entities n m q _ refl (g.sound m there) new
      ];
      root = Contains-old ks us n g.root;
      done = λ k q r h. below_more (λ j. (q r : ℕ) → slice_get (insert_all ks us) j ≡ Some q → Contains (uses_at entities q) r → Contains (insert_all ks us) r) i
          (λ j lt q r e c. Contains-old ks us r (g.done j q r lt (sym (slice_get-insert_all ks us j (omega (arith, g.bound))) ∙ e) c))
          (λ q r e c.
          let stays = slice_get-insert_all ks us i l in
          let one : m ≡ q = cc in
          Contains-new ks us r (subst (λ z. Contains (uses_at entities z) r) (sym one) c))
          k h q r;
      bound = omega (arith, length-insert_all ks us);
    }

-- where all members were looked at, all that is reached is there
complete : (entities : ℕ → Option Entity) (n : ℕ) (ks : List ℕ) (i : ℕ) → Grows entities n ks i → length ks ≤ i → (m : ℕ) → Reaches entities n m → Contains ks m
complete entities n ks i g l m root = g.root
complete entities n ks i g l m (used k r entity h e c) =
    let there = complete entities n ks i g l k h in
    let at : slice_get ks there.0 ≡ Some k = slice_get-get_or ks there.0 k there.1 ∙ ap Some there.2 in
    g.done there.0 k r (omega (arith, there.1)) at (at_uses entities k r entity e c)

Grows-end : (entities : ℕ → Option Entity) (n : ℕ) (ks : List ℕ) (i : ℕ) → Grows entities n ks i → length ks ≤ i → (m : ℕ) → Contains ks m ↔ Reaches entities n m
Grows-end entities n ks i g l m = (g.sound m, complete entities n ks i g l m)

-- the set begins with its root
pub Grows-start : (entities : ℕ → Option Entity) (n : ℕ) → Grows entities n (n ∷ []) 0
Grows-start entities n = record {
  sound = λ m h. subst (Reaches entities n) (only_there n m h) root;
  root = Contains-push [] n;
  done = λ k m r h. absurd (omega arith);
  bound = omega arith;
}

-- ---- numbers in a tree

member : (ks : List ℕ) (set : BTreeSet ℕ) (m : ℕ) → AreMembers ks set → Contains set.keys m ↔ Contains ks m
member ks set m are =
    let iff = btree_set_contains_iff nat_cmp_total exact_unsigned set m in
    (λ h. among_holds ks m (sym (are m) ∙ iff.1 h), λ h. iff.0 (are m ∙ holds_among ks m h))

-- the members of the tree are those of the list, and so are reached
pub members_reached : (entities : ℕ → Option Entity) (n : ℕ) (ks : List ℕ) (i : ℕ) (set : BTreeSet ℕ) → AreMembers ks set → Grows entities n ks i → length ks ≤ i → (m : ℕ) → Contains set.keys m ↔ Reaches entities n m
members_reached entities n ks i set are g l m =
    let list = Grows-end entities n ks i g l m in
    let tree = member ks set m are in
    (λ h. list.0 (tree.0 h), λ r. tree.1 (list.1 r))

-- the members of the tree in order are the closure
pub closed : (entities : ℕ → Option Entity) (n : ℕ) (keys : List ℕ) (r : Result (List ℕ) NoMemory) → ((m : ℕ) → Contains keys m ↔ Reaches entities n m)
    → IfOk r (λ (list : List ℕ). list ≡ keys) → IfOk r IsStrictlyIncreasing → IfOk r (IsClosure entities n)
closed entities n keys (Ok list) members same rising = record { rising = rising; members = subst (λ (ks : List ℕ). (m : ℕ) → Contains ks m ↔ Reaches entities n m) (sym same) members }
closed entities n keys (Err e) members same rising = tt
