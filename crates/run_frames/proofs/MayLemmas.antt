-- Whether the run can go on at a place, and what may be picked there.
use Rattle.std.specs.Prelude.{◌≡◌, ◌<◌, ◌==◌, ◌||◌, ◌&&◌, if◌then◌else◌, ℕ, Bool, true, false, List, [], ◌∷◌, map, Option, Some, None, IsSomeAnd}
use Rattle.std.proofs.Common.{refl, sym, ◌∙◌, ap, subst, arith}
use Rattle.std.proofs.lemmas.Bool.Decides.{nat_tests}
use Rattle.exec_tree.specs.Exec.{has}
use Rattle.exec_tree.specs.Walked.{place_from}
use Rattle.exec_tree.specs.declared.kind.Kind.{Kind}
use Rattle.exec_tree.specs.declared.kind.Kind.TheVariants as kind
use Rattle.exec_tree.specs.declared.node.BareNode.{BareNode}
use Rattle.exec_tree.specs.declared.role.Role.{Role}
use Rattle.exec_tree.specs.declared.role.Role.TheVariants as role
use Rattle.place_set.specs.Words.{holds}
use Rattle.trace_law.specs.Cells.{Cell, picked, stage_of}
use Rattle.trace_law.specs.Next.{next}
use Rattle.trace_law.specs.Offer.{IsOffered, offer_of_work}
use Rattle.trace_law.specs.Own.{pick_of}
use Rattle.trace_law.specs.Step.{IsNewPick}
use Rattle.run_log.specs.declared.entry.Entry.{Entry}
use Rattle.run_log.specs.declared.entry.Entry.TheVariants.{Pick}
use Rattle.tree_table.specs.Placed.{placed, number_at}
use Rattle.run_frames.specs.declared.frames.Frames.{Frames}
use Rattle.run_frames.specs.OfferAt.{offer_at}
use Rattle.run_frames.specs.Standing.{IsAt, IsPlace}
use Rattle.run_frames.proofs.RenamingLemmas.{same_number}
use Rattle.run_frames.proofs.StandLemmas.{tree, AreOfTree, next_is, place_is_of}

-- ---- picks

own_test : (n : ℕ) → (n == n) ≡ true
own_test n = grind (arith, nat_tests)

-- an index may be picked exactly where it is below the count and isn't picked
pub new_pick : (n count k : ℕ) (ks : List ℕ) → (IsNewPick n count ks (Pick n k) → (k < count) × (has ks k ≡ false)) × ((k < count) × (has ks k ≡ false) → IsNewPick n count ks (Pick n k))
new_pick n count k ks =
    let is : pick_of n (Pick n k) ≡ Some k = (let t = own_test n in rw t refl) in (
      λ h. subst (λ (o : Option ℕ). IsSomeAnd o (λ j. (j < count) × (has ks j ≡ false))) is h,
      λ h. subst (λ (o : Option ℕ). IsSomeAnd o (λ j. (j < count) × (has ks j ≡ false))) (sym is) h,
    )

no_stage : (o : Option ℕ) (n k : ℕ) → IsOffered (offer_of_work o) n (Pick n k) → ⊥
no_stage None n k h = h
no_stage (Some j) n k h = h

-- a node of another kind picks nothing
pub picks_nothing : (j : Kind) (c : Cell) (count n k : ℕ) → (j ≡ kind.NonSeq → ⊥) → (j ≡ kind.Sel → ⊥) → IsOffered (offer_at j c count) n (Pick n k) → ⊥
picks_nothing kind.Plan c count n k a b h = h
picks_nothing kind.Par c count n k a b h = h
picks_nothing kind.NonSeq c count n k a b h = a refl
picks_nothing kind.Sel c count n k a b h = b refl
picks_nothing kind.If c count n k a b h = h
picks_nothing kind.While c count n k a b h = h
picks_nothing kind.Work c count n k a b h = no_stage (stage_of c) n k h
picks_nothing kind.Assign c count n k a b h = h
picks_nothing kind.Set c count n k a b h = h
picks_nothing kind.Wait c count n k a b h = h
picks_nothing kind.Note c count n k a b h = h

-- ---- where the run can go on

has_mapped : (r : ℕ → ℕ) (ns : List ℕ) (q : ℕ) → has ns q ≡ true → has (map r ns) (r q) ≡ true
has_mapped r [] q h = absurd (let w : false ≡ true = h in cc)
has_mapped r (n ∷ ns) q h = go (n == q) refl (has_mapped r ns q)
  where
    or_true : (b : Bool) → (b || true) ≡ true
    or_true true = refl
    or_true false = refl

    go : (b : Bool) → (n == q) ≡ b → (has ns q ≡ true → has (map r ns) (r q) ≡ true) → (r n == r q) || has (map r ns) (r q) ≡ true
    go true e rec = let s : n ≡ q = same_number n q e in let t : (r n == r q) ≡ true = (let i : r n ≡ r q = ap r s in grind (arith, nat_tests)) in ap (λ (b : Bool). b || has (map r ns) (r q)) t
    go false e rec = ap (λ (b : Bool). (r n == r q) || b) (rec (sym (ap (λ (b : Bool). b || has ns q) e) ∙ h)) ∙ or_true (r n == r q)

alike : (a b : Bool) → (a ≡ true → b ≡ true) → (b ≡ true → a ≡ true) → a ≡ b
alike true b f g = sym (f refl)
alike false true f g = g refl
alike false false f g = refl

-- the set has the place of a node exactly where the run can go on at the node
pub goes_at : (arena : List BareNode) (f : Frames) (t : List Entry) (p : ℕ) → AreOfTree arena → IsAt arena f t → IsPlace arena p → holds f.set.all p ≡ has (next (tree arena) t) (number_at arena p)
goes_at arena f t p a s at =
    s.held.goes_on p
    ∙ alike (has (next (placed arena) s.entries) p) (has (next (tree arena) t) (number_at arena p))
    (λ h. ap (λ (ns : List ℕ). has ns (number_at arena p)) (next_is arena f t a.distinct s) ∙ has_mapped (number_at arena) (next (placed arena) s.entries) p h)
    (λ h. (place_is_of arena f t (number_at arena p) p (place_from 0 arena (number_at arena p)) a s h refl at).is_next)

-- ---- what the code answers

pub sel_may : (n count k : ℕ) (b : Bool) → (b ≡ true → k < count) → (k < count → b ≡ true) → (b ≡ true → IsNewPick n count [] (Pick n k)) × (IsNewPick n count [] (Pick n k) → b ≡ true)
sel_may n count k b f g = (λ e. (new_pick n count k []).1 (f e, refl), λ h. g ((new_pick n count k []).0 h).0)

pub pick_may : (n count k : ℕ) (ks : List ℕ) (b : Bool) → (b ≡ true → (k < count) × (has ks k ≡ false)) → ((k < count) × (has ks k ≡ false) → b ≡ true) → (b ≡ true → IsNewPick n count ks (Pick n k)) × (IsNewPick n count ks (Pick n k) → b ≡ true)
pick_may n count k ks b f g = (λ e. (new_pick n count k ks).1 (f e), λ h. g ((new_pick n count k ks).0 h))
