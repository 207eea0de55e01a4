-- The nodes of an executable of a kind, and of its elements.
use Rattle.std.specs.Prelude.{◌≡◌, ◌<◌, ◌+◌, ℕ, zero, suc, List, [], ◌∷◌, ◌++◌, length, drop, Some}
use Rattle.std.proofs.Common.{refl, sym, ap, subst, get_or}
use Rattle.exec_tree.specs.Exec.{nodes, nodes_all, AreDistinct}
use Rattle.exec_tree.specs.Arena.{to_execs, of_kind, HasArity}
use Rattle.exec_tree.specs.declared.kind.Kind.{Kind}
use Rattle.exec_tree.specs.declared.kind.Kind.TheVariants as kind
use Rattle.exec_tree.specs.declared.node.BareNode.{BareNode}
use Rattle.tree_table.specs.Placed.{placed_down, placed_all}
use Rattle.tree_table.proofs.ListLemmas.{nil_right, once_left, once_right, drop_at}

-- of all kinds but workplans
pub nodes_of : (arena : List BareNode) (levels : ℕ) (k : Kind) (p : ℕ) (places : List ℕ) → HasArity k places → (k ≡ kind.Plan → ⊥) → nodes (of_kind k (Some p) (placed_all arena levels places)) ≡ p ∷ nodes_all (to_execs (placed_all arena levels places))
nodes_of arena levels kind.Plan p places a n = absurd (n refl)
nodes_of arena levels kind.Par p places a n = refl
nodes_of arena levels kind.NonSeq p places a n = refl
nodes_of arena levels kind.Sel p places a n = refl
nodes_of arena levels kind.If p [] a n = absurd a
nodes_of arena levels kind.If p (q ∷ []) a n = absurd a
nodes_of arena levels kind.If p (q ∷ r ∷ []) a n = ap (λ (l : List ℕ). p ∷ (nodes (placed_down arena levels q) ++ l)) (sym (nil_right (nodes (placed_down arena levels r))))
nodes_of arena levels kind.If p (q ∷ r ∷ s ∷ places) a n = absurd a
nodes_of arena levels kind.While p [] a n = absurd a
nodes_of arena levels kind.While p (q ∷ []) a n = ap (λ (l : List ℕ). p ∷ l) (sym (nil_right (nodes (placed_down arena levels q))))
nodes_of arena levels kind.While p (q ∷ r ∷ places) a n = absurd a
nodes_of arena levels kind.Work p places a n = rw a refl
nodes_of arena levels kind.Assign p places a n = rw a refl
nodes_of arena levels kind.Set p places a n = rw a refl
nodes_of arena levels kind.Wait p places a n = rw a refl
nodes_of arena levels kind.Note p places a n = rw a refl

-- those behind an index stand once
pub once_behind : (arena : List BareNode) (levels : ℕ) (places : List ℕ) (k : ℕ) → AreDistinct (nodes_all (to_execs (placed_all arena levels places))) → AreDistinct (nodes_all (to_execs (placed_all arena levels (drop k places))))
once_behind arena levels places zero d = d
once_behind arena levels [] (suc k) d = d
once_behind arena levels (p ∷ places) (suc k) d = once_behind arena levels places k (once_right (nodes (placed_down arena levels p)) (nodes_all (to_execs (placed_all arena levels places))) d)

-- so does the one at an index
pub once_at : (arena : List BareNode) (levels : ℕ) (places : List ℕ) (k : ℕ) → k < length places → AreDistinct (nodes_all (to_execs (placed_all arena levels places))) → AreDistinct (nodes (placed_down arena levels (get_or places k 0)))
once_at arena levels places k l d =
    let split = drop_at places k l in
    once_left (nodes (placed_down arena levels (get_or places k 0))) (nodes_all (to_execs (placed_all arena levels (drop (k + 1) places))))
    (subst (λ (ps : List ℕ). AreDistinct (nodes_all (to_execs (placed_all arena levels ps)))) split (once_behind arena levels places k d))
