-- Looks to find where opening leads, node by node and element by element.
use Rattle.std.specs.Prelude.{◌≡◌, ◌<◌, ◌≤◌, ◌+◌, if◌then◌else◌, ℕ, Bool, true, List, [], ◌∷◌, length, drop, Option, Some, None}
use Rattle.std.proofs.Common.{refl, sym, ◌∙◌, ap, subst, arith, get_or}
use Rattle.exec_tree.specs.Exec.{Exec, Work, Leaf, Plan, Par, NonSeq, Sel, If, While}
use Rattle.exec_tree.specs.Arena.{to_execs, of_kind}
use Rattle.exec_tree.specs.declared.kind.Kind.{Kind}
use Rattle.exec_tree.specs.declared.kind.Kind.TheVariants as kind
use Rattle.exec_tree.specs.declared.node.BareNode.{BareNode}
use Rattle.trace_law.specs.Next.{next}
use Rattle.trace_law.specs.Frames.{one_where}
use Rattle.trace_law.specs.Leading.{has_none}
use Rattle.frame_law.specs.Looks.{finding, finding_first}
use Rattle.tree_table.specs.Placed.{placed_down, placed_all}
use Rattle.tree_table.specs.Filled.{first_place, one_for, into_of, first_into}
use Rattle.tree_table.proofs.ListLemmas.{drop_at}
use Rattle.tree_table.proofs.LeadLemmas.{one_for_into}

pub found_one : (e : Exec) → 1 ≤ finding e
found_one (Work n) = omega arith
found_one (Leaf n k) = omega arith
found_one (Plan None es) = omega arith
found_one (Plan (Some n) es) = omega arith
found_one (Par n es) = omega arith
found_one (NonSeq n es) = omega arith
found_one (Sel n es) = omega arith
found_one (If n a b) = omega arith
found_one (While n a) = omega arith

-- a workplan without a number is found by its elements
pub found_first : (arena : List BareNode) (levels : ℕ) (k : Kind) (at : Option ℕ) (places : List ℕ) → at ≡ None → k ≡ kind.Plan → finding (of_kind k at (placed_all arena levels places)) ≡ finding_first (to_execs (placed_all arena levels places)) + 1
found_first arena levels k at places h g =
    let es = placed_all arena levels places in
    subst (λ (o : Option ℕ). finding (of_kind k o es) ≡ finding_first (to_execs es) + 1) (sym h) (subst (λ (j : Kind). finding (of_kind j None es) ≡ finding_first (to_execs es) + 1) (sym g) refl)

-- what leads nowhere has nothing to do
pub leads_nowhere : (e : Exec) → into_of e ≡ None → has_none (next e []) ≡ true
leads_nowhere e h = go (next e []) (sym (one_for_into e) ∙ ap one_for h)
  where
    go : (l : List ℕ) → one_where l ≡ 0 → has_none l ≡ true
    go [] z = refl
    go (n ∷ l) z = absurd (let w : 1 ≡ 0 = z in cc)

split_at : (arena : List BareNode) (levels : ℕ) (places : List ℕ) (k : ℕ) → k < length places → (let e : Exec = placed_down arena levels (get_or places k 0) in finding_first (to_execs (placed_all arena levels (drop k places))) ≡ finding e + (if has_none (next e []) then finding_first (to_execs (placed_all arena levels (drop (k + 1) places))) else 0))
split_at arena levels places k l = ap (λ (ps : List ℕ). finding_first (to_execs (placed_all arena levels ps))) (drop_at places k l)

-- where the element at an index leads nowhere, the first that leads anywhere is one of the next
pub none_first : (arena : List BareNode) (levels : ℕ) (places : List ℕ) (k : ℕ) → k < length places → into_of (placed_down arena levels (get_or places k 0)) ≡ None → first_into (to_execs (placed_all arena levels (drop (k + 1) places))) ≡ first_into (to_execs (placed_all arena levels (drop k places)))
none_first arena levels places k l none =
    sym (ap (λ (ps : List ℕ). first_into (to_execs (placed_all arena levels ps))) (drop_at places k l) ∙ ap (λ (o : Option ℕ). first_place o (first_into (to_execs (placed_all arena levels (drop (k + 1) places))))) none)

-- the element at an index is found, and the next are still to be
pub found_more : (arena : List BareNode) (levels : ℕ) (places : List ℕ) (k s s' u : ℕ) → k < length places → into_of (placed_down arena levels (get_or places k 0)) ≡ None → s + finding_first (to_execs (placed_all arena levels (drop k places))) ≤ u
    → s' ≤ s + finding (placed_down arena levels (get_or places k 0)) → s' + finding_first (to_execs (placed_all arena levels (drop (k + 1) places))) ≤ u
found_more arena levels places k s s' u l none h more =
    let e = placed_down arena levels (get_or places k 0) in
    let rest = finding_first (to_execs (placed_all arena levels (drop (k + 1) places))) in
    let split : finding_first (to_execs (placed_all arena levels (drop k places))) ≡ finding e + rest = split_at arena levels places k l ∙ ap (λ (b : Bool). finding e + (if b then rest else 0)) (leads_nowhere e none) in
    omega (arith, h, more, split)

-- the element at an index is found, and that is all
pub found_here : (arena : List BareNode) (levels : ℕ) (places : List ℕ) (k s s' u : ℕ) → k < length places → s + finding_first (to_execs (placed_all arena levels (drop k places))) ≤ u → s' ≤ s + finding (placed_down arena levels (get_or places k 0)) → s' ≤ u
found_here arena levels places k s s' u l h more =
    let e = placed_down arena levels (get_or places k 0) in
    let rest : ℕ = if has_none (next e []) then finding_first (to_execs (placed_all arena levels (drop (k + 1) places))) else 0 in
    let split : finding_first (to_execs (placed_all arena levels (drop k places))) ≡ finding e + rest = split_at arena levels places k l in
    omega (arith, h, more, split)
