-- The tree at a place, one level down.
use Rattle.std.specs.Prelude.{◌≡◌, ◌<◌, ◌-◌, ℕ, suc, List, [], ◌∷◌, ◌++◌, map, slice_get, unwrap_or, option_map, Option, Some, None}
use Rattle.std.proofs.Common.{refl, sym, ap, subst, ◌∙◌, arith}
use Rattle.std.proofs.lemmas.List.{append-nil}
use Rattle.exec_tree.specs.Exec.{Exec, Plan, None_left, nodes, nodes_all}
use Rattle.exec_tree.specs.Arena.{to_execs, number_or_zero, of_kind, tree_down, HasArity, AreShaped}
use Rattle.exec_tree.specs.Said.{bare_of}
use Rattle.exec_tree.specs.declared.node.Node.{Node}
use Rattle.exec_tree.specs.declared.node.BareNode.{BareNode}
use Rattle.std.proofs.lemmas.Option.{slice_get-map}
use Rattle.exec_tree.specs.declared.kind.Kind.{Kind}
use Rattle.exec_tree.specs.declared.kind.Kind.TheVariants as kind
use Rattle.trace_law.specs.Below.{trees_down, own_number}

-- the node at a place, without what it says
pub get_bare : (arena : List Node) (place : ℕ) → slice_get (map bare_of arena) place ≡ option_map bare_of (slice_get arena place)
get_bare arena place = slice_get-map bare_of arena place

map_is : (arena : List BareNode) (levels : ℕ) (places : List ℕ) → map (λ q. tree_down arena levels q) places ≡ trees_down arena levels places
map_is arena levels [] = refl
map_is arena levels (p ∷ places) = ap (λ (es : List Exec). tree_down arena levels p ∷ es) (map_is arena levels places)

pub down_zero : (arena : List BareNode) (levels place : ℕ) → levels ≡ 0 → tree_down arena levels place ≡ Plan None None_left
unfolding tree_down
down_zero arena levels place e = rw e refl

pub down_none : (arena : List BareNode) (levels place : ℕ) → 0 < levels → slice_get arena place ≡ None → tree_down arena levels place ≡ Plan None None_left
unfolding tree_down
down_none arena levels place l at = let e : levels ≡ suc (levels - 1) = omega (arith, l) in rw (e, at) refl

one_level : (arena : List BareNode) (k place : ℕ) (node : BareNode) → slice_get arena place ≡ Some node → tree_down arena (suc k) place ≡ of_kind node.kind node.number (trees_down arena k node.elements)
unfolding tree_down
one_level arena k place node at = rw at (ap (λ (es : List Exec). of_kind node.kind node.number es) (map_is arena k node.elements))

pub down_node : (arena : List BareNode) (levels place : ℕ) (node : BareNode) → 0 < levels → slice_get arena place ≡ Some node
    → tree_down arena levels place ≡ of_kind node.kind node.number (trees_down arena (levels - 1) node.elements)
down_node arena levels place node l at =
    let e : suc (levels - 1) ≡ levels = omega (arith, l) in
    subst (λ (k : ℕ). tree_down arena k place ≡ of_kind node.kind node.number (trees_down arena (levels - 1) node.elements)) e (one_level arena (levels - 1) place node at)

-- ---- the numbers

numbers_by : (arena : List BareNode) (k : Kind) (n : Option ℕ) (levels : ℕ) (places : List ℕ) → HasArity k places → nodes (of_kind k n (trees_down arena levels places)) ≡ own_number k n ++ nodes_all (to_execs (trees_down arena levels places))
numbers_by arena kind.Plan n levels places h = refl
numbers_by arena kind.Par n levels places h = refl
numbers_by arena kind.NonSeq n levels places h = refl
numbers_by arena kind.Sel n levels places h = refl
numbers_by arena kind.If n levels [] h = absurd h
numbers_by arena kind.If n levels (a ∷ []) h = absurd h
numbers_by arena kind.If n levels (a ∷ b ∷ []) h =
    ap (λ (ns : List ℕ). number_or_zero n ∷ (nodes (tree_down arena levels a) ++ ns)) (sym (append-nil (nodes (tree_down arena levels b))))
numbers_by arena kind.If n levels (a ∷ b ∷ c ∷ places) h = absurd h
numbers_by arena kind.While n levels [] h = absurd h
numbers_by arena kind.While n levels (a ∷ []) h = ap (λ (ns : List ℕ). number_or_zero n ∷ ns) (sym (append-nil (nodes (tree_down arena levels a))))
numbers_by arena kind.While n levels (a ∷ b ∷ places) h = absurd h
numbers_by arena kind.Work n levels places h = rw h refl
numbers_by arena kind.Assign n levels places h = rw h refl
numbers_by arena kind.Set n levels places h = rw h refl
numbers_by arena kind.Wait n levels places h = rw h refl
numbers_by arena kind.Note n levels places h = rw h refl

pub numbers_node : (arena : List BareNode) (levels place : ℕ) (node : BareNode) → AreShaped arena → 0 < levels → slice_get arena place ≡ Some node
    → nodes (tree_down arena levels place) ≡ own_number node.kind node.number ++ nodes_all (to_execs (trees_down arena (levels - 1) node.elements))
numbers_node arena levels place node shaped l at =
    ap nodes (down_node arena levels place node l at) ∙ numbers_by arena node.kind node.number (levels - 1) node.elements (shaped place node at)

-- what `unwrap_or(0)` gives
pub number_is : (n : Option ℕ) → unwrap_or n 0 ≡ number_or_zero n
number_is None = refl
number_is (Some n) = refl

-- ---- what `node_at` gives

pub seen_none : (arena : List Node) (place : ℕ) (found : Option Node) → option_map bare_of found ≡ slice_get (map bare_of arena) place → found ≡ None → slice_get (map bare_of arena) place ≡ None
seen_none arena place found e f = sym e ∙ ap (option_map bare_of) f

pub seen_some : (arena : List Node) (place : ℕ) (found : Option Node) (node : Node) → option_map bare_of found ≡ slice_get (map bare_of arena) place → found ≡ Some node → slice_get (map bare_of arena) place ≡ Some (bare_of node)
seen_some arena place found node e f = sym e ∙ ap (option_map bare_of) f
