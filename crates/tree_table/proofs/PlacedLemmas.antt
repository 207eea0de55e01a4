-- The placed tree at a place, one level down.
use Rattle.std.specs.Prelude.{◌≡◌, ◌<◌, ◌≤◌, ◌-◌, ℕ, zero, suc, take, List, [], ◌∷◌, map, length, slice_get, option_map, Option, Some, None}
use Rattle.std.proofs.Common.{refl, sym, ap, subst, ◌∙◌, arith}
use Rattle.std.proofs.lemmas.Option.{slice_get-map, slice_get_within}
use Rattle.exec_tree.specs.Exec.{Exec, Plan, None_left, count}
use Rattle.exec_tree.specs.Arena.{to_execs, of_kind}
use Rattle.exec_tree.specs.Said.{bare_of}
use Rattle.exec_tree.specs.declared.node.Node.{Node}
use Rattle.exec_tree.specs.declared.node.BareNode.{BareNode}
use Rattle.tree_table.specs.Placed.{place_for, placed_down, placed_all}

map_is : (arena : List BareNode) (levels : ℕ) (places : List ℕ) → map (λ q. placed_down arena levels q) places ≡ placed_all arena levels places
map_is arena levels [] = refl
map_is arena levels (p ∷ places) = ap (λ (es : List Exec). placed_down arena levels p ∷ es) (map_is arena levels places)

pub down_zero : (arena : List BareNode) (levels place : ℕ) → levels ≡ 0 → placed_down arena levels place ≡ Plan None None_left
unfolding placed_down
down_zero arena levels place e = rw e refl

pub down_none : (arena : List BareNode) (levels place : ℕ) → 0 < levels → slice_get arena place ≡ None → placed_down arena levels place ≡ Plan None None_left
unfolding placed_down
down_none arena levels place l at = let e : levels ≡ suc (levels - 1) = omega (arith, l) in rw (e, at) refl

one_level : (arena : List BareNode) (k place : ℕ) (node : BareNode) → slice_get arena place ≡ Some node → placed_down arena (suc k) place ≡ of_kind node.kind (place_for node.kind node.number place) (placed_all arena k node.elements)
unfolding placed_down
one_level arena k place node at = rw at (ap (λ (es : List Exec). of_kind node.kind (place_for node.kind node.number place) es) (map_is arena k node.elements))

pub down_node : (arena : List BareNode) (levels place : ℕ) (node : BareNode) → 0 < levels → slice_get arena place ≡ Some node
    → placed_down arena levels place ≡ of_kind node.kind (place_for node.kind node.number place) (placed_all arena (levels - 1) node.elements)
down_node arena levels place node l at =
    let e : suc (levels - 1) ≡ levels = omega (arith, l) in
    subst (λ (k : ℕ). placed_down arena k place ≡ of_kind node.kind (place_for node.kind node.number place) (placed_all arena (levels - 1) node.elements)) e (one_level arena (levels - 1) place node at)

-- ---- what `node_at` gives

pub get_bare : (arena : List Node) (place : ℕ) → slice_get (map bare_of arena) place ≡ option_map bare_of (slice_get arena place)
get_bare arena place = slice_get-map bare_of arena place

pub seen_none : (arena : List Node) (place : ℕ) (found : Option Node) → option_map bare_of found ≡ slice_get (map bare_of arena) place → found ≡ None → slice_get (map bare_of arena) place ≡ None
seen_none arena place found e f = sym e ∙ ap (option_map bare_of) f

pub seen_some : (arena : List Node) (place : ℕ) (found : Option Node) (node : Node) → option_map bare_of found ≡ slice_get (map bare_of arena) place → found ≡ Some node → slice_get (map bare_of arena) place ≡ Some (bare_of node)
seen_some arena place found node e f = sym e ∙ ap (option_map bare_of) f

-- ---- what `look_at` gives

pub look_none : (arena : List BareNode) (place : ℕ) (found : Option Node) → option_map bare_of found ≡ slice_get arena place → found ≡ None → slice_get arena place ≡ None
look_none arena place found e f = sym e ∙ ap (option_map bare_of) f

pub look_some : (arena : List BareNode) (place : ℕ) (found : Option Node) (node : Node) → option_map bare_of found ≡ slice_get arena place → found ≡ Some node → slice_get arena place ≡ Some (bare_of node)
look_some arena place found node e f = sym e ∙ ap (option_map bare_of) f

-- ---- the elements

pub count_is : (arena : List BareNode) (levels : ℕ) (places : List ℕ) → count (to_execs (placed_all arena levels places)) ≡ length places
count_is arena levels [] = refl
count_is arena levels (p ∷ places) = ap (λ (n : ℕ). suc n) (count_is arena levels places)

pub length_map : {A B : Type 0} (f : A → B) (l : List A) → length (map f l) ≡ length l
length_map f [] = refl
length_map f (x ∷ l) = ap (λ (n : ℕ). suc n) (length_map f l)

pub bare_within : (arena : List Node) (place : ℕ) (node : BareNode) → slice_get (map bare_of arena) place ≡ Some node → place < length arena
bare_within arena place node at = subst (λ (n : ℕ). place < n) (length_map bare_of arena) (slice_get_within (map bare_of arena) place node at)

pub whole : (l : List ℕ) (n : ℕ) → length l ≤ n → take n l ≡ l
whole [] zero h = refl
whole [] (suc n) h = refl
whole (x ∷ l) zero h = absurd (omega (arith, h))
whole (x ∷ l) (suc n) h = ap (λ (w : List ℕ). x ∷ w) (whole l n (omega (arith, h)))
