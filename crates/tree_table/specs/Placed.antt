-- The tree that an arena of nodes holds, each node numbered by its place.
use Rattle.std.specs.Prelude.{ℕ, zero, suc, List, [], ◌∷◌, map, slice_get, Option, Some, None}
use Rattle.std.specs.Option.{option_map_or}
use Rattle.exec_tree.specs.Exec.{Exec, Plan, None_left}
use Rattle.exec_tree.specs.Arena.{of_kind, number_or_zero}
use Rattle.exec_tree.specs.declared.kind.Kind.{Kind}
use Rattle.exec_tree.specs.declared.kind.Kind.TheVariants as kind
use Rattle.exec_tree.specs.declared.limits.TheConstants.{MAX_TREE_NESTING}
use Rattle.exec_tree.specs.declared.node.BareNode.{BareNode}

-- the place in place of the number; a plan without a number stays without
abbrev pub place_for : Kind → Option ℕ → ℕ → Option ℕ
place_for kind.Plan None place = None
place_for _ number place = Some place

abbrev pub placed_node : ℕ → Option BareNode → (ℕ → Exec) → Exec
placed_node place None below = Plan None None_left
placed_node place (Some node) below = of_kind node.kind (place_for node.kind node.number place) (map below node.elements)

-- the executable at a place, looking at most so many levels down
unfoldable pub placed_down : List BareNode → ℕ → ℕ → Exec
placed_down arena zero place = Plan None None_left
placed_down arena (suc levels) place = placed_node place (slice_get arena place) (λ q. placed_down arena levels q)

-- those at several places
abbrev pub placed_all : List BareNode → ℕ → List ℕ → List Exec
placed_all arena levels [] = []
placed_all arena levels (place ∷ places) = placed_down arena levels place ∷ placed_all arena levels places

-- the number of the node at a place
abbrev pub number_at : List BareNode → ℕ → ℕ
number_at arena place = option_map_or (λ node. number_or_zero node.number) (slice_get arena place) 0

-- the tree that the nodes hold, numbered by places
abbrev pub placed : List BareNode → Exec
placed arena = placed_down arena MAX_TREE_NESTING 0
