-- What the rows of a table have at a place.
use Rattle.std.specs.Prelude.{◌≡◌, ◌<◌, ℕ, List, slice_get, Option, Some, None}
use Rattle.std.specs.Option.{option_map_or}
use Rattle.exec_tree.specs.Exec.{Exec}
use Rattle.exec_tree.specs.declared.node.BareNode.{BareNode}
use Rattle.tree_table.specs.Placed.{placed_down}
use Rattle.tree_table.specs.declared.row.Continuation.{Continuation}
use Rattle.tree_table.specs.declared.row.Continuation.TheVariants.{Done, Joins, PicksOn}
use Rattle.tree_table.specs.declared.row.Row.{Row}

abbrev pub into_at : List Row → ℕ → Option ℕ
into_at rows p = option_map_or (λ row. row.into) (slice_get rows p) None

abbrev pub after_at : List Row → ℕ → Continuation
after_at rows p = option_map_or (λ row. row.after) (slice_get rows p) Done

abbrev pub levels_at : List Row → ℕ → ℕ
levels_at rows p = option_map_or (λ row. row.levels) (slice_get rows p) 0

-- the executable at a place, looking as many levels down as its row says
abbrev pub executable_at : List BareNode → List Row → ℕ → Exec
executable_at arena rows p = placed_down arena (levels_at rows p) p

-- the parallel or the non-sequential at which more is to be looked up
abbrev pub link_of : Continuation → Option ℕ
link_of (Joins p) = Some p
link_of (PicksOn p) = Some p
link_of _ = None

-- each such place lies before the row's own, so looking up ends
abbrev pub AreLinkedBack : List Row → Type 0
AreLinkedBack rows = (p q : ℕ) → link_of (after_at rows p) ≡ Some q → q < p
