-- The tree of a store.
use Rattle.std.specs.Prelude.{ℕ, zero, suc, [], map, Option, Some, None}
use Rattle.std.specs.Option.{option_map_or}
use Rattle.entity_types.specs.declared.entity.Entity.{Entity}
use Rattle.exec_tree.specs.declared.limits.TheConstants.{MAX_TREE_NESTING}
use Rattle.exec_tree.specs.Exec.{Exec, Plan, None_left}
use Rattle.exec_tree.specs.Arena.{of_kind}
use Rattle.exec_tree.specs.Executable.{kind_at, parts_at}

-- a part; a `$` branch is an empty plan without a number
abbrev pub part_tree : (ℕ → Exec) → Option ℕ → Exec
part_tree below part = option_map_or below part (Plan None None_left)

abbrev pub exec_found : ℕ → (ℕ → Exec) → Option Entity → Exec
exec_found n below found = of_kind (kind_at found) (Some n) (map (part_tree below) (parts_at found))

-- executable n with what lies below it, at most so many levels
unfoldable pub tree_from : (ℕ → Option Entity) → ℕ → ℕ → Exec
tree_from entities zero n = of_kind (kind_at (entities n)) (Some n) []
tree_from entities (suc left) n = exec_found n (λ m. tree_from entities left m) (entities n)

-- the tree of the main workplan
abbrev pub tree_of : (ℕ → Option Entity) → ℕ → Exec
tree_of entities main = tree_from entities MAX_TREE_NESTING main
