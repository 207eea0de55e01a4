-- What a table tells of the tree that the nodes hold.
use Rattle.std.specs.Prelude.{◌≡◌, ◌≤◌, ℕ, true, List, [], length, slice_get, Option, Some, None}
use Rattle.std.specs.Option.{option_map_or}
use Rattle.exec_tree.specs.Exec.{Exec, nodes, has}
use Rattle.exec_tree.specs.declared.node.BareNode.{BareNode}
use Rattle.trace_law.specs.Next.{next}
use Rattle.trace_law.specs.Leading.{leads}
use Rattle.place_set.specs.declared.set.TheConstants.{MAX_PLACES}
use Rattle.tree_table.specs.Placed.{placed}
use Rattle.tree_table.specs.Within.{within}
use Rattle.tree_table.specs.Onward.{Onward, Done, Opens, Joins, PicksOn, TestsAgain, onward}
use Rattle.tree_table.specs.Rows.{into_at, after_at, executable_at, AreLinkedBack}
use Rattle.tree_table.specs.Filled.{Led}
use Rattle.tree_table.specs.declared.row.Continuation.{Continuation}
use Rattle.tree_table.specs.declared.row.Continuation.TheVariants as row
use Rattle.tree_table.specs.declared.row.Row.{Row}

-- the place is a node's of the tree, and opening it leads to itself
pub record IsEntrance (arena : List BareNode) (rows : List Row) (q : ℕ) : Type 0 where
  pub inside : has (nodes (placed arena)) q ≡ true
  pub itself : into_at rows q ≡ Some q

-- where opening e leads: nowhere where e has nothing to do, and else to the executable at this place
abbrev pub LeadsTo : List BareNode → List Row → Exec → Option ℕ → Type 0
LeadsTo arena rows e None = next e [] ≡ []
LeadsTo arena rows e (Some q) = (next e [] ≡ [] → ⊥) × IsEntrance arena rows q × (executable_at arena rows q ≡ leads e)

-- the node at a place has this element
abbrev pub IsElement : List BareNode → ℕ → ℕ → Type 0
IsElement arena p q = (node : BareNode) × (slice_get arena p ≡ Some node) × (has node.elements q ≡ true)

-- how many elements the node at a place has
abbrev pub count_at : List BareNode → ℕ → ℕ
count_at arena p = option_map_or (λ node. length node.elements) (slice_get arena p) 0

-- a continuation tells where the run goes on. A parallel and a non-sequential go on as their own rows tell
abbrev pub Tells : List BareNode → List Row → Continuation → Onward → Type 0
Tells arena rows c Done = c ≡ row.Done
Tells arena rows c (Opens e) = (q : ℕ) × (c ≡ row.Opens q) × IsEntrance arena rows q × (executable_at arena rows q ≡ e)
Tells arena rows c (Joins n k) = (c ≡ row.Joins n) × Tells arena rows (after_at rows n) k
Tells arena rows c (PicksOn n total k) = (c ≡ row.PicksOn n) × (count_at arena n ≡ total) × Tells arena rows (after_at rows n) k
Tells arena rows c (TestsAgain n) = c ≡ row.TestsAgain n

-- Of each node of the tree its row tells how deep it lies, where opening it leads, and where the run goes on when it is over.
pub record IsTable (arena : List BareNode) (rows : List Row) : Type 0 where
  pub long : length rows ≡ length arena
  pub few : length arena ≤ MAX_PLACES
  pub led : Led arena rows (placed arena)
  pub there : (p : ℕ) → has (nodes (placed arena)) p ≡ true → executable_at arena rows p ≡ within (placed arena) p
  pub into : (p : ℕ) → has (nodes (placed arena)) p ≡ true → LeadsTo arena rows (executable_at arena rows p) (into_at rows p)
  pub after : (p : ℕ) → has (nodes (placed arena)) p ≡ true → Tells arena rows (after_at rows p) (onward (placed arena) Done p)
  pub back : AreLinkedBack rows
