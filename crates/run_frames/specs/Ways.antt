-- The way on by the table of a tree: what a continuation stands for, and what is written on it.
use Rattle.std.specs.Prelude.{◌≡◌, ◌<◌, ◌+◌, ℕ, List, length, slice_get, Some, None}
use Rattle.std.specs.Option.{option_map_or}
use Rattle.exec_tree.specs.Exec.{Plan, AreDistinct}
use Rattle.exec_tree.specs.declared.kind.Kind.TheVariants as kind
use Rattle.exec_tree.specs.declared.node.BareNode.{BareNode}
use Rattle.trace_law.specs.Cells.{Cell}
use Rattle.trace_law.specs.Leading.{leads}
use Rattle.frame_law.specs.Onward.{Onward, Done, Opens, Joins, PicksOn, TestsAgain, brings}
use Rattle.frame_law.specs.Way.{along, IsGone, AreUnpicked, AreUnpickedAll}
use Rattle.tree_table.specs.Onward as led
use Rattle.tree_table.specs.Placed.{placed}
use Rattle.tree_table.specs.Rows.{link_of}
use Rattle.tree_table.specs.Table.{Tells}
use Rattle.tree_table.specs.declared.row.Continuation.{Continuation}
use Rattle.tree_table.specs.declared.row.Row.{Row}
use Rattle.run_frames.specs.Frames.{cells_of}
use Rattle.run_frames.specs.Entered.{AreUnpickedIn, ComeIn}

-- where elements are opened, the executable to which that leads
abbrev pub as_led : Onward → led.Onward
as_led Done = led.Done
as_led (Opens es) = led.Opens (leads (Plan None es))
as_led (Joins n k) = led.Joins n (as_led k)
as_led (PicksOn n total k) = led.PicksOn n total (as_led k)
as_led (TestsAgain n) = led.TestsAgain n

-- the node at a place is no non-sequential
abbrev pub IsNoPick : List BareNode → ℕ → Type 0
IsNoPick arena p = (node : BareNode) → slice_get arena p ≡ Some node → node.kind ≡ kind.NonSeq → ⊥

-- the way leads through nodes of these, joins no non-sequential, and opens elements of their tree
abbrev pub IsWithin : List BareNode → Onward → Type 0
IsWithin arena Done = Unit {0}
IsWithin arena (Opens es) = (c : ℕ → Cell) → AreUnpicked c (placed arena) → AreUnpickedAll c es
IsWithin arena (Joins n k) = (n < length arena) × IsNoPick arena n × IsWithin arena k
IsWithin arena (PicksOn n total k) = (n < length arena) × IsWithin arena k
IsWithin arena (TestsAgain n) = n < length arena

-- the continuation stands for the way on
pub record IsWay (arena : List BareNode) (rows : List Row) (c : Continuation) (k : Onward) : Type 0 where
  pub told : Tells arena rows c (as_led k)
  pub distinct : AreDistinct (along k)
  pub within : IsWithin arena k

-- the way was gone, and the places where the run goes on have come in
pub record HasGone (arena : List BareNode) (old new : List Cell) (before after : List ℕ) (k : Onward) : Type 0 where
  pub gone : IsGone (cells_of old) k (cells_of new)
  pub unpicked : AreUnpickedIn arena new
  pub long : length new ≡ length old
  pub came : ComeIn before after (brings (cells_of old) k)

-- one more than the place that a continuation links to
abbrev pub link_bound : Continuation → ℕ
link_bound c = option_map_or (λ q. q + 1) (link_of c) 0
