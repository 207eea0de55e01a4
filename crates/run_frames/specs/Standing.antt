-- When frames stand for the entries of a run so far.
use Rattle.std.specs.Prelude.{◌≡◌, ℕ, List, map, length, Some}
use Rattle.exec_tree.specs.Arena.{tree_down}
use Rattle.exec_tree.specs.Walked.{place_from}
use Rattle.exec_tree.specs.declared.limits.TheConstants.{MAX_TREE_NESTING}
use Rattle.exec_tree.specs.declared.node.BareNode.{BareNode}
use Rattle.trace_law.specs.Part.{Part}
use Rattle.run_log.specs.declared.entry.Entry.{Entry}
use Rattle.tree_table.specs.Placed.{number_at}
use Rattle.tree_table.specs.Table.{IsTable}
use Rattle.run_frames.specs.Renaming.{entry_renamed}
use Rattle.run_frames.specs.Held.{IsHeld}
use Rattle.run_frames.specs.declared.frames.Frames.{Frames}
use Rattle.run_frames.specs.Told.{rooms_of}

-- the frames stand for the entries t, a run so far: as entries of places they are one of the tree numbered by places, of which frames, set and table tell; each place has a class, and room for the picks of its elements
pub record IsAt (nodes : List BareNode) (f : Frames) (t : List Entry) : Type 0 where
  pub so_far : Part (tree_down nodes MAX_TREE_NESTING 0) t
  pub entries : List Entry
  pub same : map (entry_renamed (number_at nodes)) entries ≡ t
  pub held : IsHeld nodes f.frames.cells f.set.all entries
  pub rooms : f.frames.rooms ≡ rooms_of nodes
  pub table : IsTable nodes f.table.rows.items
  pub classed : length f.set.classes ≡ length nodes

-- the place is the one of a node with a number
abbrev pub IsPlace : List BareNode → ℕ → Type 0
IsPlace nodes p = place_from 0 nodes (number_at nodes p) ≡ Some p
