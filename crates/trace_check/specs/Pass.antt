-- What a pass over the entries of a list leaves.
use Rattle.std.specs.Prelude.{◌≡◌, List, [], Option, None}
use Rattle.exec_tree.specs.Built.{TreeValue}
use Rattle.trace_law.specs.Below.{tree_in}
use Rattle.trace_law.specs.Stray.{first_stray}
use Rattle.run_log.specs.declared.entry.Entry.{Entry}
use Rattle.run_frames.specs.declared.frames.Frames.{Frames}
use Rattle.run_frames.specs.Standing.{IsAt}

-- the entry is the first of t that strays from the tree, and where there is none the frames stand for t
pub record IsPass (tree : TreeValue) (t : List Entry) (frames : Frames) (stray : Option Entry) : Type 0 where
  pub strays : stray ≡ first_stray (tree_in tree) [] t
  pub stands : stray ≡ None → IsAt tree.nodes frames t
