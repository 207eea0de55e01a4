use Rattle.std.proofs.Common.{◌≡◌, ◌++◌, take}
use Rattle.std.specs.List.{flat_map}
use Rattle.path_blocks.specs.Numbers.{numbers_of, levels}
use Rattle.path_blocks.specs.PathPlane.{plane_level}
use Rattle.path_plane.specs.Facing.{face_of}
use Rattle.path_plane.proofs.push_levels.Given as goal

abbrev pub invariant-loop-index : goal.invariant-loop-index
invariant-loop-index l = l.blocks.items ≡ l.initial.blocks.items ++ flat_map (plane_level (numbers_of l.def) (face_of l.facing)) (take l.index (levels (numbers_of l.def)))
