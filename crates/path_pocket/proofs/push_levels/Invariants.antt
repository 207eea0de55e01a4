use Rattle.std.proofs.Common.{◌≡◌, ◌++◌, take}
use Rattle.std.specs.List.{flat_map}
use Rattle.path_blocks.specs.Numbers.{numbers_of, levels}
use Rattle.path_blocks.specs.PathPocket.{pocket_level}
use Rattle.path_pocket.specs.Inset.{rectangle_of}
use Rattle.path_pocket.proofs.push_levels.Given as goal

abbrev pub invariant-loop-index : goal.invariant-loop-index
invariant-loop-index l =
    l.blocks.items
    ≡ l.initial.blocks.items ++ flat_map (pocket_level (numbers_of l.def) (rectangle_of l.inset) l.inset.radial) (take l.index (levels (numbers_of l.def)))
