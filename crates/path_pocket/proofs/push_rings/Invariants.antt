use Rattle.std.proofs.Common.{◌≡◌, ◌++◌, ℕ}
use Rattle.std.specs.List.{flat_map}
use Rattle.path_blocks.specs.Numbers.{numbers_of}
use Rattle.path_blocks.specs.PathPocket.{down_from, ring, rings, round}
use Rattle.path_pocket.specs.Inset.{rectangle_of}
use Rattle.path_pocket.proofs.push_rings.Given as goal

abbrev pub invariant-loop-number : goal.invariant-loop-number
invariant-loop-number l =
    l.blocks.items ++ flat_map (λ (j : ℕ). round (numbers_of l.def) l.z (ring (rectangle_of l.inset) l.inset.radial j)) (down_from l.number)
    ≡ l.initial.blocks.items ++ rings (numbers_of l.def) (rectangle_of l.inset) l.inset.radial l.z
