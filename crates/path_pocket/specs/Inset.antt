-- The numbers of a pocket, as the code keeps them.
use Rattle.path_blocks.specs.PathPocket.{Rectangle}
use Rattle.path_pocket.specs.declared.inset.Inset.{Inset}
use Rattle.path_pocket.specs.declared.inset.Corners.{Corners}

-- the rectangle that these sides are
abbrev pub rectangle_of : Inset → Rectangle
rectangle_of i = record { left = i.left; low = i.low; right = i.right; high = i.high }

-- the rectangle with these corners
abbrev pub rectangle_between : Corners → Rectangle
rectangle_between c = record { left = c.left; low = c.low; right = c.right; high = c.high }
