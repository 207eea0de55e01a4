-- The sides of a rectangle, as the code keeps them.
use Rattle.path_blocks.specs.PathPocket.{Rectangle}
use Rattle.step_def.specs.declared.attributes.Sides.{Sides}

-- the rectangle with these sides
abbrev pub rectangle_with : Sides → Rectangle
rectangle_with s = record { left = s.left; low = s.low; right = s.right; high = s.high }
