-- The numbers of a face, as the code keeps them.
use Rattle.path_blocks.specs.PathPlane.{Face}
use Rattle.path_plane.specs.declared.facing.Facing.{Facing}

-- the face that these numbers are
abbrev pub face_of : Facing → Face
face_of f = record { x = f.x; y = f.y; ux = f.ux; uy = f.uy; len = f.length; width = f.width; step = f.step; both = f.both }
