-- The kinds of shape.
use Rattle.std.specs.Prelude.{Bool, true, false}
use Rattle.path_blocks.specs.declared.def.Shape.{Shape}
use Rattle.path_blocks.specs.declared.def.Shape.TheVariants.{Drill, Plane, Pocket}

-- the shape is a drilled hole
abbrev pub is_drill : Shape → Bool
is_drill (Drill x y dwell) = true
is_drill (Plane x y ux uy len width step both) = false
is_drill (Pocket left low right high radial) = false

-- the shape is a planar face
abbrev pub is_plane : Shape → Bool
is_plane (Drill x y dwell) = false
is_plane (Plane x y ux uy len width step both) = true
is_plane (Pocket left low right high radial) = false

-- the shape is a pocket
abbrev pub is_pocket : Shape → Bool
is_pocket (Drill x y dwell) = false
is_pocket (Plane x y ux uy len width step both) = false
is_pocket (Pocket left low right high radial) = true
