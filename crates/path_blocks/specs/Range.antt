-- The ranges that the numbers of a definition keep.
use Rattle.std.specs.Prelude.{ℤ, pos, negsuc, neg_ℤ, int_lt, int_le, Bool, ◌&&◌, ◌||◌, [], ◌∷◌}
use Rattle.std.specs.List.{list_all}
use Rattle.std.specs.Int.{is_positive}
use Rattle.std.specs.Ordering.{int_eq}
use Rattle.path_blocks.specs.declared.limits.TheConstants.{MAX_SIZE}
use Rattle.path_blocks.specs.declared.def.Shape.{Shape}
use Rattle.path_blocks.specs.declared.def.Shape.TheVariants.{Drill, Plane, Pocket}

-- a length, height, feed, speed or time: within the greatest size, upwards and downwards
abbrev pub is_within : ℤ → Bool
is_within z = int_le (neg_ℤ (pos MAX_SIZE)) z && int_le z (pos MAX_SIZE)

-- at least 0
abbrev pub is_at_least_zero : ℤ → Bool
is_at_least_zero z = int_lt (negsuc 0) z

-- 1 or -1
abbrev pub is_unit : ℤ → Bool
is_unit u = int_eq u (pos 1) || int_eq u (negsuc 0)

-- a course along x or along y: one of the two is 0, and the other 1 or -1
abbrev pub is_course : ℤ → ℤ → Bool
is_course ux uy = (is_unit ux && int_eq uy (pos 0)) || (int_eq ux (pos 0) && is_unit uy)

-- the numbers of the shape are within their ranges
abbrev pub fits_shape : Shape → Bool
fits_shape (Drill x y dwell) = list_all is_within (x ∷ y ∷ dwell ∷ []) && is_at_least_zero dwell
fits_shape (Plane x y ux uy len width step both) =
    list_all is_within (x ∷ y ∷ len ∷ width ∷ step ∷ []) && list_all is_positive (len ∷ width ∷ step ∷ []) && is_course ux uy
fits_shape (Pocket left low right high radial) =
    list_all is_within (left ∷ low ∷ right ∷ high ∷ radial ∷ []) && is_positive radial && int_le left right && int_le low high
