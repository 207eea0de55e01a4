-- What the ranges of a shape say of each of its numbers.
use Rattle.std.specs.Prelude.{refl, Bool, true, false, ◌&&◌, ◌∷◌, [], ℤ, IsTrue, int_le}
use Rattle.std.specs.List.{list_all}
use Rattle.std.specs.Int.{is_positive}
use Rattle.path_blocks.specs.declared.def.Def.{Def}
use Rattle.path_blocks.specs.declared.def.Shape.TheVariants.{Plane, Pocket}
use Rattle.path_blocks.specs.Range.{is_within, is_course, fits_shape}

split : (a b : Bool) → IsTrue (a && b) → IsTrue a × IsTrue b
split true b e = (refl, e)
split false b e = absurd cc

-- the ranges of a face
pub record PlaneRanges (x y ux uy len width step : ℤ) : Type 0 where
  pub x_within : IsTrue (is_within x)
  pub y_within : IsTrue (is_within y)
  pub len_within : IsTrue (is_within len)
  pub width_within : IsTrue (is_within width)
  pub step_within : IsTrue (is_within step)
  pub len_positive : IsTrue (is_positive len)
  pub width_positive : IsTrue (is_positive width)
  pub step_positive : IsTrue (is_positive step)
  pub course : IsTrue (is_course ux uy)

pub plane_ranges : (x y ux uy len width step : ℤ) (both : Bool) → IsTrue (fits_shape (Plane x y ux uy len width step both)) → PlaneRanges x y ux uy len width step
plane_ranges x y ux uy len width step both h =
    let a = split (list_all is_within (x ∷ y ∷ len ∷ width ∷ step ∷ []) && list_all is_positive (len ∷ width ∷ step ∷ [])) (is_course ux uy) h in
    let w = split (list_all is_within (x ∷ y ∷ len ∷ width ∷ step ∷ [])) (list_all is_positive (len ∷ width ∷ step ∷ [])) a.0 in
    let x_in = split (is_within x) _ w.0 in
    let y_in = split (is_within y) _ x_in.1 in
    let len_in = split (is_within len) _ y_in.1 in
    let width_in = split (is_within width) _ len_in.1 in
    let step_in = split (is_within step) true width_in.1 in
    let len_up = split (is_positive len) _ w.1 in
    let width_up = split (is_positive width) _ len_up.1 in
    let step_up = split (is_positive step) true width_up.1 in
    record {
      x_within = x_in.0;
      y_within = y_in.0;
      len_within = len_in.0;
      width_within = width_in.0;
      step_within = step_in.0;
      len_positive = len_up.0;
      width_positive = width_up.0;
      step_positive = step_up.0;
      course = a.1;
    }

-- the ranges of a pocket
pub record PocketRanges (left low right high radial : ℤ) : Type 0 where
  pub left_within : IsTrue (is_within left)
  pub low_within : IsTrue (is_within low)
  pub right_within : IsTrue (is_within right)
  pub high_within : IsTrue (is_within high)
  pub radial_within : IsTrue (is_within radial)
  pub radial_positive : IsTrue (is_positive radial)
  pub across : IsTrue (int_le left right)
  pub along : IsTrue (int_le low high)

pub pocket_ranges : (left low right high radial : ℤ) → IsTrue (fits_shape (Pocket left low right high radial)) → PocketRanges left low right high radial
pocket_ranges left low right high radial h =
    let a = split (list_all is_within (left ∷ low ∷ right ∷ high ∷ radial ∷ []) && is_positive radial && int_le left right) (int_le low high) h in
    let b = split (list_all is_within (left ∷ low ∷ right ∷ high ∷ radial ∷ []) && is_positive radial) (int_le left right) a.0 in
    let w = split (list_all is_within (left ∷ low ∷ right ∷ high ∷ radial ∷ [])) (is_positive radial) b.0 in
    let left_in = split (is_within left) _ w.0 in
    let low_in = split (is_within low) _ left_in.1 in
    let right_in = split (is_within right) _ low_in.1 in
    let high_in = split (is_within high) _ right_in.1 in
    let radial_in = split (is_within radial) true high_in.1 in
    record {
      left_within = left_in.0;
      low_within = low_in.0;
      right_within = right_in.0;
      high_within = high_in.0;
      radial_within = radial_in.0;
      radial_positive = w.1;
      across = b.1;
      along = a.1;
    }

-- the ranges of a definition's heights
pub record HeightRanges (d : Def) : Type 0 where
  pub z0_within : IsTrue (is_within d.z0)
  pub bottom_within : IsTrue (is_within d.bottom)
  pub axial_within : IsTrue (is_within d.axial)

pub height_ranges : (d : Def) → HeightRanges d
height_ranges d =
    let spindle_in = split (is_within d.spindle) (list_all is_within (d.feed ∷ d.sec ∷ d.ret ∷ d.z0 ∷ d.bottom ∷ d.axial ∷ [])) d.within in
    let feed_in = split (is_within d.feed) (list_all is_within (d.sec ∷ d.ret ∷ d.z0 ∷ d.bottom ∷ d.axial ∷ [])) spindle_in.1 in
    let sec_in = split (is_within d.sec) (list_all is_within (d.ret ∷ d.z0 ∷ d.bottom ∷ d.axial ∷ [])) feed_in.1 in
    let ret_in = split (is_within d.ret) (list_all is_within (d.z0 ∷ d.bottom ∷ d.axial ∷ [])) sec_in.1 in
    let z0_in = split (is_within d.z0) (list_all is_within (d.bottom ∷ d.axial ∷ [])) ret_in.1 in
    let bottom_in = split (is_within d.bottom) (list_all is_within (d.axial ∷ [])) z0_in.1 in
    let axial_in = split (is_within d.axial) true bottom_in.1 in
    record { z0_within = z0_in.0; bottom_within = bottom_in.0; axial_within = axial_in.0 }
