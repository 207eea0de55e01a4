use Rattle.std.proofs.Common.{◌≡◌, ◌∙◌, ap, refl, subst, Bool, rules, ℕ, ◌+◌, ◌*◌, ◌/◌, min, ◌-ℤ◌, IsTrue, w64, FitsSigned, to_z, of_z, unsigned_abs, ℤ}
use Rattle.std.proofs.lemmas.Int.{to_z-of_z}
use Rattle.path_blocks.specs.declared.def.Shape.{Shape}
use Rattle.path_blocks.specs.declared.def.Shape.TheVariants.{Plane, Pocket}
use Rattle.path_blocks.specs.Range.{fits_shape}
use Rattle.path_blocks.specs.Count.{block_count, level_count, row_count}
use Rattle.path_blocks.proofs.Lengths.{is_path_length}
use Rattle.path_blocks.specs.ShapeRanges.{PlaneRanges, plane_ranges, PocketRanges, pocket_ranges}
use Rattle.path_blocks.proofs.Ranges.{within_back, positive_back}
use Rattle.path_blocks.proofs.count.block_count.Goals as goal
use Rattle.path_blocks.proofs.count.block_count.Goals.{In-Plane, In-Pocket, After-of_levels-in-Pocket}

plane : (c : In-Plane) → PlaneRanges c.in-Plane.x c.in-Plane.y c.in-Plane.ux c.in-Plane.uy c.in-Plane.length c.in-Plane.width c.in-Plane.step
plane c = plane_ranges c.in-Plane.x c.in-Plane.y c.in-Plane.ux c.in-Plane.uy c.in-Plane.length c.in-Plane.width c.in-Plane.step c.in-Plane.both (subst (λ (s : Shape). IsTrue (fits_shape s)) c.in-Plane.is c.requires.shaped)

pocket : (c : In-Pocket) → PocketRanges c.in-Pocket.left c.in-Pocket.low c.in-Pocket.right c.in-Pocket.high c.in-Pocket.radial
pocket c = pocket_ranges c.in-Pocket.left c.in-Pocket.low c.in-Pocket.right c.in-Pocket.high c.in-Pocket.radial (subst (λ (s : Shape). IsTrue (fits_shape s)) c.in-Pocket.is c.requires.shaped)

pub row_count-requires-clause-step : goal.row_count-requires-clause-step
row_count-requires-clause-step c =
    let f : FitsSigned w64 c.in-Plane.step = search rules in
    positive_back c.in-Plane.step f (plane (goal.at.row_count-requires-clause-step c).In-Plane).step_positive

pub row_count-requires-clause-width : goal.row_count-requires-clause-width
row_count-requires-clause-width c =
    let f : FitsSigned w64 c.in-Plane.width = search rules in
    positive_back c.in-Plane.width f (plane (goal.at.row_count-requires-clause-width c).In-Plane).width_positive

pub row_count-requires-clause-narrow : goal.row_count-requires-clause-narrow
row_count-requires-clause-narrow c =
    let f : FitsSigned w64 c.in-Plane.width = search rules in
    within_back c.in-Plane.width f (plane (goal.at.row_count-requires-clause-narrow c).In-Plane).width_within

pub side-requires-clause-from : goal.side-requires-clause-from
side-requires-clause-from c =
    let f : FitsSigned w64 c.in-Pocket.left = search rules in
    within_back c.in-Pocket.left f (pocket (goal.at.side-requires-clause-from c).In-Pocket).left_within

pub side-requires-clause-to : goal.side-requires-clause-to
side-requires-clause-to c =
    let f : FitsSigned w64 c.in-Pocket.right = search rules in
    within_back c.in-Pocket.right f (pocket (goal.at.side-requires-clause-to c).In-Pocket).right_within

pub side-requires-in-Pocket-clause-from : goal.side-requires-in-Pocket-clause-from
side-requires-in-Pocket-clause-from c =
    let f : FitsSigned w64 c.in-Pocket.low = search rules in
    within_back c.in-Pocket.low f (pocket (goal.at.side-requires-in-Pocket-clause-from c).In-Pocket).low_within

pub side-requires-in-Pocket-clause-to : goal.side-requires-in-Pocket-clause-to
side-requires-in-Pocket-clause-to c =
    let f : FitsSigned w64 c.in-Pocket.high = search rules in
    within_back c.in-Pocket.high f (pocket (goal.at.side-requires-in-Pocket-clause-to c).In-Pocket).high_within

pub last_ring-rings-requires-clause-radial : goal.last_ring-rings-requires-clause-radial
last_ring-rings-requires-clause-radial c =
    let f : FitsSigned w64 c.in-Pocket.radial = search rules in
    positive_back c.in-Pocket.radial f (pocket (goal.at.last_ring-rings-requires-clause-radial c).In-Pocket).radial_positive

levels_back : (z0 bottom axial : ℤ) → FitsSigned w64 z0 → FitsSigned w64 bottom → FitsSigned w64 axial
    → level_count (to_z w64 (of_z w64 z0)) (to_z w64 (of_z w64 bottom)) (to_z w64 (of_z w64 axial)) ≡ level_count z0 bottom axial
levels_back z0 bottom axial f g h = rw (to_z-of_z w64 z0 f, to_z-of_z w64 bottom g, to_z-of_z w64 axial h) refl

side_back : (from to : ℤ) → FitsSigned w64 from → FitsSigned w64 to → unsigned_abs (to_z w64 (of_z w64 to) -ℤ to_z w64 (of_z w64 from)) ≡ unsigned_abs (to -ℤ from)
side_back from to f g = rw (to_z-of_z w64 from f, to_z-of_z w64 to g) refl

plane_count : (levels rows result : ℕ) (z0 bottom axial : ℤ) (shape : Shape) (x y ux uy len width step : ℤ) (both : Bool) → levels ≡ level_count z0 bottom axial
    → rows ≡ row_count step width → result ≡ 3 + levels * (2 + 2 * rows) → shape ≡ Plane x y ux uy len width step both → result ≡ block_count z0 bottom axial shape
plane_count levels rows result z0 bottom axial shape x y ux uy len width step both l r e is = rw (is, e, r, l) refl

pocket_count : (levels side across rings result : ℕ) (z0 bottom axial : ℤ) (shape : Shape) (left low right high radial : ℤ)
    → levels ≡ level_count z0 bottom axial → side ≡ unsigned_abs (right -ℤ left) → across ≡ unsigned_abs (high -ℤ low) → rings ≡ min side across / (2 * unsigned_abs radial)
    → result ≡ 3 + levels * (2 + 5 * (rings + 1)) → shape ≡ Pocket left low right high radial → result ≡ block_count z0 bottom axial shape
pocket_count levels side across rings result z0 bottom axial shape left low right high radial l s a r e is = rw (is, e, r, l, s, a) refl

pub returns-in-Plane-clause-path : goal.returns-in-Plane-clause-path
returns-in-Plane-clause-path c =
    let width : FitsSigned w64 c.in-Plane.width = search rules in
    let step : FitsSigned w64 c.in-Plane.step = search rules in
    let levels = c.level_count-levels.ensures.exact ∙ levels_back c.args.z0 c.args.bottom c.args.axial c.ranges.z0 c.ranges.bottom c.ranges.axial in
    let rows = c.row_count.ensures.exact ∙ ap (λ (s : ℤ). row_count s (to_z w64 (of_z w64 c.in-Plane.width))) (to_z-of_z w64 c.in-Plane.step step) ∙ ap (λ (w : ℤ). row_count c.in-Plane.step w) (to_z-of_z w64 c.in-Plane.width width) in
    is_path_length c.args.z0 c.args.bottom c.args.axial c.args.shape.now c.of_levels.result
    (plane_count c.level_count-levels.result c.row_count.result c.of_levels.result c.args.z0 c.args.bottom c.args.axial c.args.shape.now _ _ _ _ _ _ _ _ levels rows c.of_levels.ensures c.in-Plane.is)

pocket_counted : (c : After-of_levels-in-Pocket) → c.of_levels-in-Pocket.result ≡ block_count c.args.z0 c.args.bottom c.args.axial c.args.shape.now
pocket_counted c =
    let left : FitsSigned w64 c.in-Pocket.left = search rules in
    let low : FitsSigned w64 c.in-Pocket.low = search rules in
    let right : FitsSigned w64 c.in-Pocket.right = search rules in
    let high : FitsSigned w64 c.in-Pocket.high = search rules in
    let radial : FitsSigned w64 c.in-Pocket.radial = search rules in
    let levels = c.level_count-levels.ensures.exact ∙ levels_back c.args.z0 c.args.bottom c.args.axial c.ranges.z0 c.ranges.bottom c.ranges.axial in
    let side = c.side.ensures.exact ∙ side_back c.in-Pocket.left c.in-Pocket.right left right in
    let across = c.side-in-Pocket.ensures.exact ∙ side_back c.in-Pocket.low c.in-Pocket.high low high in
    let rings = c.last_ring-rings.ensures.exact ∙ ap (λ (r : ℤ). min c.side.result c.side-in-Pocket.result / (2 * unsigned_abs r)) (to_z-of_z w64 c.in-Pocket.radial radial) in
    pocket_count c.level_count-levels.result c.side.result c.side-in-Pocket.result c.last_ring-rings.result c.of_levels-in-Pocket.result c.args.z0 c.args.bottom c.args.axial c.args.shape.now
    c.in-Pocket.left c.in-Pocket.low c.in-Pocket.right c.in-Pocket.high c.in-Pocket.radial levels side across rings c.of_levels-in-Pocket.ensures c.in-Pocket.is

pub returns-in-Pocket-clause-count : goal.returns-in-Pocket-clause-count
returns-in-Pocket-clause-count c = pocket_counted (goal.at.returns-in-Pocket-clause-count c).After-of_levels-in-Pocket

pub returns-in-Pocket-clause-path : goal.returns-in-Pocket-clause-path
returns-in-Pocket-clause-path c =
    is_path_length c.args.z0 c.args.bottom c.args.axial c.args.shape.now c.of_levels-in-Pocket.result (pocket_counted (goal.at.returns-in-Pocket-clause-path c).After-of_levels-in-Pocket)
