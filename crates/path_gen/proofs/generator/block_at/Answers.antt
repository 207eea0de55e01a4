use Rattle.std.proofs.Common.{◌≡◌, arith, rules, w64, to_z, of_z, FitsSigned}
use Rattle.std.proofs.lemmas.Int.{to_z-of_z}
use Rattle.path_blocks.specs.Numbers.{numbers_of}
use Rattle.path_blocks.specs.Path.{path_of}
use Rattle.path_blocks.specs.PathPlane.{path_plane}
use Rattle.path_blocks.specs.PathPocket.{path_pocket}
use Rattle.path_plane.specs.Facing.{face_of}
use Rattle.path_pocket.specs.Inset.{rectangle_of}
use Rattle.path_gen.proofs.Pieces.{told_as}
use Rattle.path_gen.proofs.Holes.{hole_told}
use Rattle.path_gen.proofs.generator.block_at.Goals as goal

pub returns-in-Drill : goal.returns-in-Drill
returns-in-Drill c =
    let x : FitsSigned w64 c.in-Drill.x = search rules in
    let y : FitsSigned w64 c.in-Drill.y = search rules in
    let dwell : FitsSigned w64 c.in-Drill.dwell = search rules in
    let same : c.from-index.result ≡ c.args.index = omega arith in
    hole_told c.args.def.now c.in-Drill.x c.in-Drill.y c.in-Drill.dwell (to_z w64 (of_z w64 c.in-Drill.x)) (to_z w64 (of_z w64 c.in-Drill.y)) (to_z w64 (of_z w64 c.in-Drill.dwell)) c.args.index c.from-index.result c.block.result
    c.in-Drill.is (to_z-of_z w64 c.in-Drill.x x) (to_z-of_z w64 c.in-Drill.y y) (to_z-of_z w64 c.in-Drill.dwell dwell) same c.block.ensures

pub returns-in-Plane : goal.returns-in-Plane
returns-in-Plane c =
    let same : c.from-index.result ≡ c.args.index = omega arith in
    told_as (path_of c.args.def.now) (path_plane (numbers_of c.args.def.now) (face_of c.of.result)) c.args.index c.from-index.result c.block-in-Plane.result c.of.ensures same c.block-in-Plane.ensures

pub returns-in-Pocket : goal.returns-in-Pocket
returns-in-Pocket c =
    let same : c.from-index.result ≡ c.args.index = omega arith in
    told_as (path_of c.args.def.now) (path_pocket (numbers_of c.args.def.now) (rectangle_of c.of-in-Pocket.result) c.of-in-Pocket.result.radial) c.args.index c.from-index.result c.block-in-Pocket.result c.of-in-Pocket.ensures same c.block-in-Pocket.ensures
