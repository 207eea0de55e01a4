use Rattle.std.proofs.Common.{◌≡◌, ◌∙◌, ap, ℤ, ◌++◌, w64, arith, length, FitsSigned, rules}
use Rattle.std.proofs.lemmas.Int.{to_z-of_z}
use Rattle.path_blocks.specs.Numbers.{numbers_of, levels}
use Rattle.path_blocks.specs.PathPlane.{plane_level}
use Rattle.path_plane.specs.Facing.{face_of}
use Rattle.path_plane.proofs.Pieces.{piece_more, piece_all}
use Rattle.path_plane.proofs.push_levels.Goals as goal

pub loop-index-preserved : goal.loop-index-preserved
loop-index-preserved c =
    let f : FitsSigned w64 c.level.result = search rules in
    piece_more (plane_level (numbers_of c.args.def.now) (face_of c.args.facing.now)) c.args.blocks.now.items c.loop-index.blocks.items c.push_level.new.blocks.items (levels (numbers_of c.args.def.now)) c.loop-index.index
    c.level.result c.level.ensures c.loop-index.invariant
    (c.in_ok-push_level.ensures ∙ ap (λ (z : ℤ). c.loop-index.blocks.items ++ plane_level (numbers_of c.args.def.now) (face_of c.args.facing.now) z) (to_z-of_z w64 c.level.result f))

pub returns : goal.returns
returns c =
    let all : c.loop-index.index ≡ length (levels (numbers_of c.args.def.now)) = omega arith in
    piece_all (plane_level (numbers_of c.args.def.now) (face_of c.args.facing.now)) c.args.blocks.now.items c.loop-index.blocks.items (levels (numbers_of c.args.def.now)) c.loop-index.index all c.loop-index.invariant
