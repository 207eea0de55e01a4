use Rattle.std.proofs.Common.{◌≡◌, ◌∙◌, ap, ℤ, ◌++◌, w64, to_z, of_z, arith, length}
use Rattle.std.proofs.lemmas.Int.{to_z-of_z}
use Rattle.std.specs.List.{flat_map}
use Rattle.path_blocks.specs.Numbers.{numbers_of}
use Rattle.path_blocks.specs.PathPlane.{row, rows}
use Rattle.path_plane.specs.Facing.{face_of}
use Rattle.path_plane.proofs.Pieces.{piece_more, piece_all}
use Rattle.path_plane.proofs.push_rows.Goals as goal

pub loop-index-preserved : goal.loop-index-preserved
loop-index-preserved c =
    piece_more (row (numbers_of c.args.def.now) (face_of c.args.facing.now) (to_z w64 (of_z w64 c.args.z))) c.args.blocks.now.items c.loop-index.blocks.items c.push_row.new.blocks.items (rows (face_of c.args.facing.now)) c.loop-index.index
    (c.loop-index.index, c.offset.result) c.offset.ensures.exact c.loop-index.invariant c.in_ok-push_row.ensures

pub returns : goal.returns
returns c =
    let all : c.loop-index.index ≡ length (rows (face_of c.args.facing.now)) = omega arith in
    piece_all (row (numbers_of c.args.def.now) (face_of c.args.facing.now) (to_z w64 (of_z w64 c.args.z))) c.args.blocks.now.items c.loop-index.blocks.items (rows (face_of c.args.facing.now)) c.loop-index.index all c.loop-index.invariant
    ∙ ap (λ (z : ℤ). c.args.blocks.now.items ++ flat_map (row (numbers_of c.args.def.now) (face_of c.args.facing.now) z) (rows (face_of c.args.facing.now))) (to_z-of_z w64 c.args.z c.ranges.z)
