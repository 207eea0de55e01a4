use Rattle.std.proofs.Common.{◌∙◌, ◌/◌, ◌%◌, ℤ, sym, ap, refl, arith, w64}
use Rattle.std.specs.Prelude.{slice_get}
use Rattle.std.proofs.lemmas.Int.{to_z-of_z}
use Rattle.path_blocks.specs.Numbers.{numbers_of}
use Rattle.path_blocks.specs.PathPlane.{row, rows}
use Rattle.path_plane.specs.Facing.{face_of}
use Rattle.path_gen.proofs.Pieces.{of_pieces}
use Rattle.path_gen.proofs.face.row_block.Goals as goal

pub returns : goal.returns
returns c =
    of_pieces (row (numbers_of c.args.def.now) (face_of c.args.facing.now) c.args.z) 2 (omega arith) (λ r. refl) (rows (face_of c.args.facing.now)) c.args.index (c.args.index / 2, c.offset.result) c.offset.ensures.exact
    ∙ ap (λ (z : ℤ). slice_get (row (numbers_of c.args.def.now) (face_of c.args.facing.now) z (c.args.index / 2, c.offset.result)) (c.args.index % 2)) (sym (to_z-of_z w64 c.args.z c.ranges.z))
    ∙ c.end_block.ensures
