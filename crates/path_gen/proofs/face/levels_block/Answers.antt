use Rattle.std.proofs.Common.{◌∙◌, sym, ap, ℤ, ◌+◌, ◌*◌, ◌%◌, arith, rules, w64, FitsSigned}
use Rattle.std.specs.Prelude.{slice_get}
use Rattle.std.proofs.lemmas.Int.{to_z-of_z}
use Rattle.std.proofs.Math.Nat.{mod-lt}
use Rattle.path_blocks.specs.Numbers.{numbers_of}
use Rattle.path_blocks.specs.PathPlane.{plane_level}
use Rattle.path_plane.specs.Facing.{face_of}
use Rattle.path_gen.proofs.Faces.{level_within, levels_at}
use Rattle.path_gen.proofs.face.levels_block.Goals as goal

pub level-requires : goal.level-requires
level-requires c = level_within (numbers_of c.args.def.now) (face_of c.args.facing.now) c.row_count-row_count.result c.args.index c.row_count-row_count.ensures.exact c.requires

pub level_block-requires-clause-index : goal.level_block-requires-clause-index
level_block-requires-clause-index c = mod-lt c.args.index (omega arith)

pub returns : goal.returns
returns c =
    let f : FitsSigned w64 c.level.result = search rules in
    levels_at (numbers_of c.args.def.now) (face_of c.args.facing.now) c.row_count-row_count.result c.args.index c.level.result c.row_count-row_count.ensures.exact c.level.ensures
    ∙ ap (λ (z : ℤ). slice_get (plane_level (numbers_of c.args.def.now) (face_of c.args.facing.now) z) (c.args.index % (2 + 2 * c.row_count-row_count.result))) (sym (to_z-of_z w64 c.level.result f))
    ∙ c.level_block.ensures
