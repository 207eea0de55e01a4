use Rattle.std.proofs.Common.{◌≡◌, ◌∙◌, ℤ, sym, ap, ◌+◌, ◌-◌, ◌*◌, ◌<◌, length, arith, rules, w64, to_z, of_z, FitsSigned}
use Rattle.std.proofs.lemmas.Int.{to_z-of_z}
use Rattle.std.specs.Prelude.{slice_get}
use Rattle.std.specs.List.{flat_map}
use Rattle.path_blocks.specs.Numbers.{numbers_of}
use Rattle.path_blocks.specs.PathPlane.{last_end, row, rows}
use Rattle.path_plane.specs.Facing.{face_of}
use Rattle.path_gen.proofs.Faces.{level_row, level_last, rapid_told}
use Rattle.path_gen.proofs.face.level_block.Goals as goal

pub returns-then-index-row_count : goal.returns-then-index-row_count
returns-then-index-row_count c =
    let within : c.args.index - 1 < length (rows (face_of c.args.facing.now)) * 2 = omega arith in
    level_row (numbers_of c.args.def.now) (face_of c.args.facing.now) c.args.z c.args.index c.if-index-eq0.false within
    ∙ ap (λ (z : ℤ). slice_get (flat_map (row (numbers_of c.args.def.now) (face_of c.args.facing.now) z) (rows (face_of c.args.facing.now))) (c.args.index - 1)) (sym (to_z-of_z w64 c.args.z c.ranges.z))
    ∙ c.row_block.ensures

pub returns-else-index-row_count : goal.returns-else-index-row_count
returns-else-index-row_count c =
    let last : c.args.index ≡ 1 + length (rows (face_of c.args.facing.now)) * 2 = omega arith in
    let f : FitsSigned w64 c.args.def.now.ret = search rules in
    level_last (numbers_of c.args.def.now) (face_of c.args.facing.now) c.args.z c.args.index last
    ∙ rapid_told c.rapid-else-index-row_count.result c.args.def.now.ret (to_z w64 (of_z w64 c.args.def.now.ret)) (last_end (face_of c.args.facing.now)) c.last_end.result c.rapid-else-index-row_count.ensures (to_z-of_z w64 c.args.def.now.ret f) c.last_end.ensures
