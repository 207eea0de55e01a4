use Rattle.std.proofs.Common.{◌≡◌, ◌∙◌, sym, ap, arith, rules, w64, to_z, of_z, FitsSigned, Some}
use Rattle.std.proofs.lemmas.Int.{to_z-of_z}
use Rattle.path_blocks.specs.declared.block.Block.{Block}
use Rattle.path_blocks.specs.Numbers.{numbers_of}
use Rattle.path_blocks.specs.PathPlane.{last_end, near_end}
use Rattle.path_plane.specs.Facing.{face_of}
use Rattle.path_gen.proofs.Faces.{levels_within, path_tool, path_over, path_levels, path_end, rapid_told}
use Rattle.path_gen.proofs.face.block.Goals as goal

pub levels_block-requires : goal.levels_block-requires
levels_block-requires c =
    let none : c.args.index ≡ 0 → ⊥ = λ e. absurd (omega arith) in
    let one : c.args.index ≡ 1 → ⊥ = λ e. absurd (omega arith) in
    levels_within (numbers_of c.args.def.now) (face_of c.args.facing.now) c.args.index c.args.last c.requires.counted none one (omega arith)

pub returns-in-0 : goal.returns-in-0
returns-in-0 c = path_tool (numbers_of c.args.def.now) (face_of c.args.facing.now) c.args.index c.in-0.is ∙ ap (λ (b : Block). Some b) (sym c.tool_block.ensures)

pub returns-in-1 : goal.returns-in-1
returns-in-1 c =
    let f : FitsSigned w64 c.args.def.now.sec = search rules in
    path_over (numbers_of c.args.def.now) (face_of c.args.facing.now) c.args.index c.in-1.is
    ∙ rapid_told c.rapid.result c.args.def.now.sec (to_z w64 (of_z w64 c.args.def.now.sec)) (near_end (face_of c.args.facing.now) 0) c.near_end.result c.rapid.ensures (to_z-of_z w64 c.args.def.now.sec f) c.near_end.ensures.exact

pub returns-in_default : goal.returns-in_default
returns-in_default c =
    let none : c.args.index ≡ 0 → ⊥ = λ e. absurd (omega arith) in
    let one : c.args.index ≡ 1 → ⊥ = λ e. absurd (omega arith) in
    path_levels (numbers_of c.args.def.now) (face_of c.args.facing.now) c.args.index none one
    (levels_within (numbers_of c.args.def.now) (face_of c.args.facing.now) c.args.index c.args.last c.requires.counted none one (omega arith))
    ∙ c.levels_block.ensures

pub returns-in_default-2 : goal.returns-in_default-2
returns-in_default-2 c =
    let last : c.args.index ≡ c.args.last = omega arith in
    let f : FitsSigned w64 c.args.def.now.sec = search rules in
    path_end (numbers_of c.args.def.now) (face_of c.args.facing.now) c.args.index c.args.last c.requires.counted last
    ∙ rapid_told c.rapid-in_default-2.result c.args.def.now.sec (to_z w64 (of_z w64 c.args.def.now.sec)) (last_end (face_of c.args.facing.now)) c.last_end.result c.rapid-in_default-2.ensures (to_z-of_z w64 c.args.def.now.sec f) c.last_end.ensures
