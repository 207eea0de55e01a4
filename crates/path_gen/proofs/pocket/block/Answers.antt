use Rattle.std.proofs.Common.{◌≡◌, ◌∙◌, ℕ, sym, ap, arith, rules, w64, to_z, of_z, FitsSigned, Some}
use Rattle.std.proofs.lemmas.Int.{to_z-of_z}
use Rattle.path_blocks.specs.declared.block.Block.{Block}
use Rattle.path_blocks.specs.Numbers.{numbers_of}
use Rattle.path_blocks.specs.PathPocket.{innermost, ring}
use Rattle.path_pocket.specs.Inset.{rectangle_of, rectangle_between}
use Rattle.path_gen.proofs.Pockets.{levels_within, path_tool, path_over, path_levels, path_end, rapid_told}
use Rattle.path_gen.proofs.pocket.block.Goals as goal

pub levels_block-requires : goal.levels_block-requires
levels_block-requires c =
    let none : c.args.index ≡ 0 → ⊥ = λ e. absurd (omega arith) in
    let one : c.args.index ≡ 1 → ⊥ = λ e. absurd (omega arith) in
    levels_within (numbers_of c.args.def.now) (rectangle_of c.args.inset.now) c.args.inset.now.radial c.args.index c.args.last c.requires.counted none one (omega arith)

pub returns-in-0 : goal.returns-in-0
returns-in-0 c = path_tool (numbers_of c.args.def.now) (rectangle_of c.args.inset.now) c.args.inset.now.radial c.args.index c.in-0.is ∙ ap (λ (b : Block). Some b) (sym c.tool_block.ensures)

pub returns-in-1 : goal.returns-in-1
returns-in-1 c =
    let f : FitsSigned w64 c.args.def.now.sec = search rules in
    path_over (numbers_of c.args.def.now) (rectangle_of c.args.inset.now) c.args.inset.now.radial c.args.index c.in-1.is
    ∙ rapid_told c.rapid.result c.args.def.now.sec (to_z w64 (of_z w64 c.args.def.now.sec)) (ring (rectangle_of c.args.inset.now) c.args.inset.now.radial (innermost (rectangle_of c.args.inset.now) c.args.inset.now.radial)) (rectangle_between c.ring.result) c.rapid.ensures (to_z-of_z w64 c.args.def.now.sec f)
    (c.ring.ensures ∙ ap (λ (j : ℕ). ring (rectangle_of c.args.inset.now) c.args.inset.now.radial j) c.innermost.ensures.exact)

pub returns-in_default : goal.returns-in_default
returns-in_default c =
    let none : c.args.index ≡ 0 → ⊥ = λ e. absurd (omega arith) in
    let one : c.args.index ≡ 1 → ⊥ = λ e. absurd (omega arith) in
    path_levels (numbers_of c.args.def.now) (rectangle_of c.args.inset.now) c.args.inset.now.radial c.args.index none one
    (levels_within (numbers_of c.args.def.now) (rectangle_of c.args.inset.now) c.args.inset.now.radial c.args.index c.args.last c.requires.counted none one (omega arith))
    ∙ c.levels_block.ensures

pub returns-in_default-2 : goal.returns-in_default-2
returns-in_default-2 c =
    let last : c.args.index ≡ c.args.last = omega arith in
    let f : FitsSigned w64 c.args.def.now.sec = search rules in
    path_end (numbers_of c.args.def.now) (rectangle_of c.args.inset.now) c.args.inset.now.radial c.args.index c.args.last c.requires.counted last
    ∙ rapid_told c.rapid-in_default-2.result c.args.def.now.sec (to_z w64 (of_z w64 c.args.def.now.sec)) (rectangle_of c.args.inset.now) (rectangle_between c.corners.result) c.rapid-in_default-2.ensures (to_z-of_z w64 c.args.def.now.sec f) c.corners.ensures
