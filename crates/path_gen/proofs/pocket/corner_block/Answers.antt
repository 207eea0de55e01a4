use Rattle.std.proofs.Common.{◌≡◌, ◌∙◌, arith, rules, w64, to_z, of_z, FitsSigned}
use Rattle.std.proofs.lemmas.Int.{to_z-of_z}
use Rattle.path_blocks.specs.Numbers.{numbers_of}
use Rattle.path_pocket.specs.Inset.{rectangle_between}
use Rattle.path_gen.proofs.Pockets.{corner_home, feed_told}
use Rattle.path_gen.proofs.pocket.corner_block.Goals as goal

pub returns-in_default : goal.returns-in_default
returns-in_default c =
    let one : c.args.index ≡ 1 → ⊥ = λ e. absurd (omega arith) in
    let two : c.args.index ≡ 2 → ⊥ = λ e. absurd (omega arith) in
    let three : c.args.index ≡ 3 → ⊥ = λ e. absurd (omega arith) in
    let left : FitsSigned w64 c.args.corners.now.left = search rules in
    let low : FitsSigned w64 c.args.corners.now.low = search rules in
    corner_home (numbers_of c.args.def.now) (rectangle_between c.args.corners.now) c.args.z c.args.index c.requires one two three
    ∙ feed_told c.feed-in_default.result c.args.corners.now.left c.args.corners.now.low c.args.z c.args.def.now.feed (to_z w64 (of_z w64 c.args.corners.now.left)) (to_z w64 (of_z w64 c.args.corners.now.low)) (to_z w64 (of_z w64 c.args.z))
    c.feed-in_default.ensures (to_z-of_z w64 c.args.corners.now.left left) (to_z-of_z w64 c.args.corners.now.low low) (to_z-of_z w64 c.args.z c.ranges.z)
