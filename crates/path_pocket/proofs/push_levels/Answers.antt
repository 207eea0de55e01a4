use Rattle.std.proofs.Common.{rules, arith, ◌≡◌, ◌∙◌, ap, ℤ, FitsSigned, w64, ◌++◌, length}
use Rattle.std.proofs.lemmas.Int.{to_z-of_z}
use Rattle.path_blocks.specs.Numbers.{numbers_of, levels}
use Rattle.path_blocks.specs.PathPocket.{pocket_level}
use Rattle.path_pocket.specs.Inset.{rectangle_of}
use Rattle.path_pocket.proofs.Pieces.{piece_more, piece_all}
use Rattle.path_pocket.proofs.push_levels.Goals as goal

pub loop-index-preserved : goal.loop-index-preserved
loop-index-preserved c =
    let f : FitsSigned w64 c.level.result = search rules in
    piece_more (pocket_level (numbers_of c.args.def.now) (rectangle_of c.args.inset.now) c.args.inset.now.radial) c.args.blocks.now.items c.loop-index.blocks.items c.push_level.new.blocks.items (levels (numbers_of c.args.def.now)) c.loop-index.index
    c.level.result c.level.ensures c.loop-index.invariant
    (c.in_ok-push_level.ensures ∙ ap (λ (z : ℤ). c.loop-index.blocks.items ++ pocket_level (numbers_of c.args.def.now) (rectangle_of c.args.inset.now) c.args.inset.now.radial z) (to_z-of_z w64 c.level.result f))

pub returns : goal.returns
returns c =
    let all : c.loop-index.index ≡ length (levels (numbers_of c.args.def.now)) = omega arith in
    piece_all (pocket_level (numbers_of c.args.def.now) (rectangle_of c.args.inset.now) c.args.inset.now.radial) c.args.blocks.now.items c.loop-index.blocks.items (levels (numbers_of c.args.def.now)) c.loop-index.index all c.loop-index.invariant
