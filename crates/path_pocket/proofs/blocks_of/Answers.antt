use Rattle.std.proofs.Common.{rules, ◌∙◌, ap, ℕ, FitsSigned, w64, to_z, of_z, List, [], ◌∷◌, ◌++◌}
use Rattle.std.proofs.lemmas.Int.{to_z-of_z}
use Rattle.path_blocks.specs.declared.block.Block.{Block}
use Rattle.path_blocks.specs.declared.block.Block.TheVariants.{Tool}
use Rattle.path_blocks.specs.Numbers.{numbers_of}
use Rattle.path_blocks.specs.PathPocket.{ring}
use Rattle.path_pocket.specs.Inset.{rectangle_of, rectangle_between}
use Rattle.path_pocket.proofs.Puts.{path_put}
use Rattle.path_pocket.proofs.blocks_of.Goals as goal

pub returns : goal.returns
returns c =
    let spindle : FitsSigned w64 c.args.def.now.spindle = search rules in
    let sec : FitsSigned w64 c.args.def.now.sec = search rules in
    path_put c.push.new.self.items c.push_rapid.new.blocks.items c.push_levels.new.blocks.items c.push_rapid-2.new.blocks.items (numbers_of c.args.def.now) (rectangle_of c.args.inset.now)
    (rectangle_between c.ring.result) (rectangle_between c.corners.result) c.args.inset.now.radial (to_z w64 (of_z w64 c.args.def.now.spindle)) (to_z w64 (of_z w64 c.args.def.now.sec))
    (to_z-of_z w64 c.args.def.now.spindle spindle) (to_z-of_z w64 c.args.def.now.sec sec)
    (c.ring.ensures ∙ ap (λ (j : ℕ). ring (rectangle_of c.args.inset.now) c.args.inset.now.radial j) c.innermost.ensures.exact) c.corners.ensures
    (c.in_ok-push.ensures.items ∙ ap (λ (bs : List Block). bs ++ Tool c.args.def.now.tool (to_z w64 (of_z w64 c.args.def.now.spindle)) ∷ []) c.in_ok-blocks.ensures.items)
    c.in_ok-push_rapid.ensures c.in_ok-push_levels.ensures c.in_ok-push_rapid-2.ensures
