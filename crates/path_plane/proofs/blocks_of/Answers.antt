use Rattle.std.proofs.Common.{rules, ◌∙◌, ap, FitsSigned, w64, to_z, of_z}
use Rattle.std.proofs.lemmas.Int.{to_z-of_z}
use Rattle.std.proofs.Common.{List, [], ◌∷◌, ◌++◌}
use Rattle.path_blocks.specs.declared.block.Block.{Block}
use Rattle.path_blocks.specs.declared.block.Block.TheVariants.{Tool}
use Rattle.path_blocks.specs.Numbers.{numbers_of}
use Rattle.path_plane.specs.Facing.{face_of}
use Rattle.path_plane.proofs.Puts.{path_put}
use Rattle.path_plane.proofs.blocks_of.Goals as goal

pub returns : goal.returns
returns c =
    let spindle : FitsSigned w64 c.args.def.now.spindle = search rules in
    let sec : FitsSigned w64 c.args.def.now.sec = search rules in
    path_put c.push.new.self.items c.push_rapid.new.blocks.items c.push_levels.new.blocks.items c.push_rapid-2.new.blocks.items (numbers_of c.args.def.now) (face_of c.args.facing.now)
    (to_z w64 (of_z w64 c.args.def.now.spindle)) (to_z w64 (of_z w64 c.args.def.now.sec)) c.near_end.result c.last_end.result
    (to_z-of_z w64 c.args.def.now.spindle spindle) (to_z-of_z w64 c.args.def.now.sec sec) c.near_end.ensures.exact c.last_end.ensures (c.in_ok-push.ensures.items ∙ ap (λ (bs : List Block). bs ++ Tool c.args.def.now.tool (to_z w64 (of_z w64 c.args.def.now.spindle)) ∷ []) c.in_ok-blocks.ensures.items) c.in_ok-push_rapid.ensures c.in_ok-push_levels.ensures c.in_ok-push_rapid-2.ensures
