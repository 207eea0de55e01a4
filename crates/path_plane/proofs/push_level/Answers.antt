use Rattle.std.proofs.Common.{rules, FitsSigned, w64, to_z, of_z}
use Rattle.std.proofs.lemmas.Int.{to_z-of_z}
use Rattle.path_blocks.specs.Numbers.{numbers_of}
use Rattle.path_plane.specs.Facing.{face_of}
use Rattle.path_plane.proofs.Puts.{level_put}
use Rattle.path_plane.proofs.push_level.Goals as goal

pub returns : goal.returns
returns c =
    let ret : FitsSigned w64 c.args.def.now.ret = search rules in
    level_put c.args.blocks.now.items c.push_rapid.new.blocks.items c.push_rows.new.blocks.items c.push_rapid-2.new.blocks.items (numbers_of c.args.def.now) (face_of c.args.facing.now)
    c.args.z (to_z w64 (of_z w64 c.args.z)) (to_z w64 (of_z w64 c.args.def.now.ret)) c.near_end.result c.last_end.result
    (to_z-of_z w64 c.args.z c.ranges.z) (to_z-of_z w64 c.args.def.now.ret ret) c.near_end.ensures.exact c.last_end.ensures c.in_ok-push_rapid.ensures c.in_ok-push_rows.ensures c.in_ok-push_rapid-2.ensures
