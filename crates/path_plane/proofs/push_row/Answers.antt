use Rattle.std.proofs.Common.{w64, to_z, of_z}
use Rattle.std.proofs.lemmas.Int.{to_z-of_z}
use Rattle.path_blocks.specs.Numbers.{numbers_of}
use Rattle.path_plane.specs.Facing.{face_of}
use Rattle.path_plane.proofs.Puts.{row_put}
use Rattle.path_plane.proofs.push_row.Goals as goal

pub returns : goal.returns
returns c =
    row_put c.args.blocks.now.items c.push_feed.new.blocks.items c.push_feed-2.new.blocks.items (numbers_of c.args.def.now) (face_of c.args.facing.now) c.args.z (to_z w64 (of_z w64 c.args.z)) c.args.index c.args.offset
    c.row_start.result c.row_end.result (to_z-of_z w64 c.args.z c.ranges.z) c.row_start.ensures c.row_end.ensures c.in_ok-push_feed.ensures c.in_ok-push_feed-2.ensures
