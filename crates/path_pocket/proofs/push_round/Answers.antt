use Rattle.std.proofs.Common.{rules, FitsSigned, w64, to_z, of_z}
use Rattle.std.proofs.lemmas.Int.{to_z-of_z}
use Rattle.path_blocks.specs.Numbers.{numbers_of}
use Rattle.path_pocket.specs.Inset.{rectangle_between}
use Rattle.path_pocket.proofs.Puts.{round_put}
use Rattle.path_pocket.proofs.push_round.Goals as goal

pub returns : goal.returns
returns c =
    let left : FitsSigned w64 c.args.corners.now.left = search rules in
    let low : FitsSigned w64 c.args.corners.now.low = search rules in
    let right : FitsSigned w64 c.args.corners.now.right = search rules in
    let high : FitsSigned w64 c.args.corners.now.high = search rules in
    let feed : FitsSigned w64 c.args.def.now.feed = search rules in
    round_put c.args.blocks.now.items c.push_feed.new.blocks.items c.push_feed-2.new.blocks.items c.push_feed-3.new.blocks.items c.push_feed-4.new.blocks.items c.push_feed-5.new.blocks.items
    (numbers_of c.args.def.now) (rectangle_between c.args.corners.now) c.args.z
    (to_z w64 (of_z w64 c.args.corners.now.left)) (to_z w64 (of_z w64 c.args.corners.now.low)) (to_z w64 (of_z w64 c.args.corners.now.right)) (to_z w64 (of_z w64 c.args.corners.now.high)) (to_z w64 (of_z w64 c.args.z)) (to_z w64 (of_z w64 c.args.def.now.feed))
    (to_z-of_z w64 c.args.corners.now.left left) (to_z-of_z w64 c.args.corners.now.low low) (to_z-of_z w64 c.args.corners.now.right right) (to_z-of_z w64 c.args.corners.now.high high) (to_z-of_z w64 c.args.z c.ranges.z) (to_z-of_z w64 c.args.def.now.feed feed)
    c.in_ok-push_feed.ensures c.in_ok-push_feed-2.ensures c.in_ok-push_feed-3.ensures c.in_ok-push_feed-4.ensures c.in_ok-push_feed-5.ensures
