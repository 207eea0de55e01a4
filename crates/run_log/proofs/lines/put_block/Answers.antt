use Rattle.std.proofs.Common.{◌≡◌, ◌∷◌, ◌++◌, rules, refl}
use Rattle.std.specs.Int.{w64}
use Rattle.std.specs.Fmt.{signed_decimal}
use Rattle.std.proofs.lemmas.Int.{to_z-of_z}
use mir.Val.{SFits}
use Rattle.run_log.proofs.Fronts.{put_twice, feed_line}
use Rattle.run_log.proofs.lines.put_block.Goals as goal

pub returns-in-Feed-clause-items : goal.returns-in-Feed-clause-items
returns-in-Feed-clause-items c =
    let x : SFits w64 c.in-Feed.x = search rules in
    let y : SFits w64 c.in-Feed.y = search rules in
    let z : SFits w64 c.in-Feed.z = search rules in
    let f : SFits w64 c.in-Feed.f = search rules in
    let feed : c.put_feed.new.line.items ≡ c.put-in-Feed.new.line.items ++ (32 ∷ signed_decimal c.in-Feed.x ++ (32 ∷ signed_decimal c.in-Feed.y ++ (32 ∷ signed_decimal c.in-Feed.z ++ 32 ∷ signed_decimal c.in-Feed.f))) =
    simp to_z-of_z at c.put_feed.ensures.items in
    let words = put_twice _ _ _ _ _ _ c.put-in-Feed.ensures.items feed refl in
    rw c.in-Feed.is (feed_line _ _ _ _ _ _ words)
