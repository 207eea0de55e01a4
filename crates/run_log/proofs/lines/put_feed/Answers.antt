use Rattle.std.proofs.Common.{◌≡◌, ◌∷◌, ◌++◌}
use Rattle.std.specs.Fmt.{signed_decimal}
use Rattle.std.proofs.lemmas.Int.{to_z-of_z}
use Rattle.run_log.proofs.Fronts.{point_and_feed}
use Rattle.run_log.proofs.lines.put_feed.Goals as goal

pub returns-clause-items : goal.returns-clause-items
returns-clause-items c =
    let x = c.ranges.x in
    let y = c.ranges.y in
    let z = c.ranges.z in
    let f = c.ranges.f in
    let point : c.put_point.new.line.items ≡ c.args.line.now.items ++ (32 ∷ signed_decimal c.args.x ++ (32 ∷ signed_decimal c.args.y ++ 32 ∷ signed_decimal c.args.z)) = simp to_z-of_z at c.put_point.ensures.items in
    let feed : c.put_length.new.line.items ≡ c.put_point.new.line.items ++ 32 ∷ signed_decimal c.args.f = simp to_z-of_z at c.put_length.ensures.items in
    point_and_feed _ _ _ _ _ _ _ point feed
