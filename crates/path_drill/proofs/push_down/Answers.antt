use Rattle.std.proofs.Common.{append_assoc, arith}
use Rattle.std.proofs.lemmas.Int.{ints, to_z-of_z}
use Rattle.path_drill.proofs.push_down.Goals as goal

pub returns : goal.returns
returns c =
    rw (c.in_ok-push-4.ensures.items, c.in_ok-push-3.ensures.items, c.in_ok-push-2.ensures.items, c.in_ok-push.ensures.items)
    (simp append_assoc (grind (arith, ints, to_z-of_z)))
