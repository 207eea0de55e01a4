use Rattle.std.proofs.Common.{rules, arith, ◌≡◌, ◌+◌, ◌<◌, ◌^◌, length, subst, sym, refl, List}
use Rattle.exec_tree.specs.Walked.{AreKnown}
use Rattle.exec_tree.specs.declared.node.BareNode.{BareNode}
use Rattle.exec_tree.proofs.PlaceLemmas.{known_blank}
use Rattle.exec_tree.proofs.walk.Walk.push_blank.Goals as goal

pub invariant_of-self-2 : goal.invariant_of-self-2
invariant_of-self-2 c =
    let nodes = c.self.inside.nodes.items in
    let is : c.len-place.result ≡ length nodes = search rules in
    let room : length nodes + 1 < 2 ^ 32 = omega (arith, c.if-place.false, is) in
    subst (λ (ns : List BareNode). AreKnown c.self.inside.places ns c.self.inside.weight c.self.inside.channels) (sym c.in_ok-push.ensures.items)
    (known_blank c.self.inside.places c.self.inside.nodes.items c.self.inside.weight c.self.inside.channels _ c.self.invariant refl room)
