use Rattle.std.proofs.Common.{rules, arith, ◌+◌, ◌<◌, ◌^◌, ◌∙◌, ap, subst, sym, refl, [], ◌∷◌, ◌++◌, length, List, ℕ, false, ◌≡◌, Some}
use Rattle.std.specs.Ordering.{nat_cmp}
use Rattle.std.specs.BTreeMap.{Updates}
use Rattle.exec_tree.specs.Exec.{has}
use Rattle.exec_tree.specs.Arena.{numbers_in}
use Rattle.exec_tree.specs.declared.node.BareNode.{BareNode}
use Rattle.exec_tree.specs.Walked.{Walked, AreKnown}
use Rattle.exec_tree.proofs.PlaceLemmas.{known_more}
use Rattle.exec_tree.proofs.walk.Walk.push.Goals as goal

pub invariant_of-self-2 : goal.invariant_of-self-2
invariant_of-self-2 c =
    let nodes = c.self.inside.nodes.items in
    let node : BareNode = record { number = Some c.args.n; channel = c.args.channel; kind = c.args.kind; elements = c.new.result } in
    let is : c.len-place.result ≡ length nodes = search rules in
    let room : length nodes + 1 < 2 ^ 32 = omega (arith, c.if-place.false, is) in
    let fresh = subst (λ (w : Walked). has (numbers_in w.nodes) c.args.n ≡ false) (sym c.self.view_is) c.requires in
    let up = subst (λ (p : ℕ). Updates nat_cmp c.self.inside.places c.insert.new.self c.args.n (Some p)) (search rules) c.in_ok-insert.ensures.updates in
    subst (λ (ns : List BareNode). AreKnown c.insert.new.self ns c.self.inside.weight c.self.inside.channels) (sym (c.push_reserved.ensures.items ∙ ap (λ (ns : List BareNode). ns ++ node ∷ []) c.in_ok-reserve.ensures.items))
    (known_more c.self.inside.places c.insert.new.self nodes c.self.inside.weight c.self.inside.channels c.args.n node c.self.invariant fresh up refl room)
