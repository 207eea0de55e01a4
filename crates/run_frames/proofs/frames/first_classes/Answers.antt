use Rattle.std.proofs.Common.{◌≡◌, ◌∙◌, ◌<◌, ◌+◌, [], ap, sym, subst, arith, ℕ, false, List, length}
use Rattle.std.specs.Prelude.{slice_get, Some}
use Rattle.std.proofs.lemmas.Option.{slice_get_within}
use Rattle.exec_tree.specs.Built.{role_in}
use Rattle.exec_tree.specs.declared.node.BareNode.{BareNode}
use Rattle.exec_tree.specs.declared.role.Role.{Role}
use Rattle.tree_table.specs.Placed.{number_at}
use Rattle.place_classes.specs.declared.class.Class.{Class}
use Rattle.place_classes.specs.Classes.{IsClass, class_at}
use Rattle.run_frames.specs.Ready.{class_in, class_of}
use Rattle.run_frames.proofs.ReadyLemmas.{first_more, class_one, one_longer}
use Rattle.run_frames.proofs.frames.first_classes.Goals as goal

pub loop-place-preserved : goal.loop-place-preserved
loop-place-preserved c =
    let t = c.args.tree.now in
    let p = c.loop-place.place in
    let old = c.loop-place.classes.items in
    let k = c.first_class.result in
    let items = c.in_ok-push.ensures.items in
    let number : c.number_at-number.result ≡ number_at t.nodes p = c.number_at-number.ensures ∙ ap (λ (w : List BareNode). number_at w p) c.nodes-arena.ensures.nodes in
    let is : k ≡ class_of t [] [] (number_at t.nodes p) =
    c.first_class.ensures.same ∙ (ap (λ (r : Role). class_in r c.channel.result false []) c.role.ensures ∙ (ap (λ (n : ℕ). class_in (role_in t c.number_at-number.result) n false []) c.channel.ensures ∙ ap (class_of t [] []) number)) in (
      ap (λ (l : List Class). length l) items ∙ one_longer old k p c.loop-place.invariant.0,
      subst (λ (l : List Class). (q : ℕ) (node : BareNode) (n : ℕ) → q < p + 1 → slice_get t.nodes q ≡ Some node → node.number ≡ Some n → class_at l q ≡ class_of t [] [] n) (sym items) (first_more t old k p c.loop-place.invariant.0 is c.loop-place.invariant.1),
      subst (λ (l : List Class). (q : ℕ) → IsClass (class_at l q)) (sym items) (class_one old k c.first_class.ensures.one c.loop-place.invariant.2),
    )

pub returns-clause-each : goal.returns-clause-each
returns-clause-each c = λ q node n at number.
    let within = slice_get_within c.args.tree.now.nodes q node at in
    c.loop-place.invariant.1 q node n (let count = c.len-place-end.ensures in omega (arith, within, count, c.loop-place-test.false)) at number
