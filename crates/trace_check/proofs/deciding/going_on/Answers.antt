use Rattle.std.proofs.Common.{◌≡◌, ◌∙◌, ◌+◌, List, ℕ, subst, sym, ap, true, false}
use Rattle.exec_tree.specs.Exec.{AreDistinct, has}
use Rattle.exec_tree.specs.Said.{bare_of}
use Rattle.trace_law.specs.Below.{tree_in}
use Rattle.trace_law.specs.Next.{next}
use Rattle.trace_check.proofs.NextLemmas.{is_place, one_more, one_out, none_more, found_from, number_of_place}
use Rattle.trace_check.proofs.deciding.going_on.Goals.{in-Some+then-goes_on+in_ok-push, in-Some+else-goes_on, in_default}
use Rattle.trace_check.proofs.deciding.going_on.Goals as goal

pub goes_on-requires-clause-place : goal.goes_on-requires-clause-place
goes_on-requires-clause-place c =
    is_place c.args.tree.now.nodes c.loop-place.place (bare_of c.node_at.result.now) c.in-Some.n c.node_at.ensures c.in-Some.is (subst AreDistinct (sym c.nodes.ensures.preorder) c.nodes.ensures.distinct)

pub loop-place-preserved : goal.loop-place-preserved
loop-place-preserved c = λ t at.
    let arena = c.args.tree.now.nodes in
    let p = c.loop-place.place in
    let node = bare_of c.node_at.result.now in
    let test = has (next (tree_in c.args.tree.now) t) in
    let before = c.loop-place.invariant t at in
    elim c.match-node_at.branch [
      | in-Some+then-goes_on+in_ok-push w ↦
          let n = w.in-Some.n in
          let goes : test n ≡ true = ap test (sym (number_of_place arena p node n c.node_at.ensures w.in-Some.is)) ∙ (sym (w.goes_on.ensures t at) ∙ w.if-goes_on.true) in
          ap (λ (ns : List ℕ). found_from ns test arena (p + 1)) w.numbers-is
          ∙ (ap (λ (ns : List ℕ). found_from ns test arena (p + 1)) w.in_ok-push.ensures.ok
          ∙ (one_more c.loop-place.numbers test arena p node n c.node_at.ensures w.in-Some.is goes ∙ before))
      | in-Some+else-goes_on w ↦
          let n = w.in-Some.n in
          let stays : test n ≡ false = ap test (sym (number_of_place arena p node n c.node_at.ensures w.in-Some.is)) ∙ (sym (w.goes_on.ensures t at) ∙ w.if-goes_on.false) in
          ap (λ (ns : List ℕ). found_from ns test arena (p + 1)) w.numbers-is ∙ (one_out c.loop-place.numbers test arena p node n c.node_at.ensures w.in-Some.is stays ∙ before)
      | in_default w ↦
          ap (λ (ns : List ℕ). found_from ns test arena (p + 1)) w.numbers-is ∙ (none_more c.loop-place.numbers test arena p node c.node_at.ensures w.in_default.is ∙ before)
    ]
