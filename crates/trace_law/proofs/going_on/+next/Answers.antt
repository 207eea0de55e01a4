use Rattle.std.proofs.Common.{◌≡◌, ◌∙◌, ◌<◌, ◌-◌, ap, sym, subst, arith, map, List, ℕ}
use Rattle.std.specs.Prelude.{option_copied, IfOk}
use Rattle.exec_tree.specs.Exec.{Exec, NonSeq}
use Rattle.exec_tree.specs.Arena.{of_kind, to_execs}
use Rattle.exec_tree.specs.Said.{bare_of}
use Rattle.exec_tree.specs.declared.kind.Kind.{Kind}
use Rattle.trace_law.specs.Next.{next}
use Rattle.trace_law.specs.Below.{trees_down}
use Rattle.trace_law.proofs.ArenaLemmas.{down_zero, down_none, down_node, number_is, seen_none, seen_some}
use Rattle.trace_law.proofs.LoopLemmas.{next_place, next_none}
use Rattle.trace_law.proofs.going_on.+next.Goals as goal

pub next_down-returns-then-levels-eq0 : goal.next_down-returns-then-levels-eq0
next_down-returns-then-levels-eq0 t c =
    c.new.ensures.items ∙ sym (ap (λ (e : Exec). next e c.args.t.now) (down_zero (map bare_of c.args.arena.now) c.args.levels c.args.place c.if-levels-eq0.true))

pub next_down-returns-in_default : goal.next_down-returns-in_default
next_down-returns-in_default t c =
    let some : 0 < c.args.levels = omega (arith, c.if-levels-eq0.false) in
    let at = seen_none c.args.arena.now c.args.place _ c.node_at.ensures (ap option_copied c.in_default.is) in
    c.new-in_default.ensures.items ∙ sym (ap (λ (e : Exec). next e c.args.t.now) (down_none (map bare_of c.args.arena.now) c.args.levels c.args.place some at))

pub next_down-returns : goal.next_down-returns
next_down-returns t c =
    let some : 0 < c.args.levels = omega (arith, c.if-levels-eq0.false) in
    let arena = map bare_of c.args.arena.now in
    let node = c.in-Some.node.now in
    let at = seen_some c.args.arena.now c.args.place _ node c.node_at.ensures (ap option_copied c.in-Some.is) in
    subst (λ (e : Exec). IfOk c.next_of_kind.result (λ v. v.items ≡ next e c.args.t.now)) (sym (down_node arena c.args.levels c.args.place (bare_of node) some at))
    (subst (λ (k : Kind). IfOk c.next_of_kind.result (λ v. v.items ≡ next (of_kind k node.number (trees_down arena (c.args.levels - 1) node.elements)) c.args.t.now)) c.kind.ensures
    (subst (λ (qs : List ℕ). IfOk c.next_of_kind.result (λ v. v.items ≡ next (of_kind c.kind.result node.number (trees_down arena (c.args.levels - 1) qs)) c.args.t.now)) c.as_slice.ensures c.next_of_kind.ensures))

pub next_of_kind-returns-in-NonSeq : goal.next_of_kind-returns-in-NonSeq
next_of_kind-returns-in-NonSeq t c =
    let trees = trees_down (map bare_of c.args.arena.now) c.args.levels c.args.elements.now in
    subst (λ (k : Kind). IfOk c.next_nonseq.result (λ v. v.items ≡ next (of_kind k c.args.number trees) c.args.t.now)) (sym c.in-NonSeq.is)
    (subst (λ (n : ℕ). IfOk c.next_nonseq.result (λ v. v.items ≡ next (NonSeq n (to_execs trees)) c.args.t.now)) (c.unwrap_or-n.ensures ∙ number_is c.args.number) c.next_nonseq.ensures)

pub next_at-returns-in-Some : goal.next_at-returns-in-Some
next_at-returns-in-Some t c =
    subst (λ (ns : List ℕ). IfOk c.next_down.result (λ v. v.items ≡ ns)) (sym (next_place (map bare_of c.args.arena.now) c.args.levels c.args.elements.now c.args.k c.in-Some.place.now c.args.t.now c.in-Some.ensures.lookup.3.0 c.in-Some.ensures.lookup.1))
    c.next_down.ensures

pub next_at-returns-in-None : goal.next_at-returns-in-None
next_at-returns-in-None t c = c.new.ensures.items ∙ sym (next_none (map bare_of c.args.arena.now) c.args.levels c.args.elements.now c.args.k c.args.t.now c.in-None.ensures.lookup.3)
