use Rattle.std.proofs.Common.{length, ◌≡◌, ◌∙◌, ◌<◌, ◌-◌, ap, sym, subst, arith, map, List, ℕ, []}
use Rattle.std.specs.Prelude.{option_copied, IfOk}
use Rattle.exec_tree.specs.Exec.{Exec}
use Rattle.exec_tree.specs.Arena.{of_kind, first_of, HasArity}
use Rattle.exec_tree.specs.Said.{bare_of, kind_of_node}
use Rattle.exec_tree.specs.declared.kind.Kind.{Kind}
use Rattle.run_log.specs.declared.entry.Entry.{Entry}
use Rattle.trace_law.specs.Own.{picks}
use Rattle.trace_law.specs.Offer.{Offer, Picks, offer}
use Rattle.trace_law.specs.Below.{trees_down}
use Rattle.trace_law.specs.Last.{body_from}
use Rattle.trace_law.specs.Deed.{offer_of}
use Rattle.trace_law.proofs.ArenaLemmas.{down_zero, down_none, down_node, number_is, seen_none, seen_some}
use Rattle.trace_law.proofs.LoopLemmas.{count_is}
use Rattle.trace_law.proofs.DeedLemmas.{own, other, sel_own, nonseq_own, while_body}
use Rattle.trace_law.proofs.offers.+offers.Goals as goal

pub offer_down-returns-then-levels-eq0 : goal.offer_down-returns-then-levels-eq0
offer_down-returns-then-levels-eq0 t c =
    sym (ap (λ (e : Exec). offer e c.args.t.now c.args.m) (down_zero (map bare_of c.args.arena.now) c.args.levels c.args.place c.if-levels-eq0.true))

pub offer_down-returns-in_default : goal.offer_down-returns-in_default
offer_down-returns-in_default t c =
    let some : 0 < c.args.levels = omega (arith, c.if-levels-eq0.false) in
    let at = seen_none c.args.arena.now c.args.place _ c.node_at.ensures (ap option_copied c.in_default.is) in
    sym (ap (λ (e : Exec). offer e c.args.t.now c.args.m) (down_none (map bare_of c.args.arena.now) c.args.levels c.args.place some at))

pub offer_down-offer_of_kind-requires : goal.offer_down-offer_of_kind-requires
offer_down-offer_of_kind-requires t c =
    let node = c.in-Some.node.now in
    let at = seen_some c.args.arena.now c.args.place _ node c.node_at.ensures (ap option_copied c.in-Some.is) in
    let some : 0 < c.args.levels = omega (arith, c.if-levels-eq0.false) in (
      omega (arith, some),
      (
        c.requires,
        subst (λ (k : Kind). HasArity k c.as_slice.result.now) (sym c.kind.ensures)
            (subst (λ (qs : List ℕ). HasArity (kind_of_node node.kind) qs) (sym c.as_slice.ensures) (c.requires c.args.place (bare_of node) at)),
      ),
    )

pub offer_down-returns : goal.offer_down-returns
offer_down-returns t c =
    let some : 0 < c.args.levels = omega (arith, c.if-levels-eq0.false) in
    let arena = map bare_of c.args.arena.now in
    let node = c.in-Some.node.now in
    let at = seen_some c.args.arena.now c.args.place _ node c.node_at.ensures (ap option_copied c.in-Some.is) in
    subst (λ (e : Exec). IfOk c.offer_of_kind.result (λ d. offer_of d ≡ offer e c.args.t.now c.args.m)) (sym (down_node arena c.args.levels c.args.place (bare_of node) some at))
    (subst (λ (k : Kind). IfOk c.offer_of_kind.result (λ d. offer_of d ≡ offer (of_kind k node.number (trees_down arena (c.args.levels - 1) node.elements)) c.args.t.now c.args.m)) c.kind.ensures
    (subst (λ (qs : List ℕ). IfOk c.offer_of_kind.result (λ d. offer_of d ≡ offer (of_kind c.kind.result node.number (trees_down arena (c.args.levels - 1) qs)) c.args.t.now c.args.m)) c.as_slice.ensures c.offer_of_kind.ensures))

pub offer_of_kind-returns-then-n-m : goal.offer_of_kind-returns-then-n-m
offer_of_kind-returns-then-n-m t c =
    rw c.new.ensures.items (sel_own c.args.kind c.args.number (trees_down (map bare_of c.args.arena.now) c.args.levels c.args.elements.now) c.args.t.now c.args.m (length c.args.elements.now) c.in-Sel.is
    (own c.args.number c.unwrap_or-n.result c.args.m c.unwrap_or-n.ensures c.if-n-m.true) (count_is (map bare_of c.args.arena.now) c.args.levels c.args.elements.now))

pub offer_of_kind-returns-then-n-m-2 : goal.offer_of_kind-returns-then-n-m-2
offer_of_kind-returns-then-n-m-2 t c =
    let es = trees_down (map bare_of c.args.arena.now) c.args.levels c.args.elements.now in
    subst (λ (o : Offer). IfOk c.offer_picks.result (λ d. offer_of d ≡ o))
    (nonseq_own c.args.kind c.args.number es c.args.t.now c.args.m (length c.args.elements.now) c.in-NonSeq.is
    (own c.args.number c.unwrap_or-n.result c.args.m c.unwrap_or-n.ensures c.if-n-m-2.true) (count_is (map bare_of c.args.arena.now) c.args.levels c.args.elements.now))
    (subst (λ (n : ℕ). IfOk c.offer_picks.result (λ d. offer_of d ≡ Picks (length c.args.elements.now) (picks n c.args.t.now))) (c.unwrap_or-n.ensures ∙ number_is c.args.number) c.offer_picks.ensures)

pub offer_of_kind-returns-else-n-m-4 : goal.offer_of_kind-returns-else-n-m-4
offer_of_kind-returns-else-n-m-4 t c =
    let es = trees_down (map bare_of c.args.arena.now) c.args.levels c.args.elements.now in
    subst (λ (o : Offer). IfOk c.offer_first.result (λ d. offer_of d ≡ o))
    (while_body c.args.kind c.args.number es c.args.t.now c.args.m c.in-While.is
    (other c.args.number c.unwrap_or-n.result c.args.m c.unwrap_or-n.ensures c.if-n-m-4.false))
    (subst (λ (n : ℕ). IfOk c.offer_first.result (λ d. offer_of d ≡ offer (first_of es) (body_from n [] c.args.t.now) c.args.m)) (c.unwrap_or-n.ensures ∙ number_is c.args.number)
    (subst (λ (u : List Entry). IfOk c.offer_first.result (λ d. offer_of d ≡ offer (first_of es) u c.args.m)) c.body_of.ensures c.offer_first.ensures))
