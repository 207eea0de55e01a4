use Rattle.std.proofs.Common.{◌≡◌, ◌∙◌, ◌<◌, ◌-◌, ◌+◌, ap, sym, subst, arith, map, drop, List, ℕ, length, Option, length-drop}
use Rattle.std.specs.Prelude.{option_copied}
use Rattle.exec_tree.specs.Exec.{Exec, nodes, AreDistinct}
use Rattle.exec_tree.specs.Arena.{to_execs, of_kind, HasArity}
use Rattle.exec_tree.specs.Said.{bare_of, kind_of_node}
use Rattle.exec_tree.specs.declared.kind.Kind.{Kind}
use Rattle.tree_table.specs.Placed.{place_for, placed_down, placed_all}
use Rattle.tree_table.specs.Filled.{with_row, IsMade, AreMade}
use Rattle.tree_table.specs.declared.row.Continuation.TheVariants.{Done}
use Rattle.tree_table.specs.declared.row.Row.{Row}
use Rattle.tree_table.proofs.PlacedLemmas.{down_zero, down_none, down_node, seen_none, seen_some, count_is, bare_within}
use Rattle.tree_table.proofs.LeadLemmas.{made_nothing, made_step, kind_made, going_few}
use Rattle.tree_table.proofs.NodeLemmas.{once_at}
use Rattle.tree_table.proofs.leading.+leading.Goals as goal

pub lead_down-returns-then-levels-eq0 : goal.lead_down-returns-then-levels-eq0
lead_down-returns-then-levels-eq0 t c = made_nothing (map bare_of c.args.arena.now) c.args.rows.now _ (down_zero (map bare_of c.args.arena.now) c.args.levels c.args.place c.if-levels-eq0.true)

pub lead_down-returns-in_default : goal.lead_down-returns-in_default
lead_down-returns-in_default t c =
    let some : 0 < c.args.levels = omega (arith, c.if-levels-eq0.false) in
    let at = seen_none c.args.arena.now c.args.place _ c.node_at.ensures (ap option_copied c.in_default.is) in
    made_nothing (map bare_of c.args.arena.now) c.args.rows.now _ (down_none (map bare_of c.args.arena.now) c.args.levels c.args.place some at)

pub lead_down-lead_kind-requires : goal.lead_down-lead_kind-requires
lead_down-lead_kind-requires t c =
    let arena = map bare_of c.args.arena.now in
    let some : 0 < c.args.levels = omega (arith, c.if-levels-eq0.false) in
    let node = c.in-Some.node.now in
    let at = seen_some c.args.arena.now c.args.place _ node c.node_at.ensures (ap option_copied c.in-Some.is) in
    let within = bare_within c.args.arena.now c.args.place (bare_of node) at in
    let there =
    subst (λ (k : Kind). placed_down arena c.args.levels c.args.place ≡ of_kind k (place_for k node.number c.args.place) (placed_all arena (c.args.levels - 1) c.as_slice.result.now)) (sym c.kind.ensures)
    (subst (λ (qs : List ℕ). placed_down arena c.args.levels c.args.place ≡ of_kind (kind_of_node node.kind) (place_for (kind_of_node node.kind) node.number c.args.place) (placed_all arena (c.args.levels - 1) qs)) (sym c.as_slice.ensures)
    (down_node arena c.args.levels c.args.place (bare_of node) some at)) in (
      omega (arith, some, c.decreases),
      (
        c.requires.shaped,
        (
          c.requires.room,
          (
            some,
            (
              subst (λ (k : Kind). HasArity k c.as_slice.result.now) (sym c.kind.ensures)
                  (subst (λ (qs : List ℕ). HasArity (kind_of_node node.kind) qs) (sym c.as_slice.ensures) (c.requires.shaped c.args.place (bare_of node) at)),
              (within, (there, subst (λ (e : Exec). AreDistinct (nodes e)) there c.requires.distinct)),
            ),
          ),
        ),
      ),
    )

pub lead_down-returns : goal.lead_down-returns
lead_down-returns t c =
    let arena = map bare_of c.args.arena.now in
    let some : 0 < c.args.levels = omega (arith, c.if-levels-eq0.false) in
    let node = c.in-Some.node.now in
    let at = seen_some c.args.arena.now c.args.place _ node c.node_at.ensures (ap option_copied c.in-Some.is) in
    let made = λ (e : Exec). IsMade arena c.args.rows.now c.lead_kind.new.rows e c.lead_kind.result in
    subst made (sym (down_node arena c.args.levels c.args.place (bare_of node) some at))
    (subst (λ (k : Kind). made (of_kind k (place_for k node.number c.args.place) (placed_all arena (c.args.levels - 1) node.elements))) c.kind.ensures
    (subst (λ (qs : List ℕ). made (of_kind c.kind.result (place_for c.kind.result node.number c.args.place) (placed_all arena (c.args.levels - 1) qs))) c.as_slice.ensures c.lead_kind.ensures))

pub lead_kind-returns : goal.lead_kind-returns
lead_kind-returns t c =
    let arena = map bare_of c.args.arena.now in
    let es = placed_all arena (c.args.levels - 1) c.args.elements.now in
    let e = of_kind c.args.kind (place_for c.args.kind c.args.number c.args.place) es in
    let within : c.args.place < length c.args.rows.now = subst (λ (n : ℕ). c.args.place < n) (sym c.requires.room) c.requires.within in
    subst (λ (l : List Row). IsMade arena c.args.rows.now l e c.into_by-into.result) (sym c.put_row.ensures)
    (subst (λ (at : Option ℕ). IsMade arena c.args.rows.now (with_row at (record { into = c.into_by-into.result; after = Done; levels = c.args.levels }) c.lead_all-leads.new.rows) e c.into_by-into.result) (sym c.place_for.ensures)
    (subst (λ (into : Option ℕ). IsMade arena c.args.rows.now (with_row (place_for c.args.kind c.args.number c.args.place) (record { into = into; after = Done; levels = c.args.levels }) c.lead_all-leads.new.rows) e into) (sym c.into_by-into.ensures)
    (kind_made arena c.args.rows.now c.lead_all-leads.new.rows c.args.levels (c.args.levels - 1) c.args.place c.args.kind c.args.number c.args.elements.now c.lead_all-leads.result.first c.lead_all-leads.result.number c.requires.arity within
    c.requires.there c.requires.distinct c.lead_all-leads.ensures)))

pub lead_all-lead_down-into-requires : goal.lead_all-lead_down-into-requires
lead_all-lead_down-into-requires t c =
    let l : c.loop-k.k - 1 < length c.args.elements.now = omega (arith, c.loop-k-test.true, c.loop-k.auto.k) in
    (omega (arith, c.decreases), (c.requires.shaped, (c.loop-k.invariant.long ∙ c.requires.room, once_at (map bare_of c.args.arena.now) c.args.levels c.args.elements.now (c.loop-k.k - 1) l c.requires.distinct)))

pub lead_all-with_element-leads-requires : goal.lead_all-with_element-leads-requires
lead_all-with_element-leads-requires t c =
    let arena = map bare_of c.args.arena.now in
    let few = going_few (to_execs (placed_all arena c.args.levels (drop c.loop-k.k c.args.elements.now))) in
    let count = count_is arena c.args.levels (drop c.loop-k.k c.args.elements.now) in
    let long = length-drop c.loop-k.k c.args.elements.now in
    omega (arith, few, count, long, c.loop-k.invariant.number_is, c.loop-k-test.true, c.loop-k.auto.k)

pub lead_all-loop-k-preserved : goal.lead_all-loop-k-preserved
lead_all-loop-k-preserved t c =
    let l : c.loop-k.k - 1 < length c.args.elements.now = omega (arith, c.loop-k-test.true, c.loop-k.auto.k) in
    let e : c.loop-k.k - 1 + 1 ≡ c.loop-k.k = omega (arith, c.loop-k-test.true) in
    made_step (map bare_of c.args.arena.now) c.args.rows.now c.loop-k.rows c.lead_down-into.new.rows c.args.levels c.args.elements.now (c.loop-k.k - 1) c.loop-k.leads.first c.lead_down-into.result c.with_element-leads.result.first c.loop-k.leads.number c.with_element-leads.result.number l c.requires.distinct
    (subst (λ (k : ℕ). AreMade (map bare_of c.args.arena.now) c.args.rows.now c.loop-k.rows (to_execs (placed_all (map bare_of c.args.arena.now) c.args.levels (drop k c.args.elements.now))) c.loop-k.leads.first c.loop-k.leads.number) (sym e) c.loop-k.invariant)
    c.lead_down-into.ensures c.with_element-leads.ensures.first c.with_element-leads.ensures.number
