use Rattle.std.proofs.Common.{◌≡◌, ◌∙◌, ◌<◌, ◌-◌, ap, sym, subst, refl, arith, rules, get_or, List, ℕ, false, Option, Some, None}
use Rattle.std.specs.Prelude.{option_copied, is_some}
use Rattle.exec_tree.specs.Exec.{Exec}
use Rattle.exec_tree.specs.Arena.{to_execs}
use Rattle.exec_tree.specs.Said.{bare_of, kind_of_node}
use Rattle.exec_tree.specs.declared.kind.Kind.{Kind}
use Rattle.frame_law.specs.Looks.{finding, finding_first}
use Rattle.tree_table.specs.Placed.{place_for, placed_down, placed_all}
use Rattle.tree_table.specs.Filled.{into_of, first_into, Led, LedAll}
use Rattle.tree_table.proofs.PlacedLemmas.{look_none, look_some, down_zero, down_none, down_node}
use Rattle.tree_table.proofs.TellLemmas.{led_at}
use Rattle.tree_table.proofs.OpenLemmas.{nothing_into, own_into, no_row, plan_elements, plan_first}
use Rattle.tree_table.proofs.FindLemmas.{found_one, found_first, none_first, found_more}
use Rattle.tree_table.proofs.opening.+finding.Goals as goal

is_none : (o : Option ℕ) → is_some o ≡ false → o ≡ None
is_none None h = refl
is_none (Some n) h = absurd (cc)

pub lead_at-returns-then-levels-eq0-clause-into : goal.lead_at-returns-then-levels-eq0-clause-into
lead_at-returns-then-levels-eq0-clause-into g t c = nothing_into _ (down_zero c.args.tree.now.nodes c.args.levels c.args.place c.if-levels-eq0.true)

pub lead_at-returns-in_default-clause-into : goal.lead_at-returns-in_default-clause-into
lead_at-returns-in_default-clause-into g t c =
    let some : 0 < c.args.levels = omega (arith, c.if-levels-eq0.false) in
    let at = look_none c.args.tree.now.nodes c.args.place _ c.look_at.ensures.node (ap option_copied c.in_default.is) in
    nothing_into _ (down_none c.args.tree.now.nodes c.args.levels c.args.place some at)

pub lead_at-first_at-requires : goal.lead_at-first_at-requires
lead_at-first_at-requires g t c =
    let arena = c.args.tree.now.nodes in
    let some : 0 < c.args.levels = omega (arith, c.if-levels-eq0.false) in
    let node = c.in-Some.node.now in
    let k = kind_of_node node.kind in
    let at = look_some c.args.tree.now.nodes c.args.place _ node c.look_at.ensures.node (ap option_copied c.in-Some.is) in
    let none : place_for k node.number c.args.place ≡ None = ap (λ (j : Kind). place_for j node.number c.args.place) (sym c.kind.ensures) ∙ (sym c.place_for.ensures ∙ c.in-None.is) in
    let led = subst (λ (e : Exec). Led arena c.args.rows.now e) (down_node arena c.args.levels c.args.place (bare_of node) some at) c.requires in
    let all = subst (λ (qs : List ℕ). LedAll arena c.args.rows.now (to_execs (placed_all arena (c.args.levels - 1) qs))) (sym c.as_slice.ensures)
    (plan_elements arena c.args.rows.now (c.args.levels - 1) k (place_for k node.number c.args.place) node.elements none (no_row k node.number c.args.place none) led) in
    search rules

pub lead_at-returns-in-Some-place_for-clause-into : goal.lead_at-returns-in-Some-place_for-clause-into
lead_at-returns-in-Some-place_for-clause-into g t c =
    let arena = c.args.tree.now.nodes in
    let some : 0 < c.args.levels = omega (arith, c.if-levels-eq0.false) in
    let node = c.in-Some.node.now in
    let k = kind_of_node node.kind in
    let at = look_some c.args.tree.now.nodes c.args.place _ node c.look_at.ensures.node (ap option_copied c.in-Some.is) in
    let own : place_for k node.number c.args.place ≡ Some c.in-Some-place_for.own = ap (λ (j : Kind). place_for j node.number c.args.place) (sym c.kind.ensures) ∙ (sym c.place_for.ensures ∙ c.in-Some-place_for.is) in
    let is = down_node arena c.args.levels c.args.place (bare_of node) some at in
    let led = subst (λ (e : Exec). Led arena c.args.rows.now e) is c.requires in
    c.into_at.ensures ∙ (own_into arena c.args.rows.now (c.args.levels - 1) k (place_for k node.number c.args.place) c.in-Some-place_for.own node.elements own led ∙ ap into_of (sym is))

pub lead_at-returns-in-None-clause-into : goal.lead_at-returns-in-None-clause-into
lead_at-returns-in-None-clause-into g t c =
    let arena = c.args.tree.now.nodes in
    let some : 0 < c.args.levels = omega (arith, c.if-levels-eq0.false) in
    let node = c.in-Some.node.now in
    let k = kind_of_node node.kind in
    let at = look_some c.args.tree.now.nodes c.args.place _ node c.look_at.ensures.node (ap option_copied c.in-Some.is) in
    let none : place_for k node.number c.args.place ≡ None = ap (λ (j : Kind). place_for j node.number c.args.place) (sym c.kind.ensures) ∙ (sym c.place_for.ensures ∙ c.in-None.is) in
    let is = down_node arena c.args.levels c.args.place (bare_of node) some at in
    c.first_at.ensures.into
    ∙ (ap (λ (qs : List ℕ). first_into (to_execs (placed_all arena (c.args.levels - 1) qs))) c.as_slice.ensures
    ∙ (plan_first arena (c.args.levels - 1) k (place_for k node.number c.args.place) node.elements none (no_row k node.number c.args.place none) ∙ ap into_of (sym is)))

pub first_at-lead_at-into-requires : goal.first_at-lead_at-into-requires
first_at-lead_at-into-requires g t c = let led = led_at c.args.tree.now.nodes c.args.rows.now c.args.levels c.args.elements.now c.loop-k.k c.loop-k-test.true c.requires in search rules

pub lead_at-returns-in_default-clause-looks : goal.lead_at-returns-in_default-clause-looks
lead_at-returns-in_default-clause-looks g t c = let one = found_one (placed_down c.args.tree.now.nodes c.args.levels c.args.place) in let look = c.look_at.ensures.looks in omega (arith, one, look)

pub lead_at-returns-in-Some-place_for-clause-looks : goal.lead_at-returns-in-Some-place_for-clause-looks
lead_at-returns-in-Some-place_for-clause-looks g t c = let one = found_one (placed_down c.args.tree.now.nodes c.args.levels c.args.place) in let look = c.look_at.ensures.looks in omega (arith, one, look)

pub lead_at-returns-in-None-clause-looks : goal.lead_at-returns-in-None-clause-looks
lead_at-returns-in-None-clause-looks g t c =
    let arena = c.args.tree.now.nodes in
    let some : 0 < c.args.levels = omega (arith, c.if-levels-eq0.false) in
    let node = c.in-Some.node.now in
    let k = kind_of_node node.kind in
    let at = look_some arena c.args.place _ node c.look_at.ensures.node (ap option_copied c.in-Some.is) in
    let none : place_for k node.number c.args.place ≡ None = ap (λ (j : Kind). place_for j node.number c.args.place) (sym c.kind.ensures) ∙ (sym c.place_for.ensures ∙ c.in-None.is) in
    let is = ap finding (down_node arena c.args.levels c.args.place (bare_of node) some at) ∙ found_first arena (c.args.levels - 1) k (place_for k node.number c.args.place) node.elements none (no_row k node.number c.args.place none) in
    let look = c.look_at.ensures.looks in
    let same = ap (λ (qs : List ℕ). finding_first (to_execs (placed_all arena (c.args.levels - 1) qs))) c.as_slice.ensures in
    let more = c.first_at.ensures.looks in
    omega (arith, is, look, same, more)

pub first_at-loop-k-preserved : goal.first_at-loop-k-preserved
first_at-loop-k-preserved g t c =
    let arena = c.args.tree.now.nodes in
    let none : into_of (placed_down arena c.args.levels (get_or c.args.elements.now c.loop-k.k 0)) ≡ None = sym c.lead_at-into.ensures.into ∙ is_none _ (sym c.is_some.ensures ∙ c.if-is_some.false) in (
      none_first arena c.args.levels c.args.elements.now c.loop-k.k c.loop-k-test.true none ∙ c.loop-k.invariant.0,
      found_more arena c.args.levels c.args.elements.now c.loop-k.k _ _ _ c.loop-k-test.true none c.loop-k.invariant.1 c.lead_at-into.ensures.looks,
    )
