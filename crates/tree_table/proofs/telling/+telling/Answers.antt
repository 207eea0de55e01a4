use Rattle.std.proofs.Common.{◌≡◌, ◌∙◌, ◌<◌, ◌-◌, ◌+◌, ap, sym, subst, arith, map, drop, get_or, List, [], ◌∷◌, ℕ, true, length, Option, Some, None}
use Rattle.std.specs.Prelude.{option_copied}
use Rattle.exec_tree.specs.Exec.{Exec, nodes, has, AreDistinct, Plan}
use Rattle.exec_tree.specs.Arena.{to_execs, of_kind, HasArity}
use Rattle.exec_tree.specs.Said.{bare_of, kind_of_node}
use Rattle.exec_tree.specs.declared.kind.Kind.{Kind}
use Rattle.exec_tree.specs.declared.kind.Kind.TheVariants as kinds
use Rattle.tree_table.specs.Placed.{place_for, placed_down, placed_all}
use Rattle.tree_table.specs.Rows.{link_of}
use Rattle.tree_table.specs.Filled.{Led, AreSameBut, IsTold, AreTold, AreToldInOrder}
use Rattle.tree_table.specs.declared.row.Continuation.{Continuation}
use Rattle.tree_table.specs.declared.row.Row.{Row}
use Rattle.tree_table.proofs.PlacedLemmas.{down_zero, down_none, down_node, seen_none, seen_some, bare_within}
use Rattle.tree_table.proofs.ListLemmas.{has_at}
use Rattle.tree_table.proofs.NodeLemmas.{once_at}
use Rattle.tree_table.proofs.RowLemmas.{put_same}
use Rattle.tree_table.proofs.LeadLemmas.{first_in_order}
use Rattle.tree_table.proofs.TellLemmas.{told_nothing, order_step, all_step, led_at, same_led, same_led_all, opens_behind, plan_told, plain_plan, inner_told, inner_behind, elements_led, once_of}
use Rattle.tree_table.proofs.telling.+telling.Goals as goal

pub tell_down-returns-then-levels-eq0 : goal.tell_down-returns-then-levels-eq0
tell_down-returns-then-levels-eq0 t c = told_nothing c.args.rows.now _ c.args.after (down_zero (map bare_of c.args.arena.now) c.args.levels c.args.place c.if-levels-eq0.true) c.requires.back

pub tell_down-returns-in_default : goal.tell_down-returns-in_default
tell_down-returns-in_default t c =
    let some : 0 < c.args.levels = omega (arith, c.if-levels-eq0.false) in
    let at = seen_none c.args.arena.now c.args.place _ c.node_at.ensures (ap option_copied c.in_default.is) in
    told_nothing c.args.rows.now _ c.args.after (down_none (map bare_of c.args.arena.now) c.args.levels c.args.place some at) c.requires.back

pub tell_down-tell_kind-requires : goal.tell_down-tell_kind-requires
tell_down-tell_kind-requires t c =
    let arena = map bare_of c.args.arena.now in
    let some : 0 < c.args.levels = omega (arith, c.if-levels-eq0.false) in
    let node = c.in-Some.node.now in
    let at = seen_some c.args.arena.now c.args.place _ node c.node_at.ensures (ap option_copied c.in-Some.is) in
    let within = bare_within c.args.arena.now c.args.place (bare_of node) at in
    let there =
    subst (λ (k : Kind). placed_down arena c.args.levels c.args.place ≡ of_kind k (place_for k node.number c.args.place) (placed_all arena (c.args.levels - 1) c.as_slice.result.now)) (sym c.kind.ensures)
    (subst (λ (qs : List ℕ). placed_down arena c.args.levels c.args.place ≡ of_kind (kind_of_node node.kind) (place_for (kind_of_node node.kind) node.number c.args.place) (placed_all arena (c.args.levels - 1) qs)) (sym c.as_slice.ensures)
    (down_node arena c.args.levels c.args.place (bare_of node) some at)) in (
      omega (arith, some, c.decreases),
      (
        c.requires.shaped,
        (
          c.requires.closed,
          (
            c.requires.room,
            (
              subst (λ (k : Kind). HasArity k c.as_slice.result.now) (sym c.kind.ensures)
                  (subst (λ (qs : List ℕ). HasArity (kind_of_node node.kind) qs) (sym c.as_slice.ensures) (c.requires.shaped c.args.place (bare_of node) at)),
              (
                within,
                (
                  λ r h. (c.requires.closed c.args.place r (bare_of node) (omega arith) within at (subst (λ (qs : List ℕ). has qs r ≡ true) c.as_slice.ensures h)).0,
                  (
                    subst (λ (e : Exec). AreDistinct (nodes e)) there c.requires.distinct,
                    (subst (λ (e : Exec). Led arena c.args.rows.now e) there c.requires.led, (c.requires.back, c.requires.behind)),
                  ),
                ),
              ),
            ),
          ),
        ),
      ),
    )

pub tell_down-returns : goal.tell_down-returns
tell_down-returns t c =
    let arena = map bare_of c.args.arena.now in
    let some : 0 < c.args.levels = omega (arith, c.if-levels-eq0.false) in
    let node = c.in-Some.node.now in
    let at = seen_some c.args.arena.now c.args.place _ node c.node_at.ensures (ap option_copied c.in-Some.is) in
    let told = λ (e : Exec). IsTold c.args.rows.now c.tell_kind.new.rows e c.args.after c.tell_kind.result in
    subst told (sym (down_node arena c.args.levels c.args.place (bare_of node) some at))
    (subst (λ (k : Kind). told (of_kind k (place_for k node.number c.args.place) (placed_all arena (c.args.levels - 1) node.elements))) c.kind.ensures
    (subst (λ (qs : List ℕ). told (of_kind c.kind.result (place_for c.kind.result node.number c.args.place) (placed_all arena (c.args.levels - 1) qs))) c.as_slice.ensures c.tell_kind.ensures))

pub tell_plan-tell_order-first-requires : goal.tell_plan-tell_order-first-requires
tell_plan-tell_order-first-requires t c =
    let arena = map bare_of c.args.arena.now in
    let es = to_execs (placed_all arena c.args.levels c.args.elements.now) in
    let at : place_for kinds.Plan c.args.number c.args.place ≡ Some c.args.place = ap (λ (n : Option ℕ). place_for kinds.Plan n c.args.place) c.in-Some.is in
    let within : c.args.place < length c.args.rows.now = subst (λ (n : ℕ). c.args.place < n) (sym c.requires.room) c.requires.within in
    let same = subst (λ (l : List Row). AreSameBut c.args.rows.now l (c.args.place ∷ [])) (sym c.put_after-into.ensures.put) (put_same c.args.rows.now c.args.place c.args.after [] within c.requires.behind c.requires.back) in
    let once = subst (λ (n : Option ℕ). AreDistinct (nodes (Plan n es))) at c.requires.distinct in
    let led = subst (λ (n : Option ℕ). Led arena c.args.rows.now (Plan n es)) at c.requires.led in (
      omega (arith, c.decreases),
      (
        c.requires.shaped,
        (
          c.requires.closed,
          (
            same.long ∙ c.requires.room,
            (
              once.1,
              (
                same_led_all arena c.args.rows.now c.put_after-into.new.rows (c.args.place ∷ []) es same led.1,
                (same.back, λ q r e h. let a = c.requires.behind q e in let b = c.requires.later r h in omega (arith, a, b)),
              ),
            ),
          ),
        ),
      ),
    )

pub tell_plan-returns-in-Some : goal.tell_plan-returns-in-Some
tell_plan-returns-in-Some t c =
    let arena = map bare_of c.args.arena.now in
    let es = to_execs (placed_all arena c.args.levels c.args.elements.now) in
    let at : place_for kinds.Plan c.args.number c.args.place ≡ Some c.args.place = ap (λ (n : Option ℕ). place_for kinds.Plan n c.args.place) c.in-Some.is in
    let within : c.args.place < length c.args.rows.now = subst (λ (n : ℕ). c.args.place < n) (sym c.requires.room) c.requires.within in
    subst (λ (n : Option ℕ). IsTold c.args.rows.now c.tell_order-first.new.rows (Plan n es) c.args.after c.put_after-into.result) (sym at)
    (plan_told arena c.args.rows.now c.tell_order-first.new.rows c.args.place es c.args.after c.put_after-into.result c.tell_order-first.result within
    (subst (λ (n : Option ℕ). AreDistinct (nodes (Plan n es))) at c.requires.distinct) (subst (λ (n : Option ℕ). Led arena c.args.rows.now (Plan n es)) at c.requires.led) c.requires.behind c.requires.back c.put_after-into.ensures.into
    (subst (λ (l : List Row). AreToldInOrder l c.tell_order-first.new.rows es c.args.after c.tell_order-first.result) c.put_after-into.ensures.put c.tell_order-first.ensures))

pub tell_plan-returns-in-None : goal.tell_plan-returns-in-None
tell_plan-returns-in-None t c =
    let es = to_execs (placed_all (map bare_of c.args.arena.now) c.args.levels c.args.elements.now) in
    let at : place_for kinds.Plan c.args.number c.args.place ≡ None = ap (λ (n : Option ℕ). place_for kinds.Plan n c.args.place) c.in-None.is in
    subst (λ (n : Option ℕ). IsTold c.args.rows.now c.tell_order.new.rows (Plan n es) c.args.after c.tell_order.result) (sym at)
    (plain_plan c.args.rows.now c.tell_order.new.rows es c.args.after c.tell_order.result (first_in_order es (Plan None es)) c.tell_order.ensures)

pub tell_inner-tell_all-requires : goal.tell_inner-tell_all-requires
tell_inner-tell_all-requires t c =
    let arena = map bare_of c.args.arena.now in
    let es = to_execs (placed_all arena c.args.levels c.args.elements.now) in
    let within : c.args.place < length c.args.rows.now = subst (λ (n : ℕ). c.args.place < n) (sym c.requires.room) c.requires.within in
    let same = subst (λ (l : List Row). AreSameBut c.args.rows.now l (c.args.place ∷ [])) (sym c.put_after-into.ensures.put) (put_same c.args.rows.now c.args.place c.args.after [] within c.requires.behind c.requires.back) in
    let once = once_of arena c.args.levels c.args.kind c.args.place c.args.elements.now c.requires.arity c.requires.no_plan c.requires.distinct in
    let led = elements_led arena c.args.rows.now c.args.levels c.args.kind c.args.place c.args.elements.now c.requires.arity c.requires.led in
    let behind = inner_behind c.args.kind c.is_place-shared.result c.args.place c.args.after c.requires.behind in (
      omega (arith, c.decreases),
      (
        c.requires.shaped,
        (
          c.requires.closed,
          (
            same.long ∙ c.requires.room,
            (
              once.1,
              (
                same_led_all arena c.args.rows.now c.put_after-into.new.rows (c.args.place ∷ []) es same led,
                (same.back, λ q r e h. behind q r (sym (ap link_of c.inner-of_elements.ensures) ∙ e) (c.requires.later r h)),
              ),
            ),
          ),
        ),
      ),
    )

pub tell_inner-returns : goal.tell_inner-returns
tell_inner-returns t c =
    let arena = map bare_of c.args.arena.now in
    let es = to_execs (placed_all arena c.args.levels c.args.elements.now) in
    let within : c.args.place < length c.args.rows.now = subst (λ (n : ℕ). c.args.place < n) (sym c.requires.room) c.requires.within in
    inner_told arena c.args.rows.now c.tell_all.new.rows c.args.levels c.args.kind c.args.place c.args.elements.now c.args.after c.inner-of_elements.result c.put_after-into.result c.is_place-shared.result within c.requires.arity c.requires.no_plan c.requires.distinct
    c.requires.led c.requires.behind c.requires.back c.put_after-into.ensures.into c.is_place-shared.ensures c.inner-of_elements.ensures
    (subst (λ (l : List Row). AreTold l c.tell_all.new.rows es c.inner-of_elements.result) c.put_after-into.ensures.put c.tell_all.ensures)

pub tell_order-tell_down-into-requires : goal.tell_order-tell_down-into-requires
tell_order-tell_down-into-requires t c =
    let arena = map bare_of c.args.arena.now in
    let l : c.loop-k.k - 1 < length c.args.elements.now = omega (arith, c.loop-k-test.true, c.loop-k.auto.k) in
    let p = get_or c.args.elements.now (c.loop-k.k - 1) 0 in
    let e = placed_down arena c.args.levels p in
    let same = c.loop-k.invariant.same in
    let behind = opens_behind c.loop-k.first c.args.after p (λ q e. c.requires.behind q p e (has_at c.args.elements.now (c.loop-k.k - 1) l)) in (
      omega (arith, c.decreases),
      (
        c.requires.shaped,
        (
          c.requires.closed,
          (
            same.long ∙ c.requires.room,
            (
              once_at arena c.args.levels c.args.elements.now (c.loop-k.k - 1) l c.requires.distinct,
              (
                same_led arena c.args.rows.now c.loop-k.rows _ e same (led_at arena c.args.rows.now c.args.levels c.args.elements.now (c.loop-k.k - 1) l c.requires.led),
                (same.back, λ q h. behind q (sym (ap link_of c.opens_or.ensures) ∙ h)),
              ),
            ),
          ),
        ),
      ),
    )

pub tell_order-loop-k-preserved : goal.tell_order-loop-k-preserved
tell_order-loop-k-preserved t c =
    let arena = map bare_of c.args.arena.now in
    let l : c.loop-k.k - 1 < length c.args.elements.now = omega (arith, c.loop-k-test.true, c.loop-k.auto.k) in
    let e : c.loop-k.k - 1 + 1 ≡ c.loop-k.k = omega (arith, c.loop-k-test.true) in
    let p = get_or c.args.elements.now (c.loop-k.k - 1) 0 in
    order_step arena c.args.rows.now c.loop-k.rows c.tell_down-into.new.rows c.args.levels c.args.elements.now (c.loop-k.k - 1) c.args.after c.loop-k.first c.tell_down-into.result c.first_place-first.result l c.requires.distinct
    (subst (λ (k : ℕ). AreToldInOrder c.args.rows.now c.loop-k.rows (to_execs (placed_all arena c.args.levels (drop k c.args.elements.now))) c.args.after c.loop-k.first) (sym e) c.loop-k.invariant)
    (subst (λ (g : Continuation). IsTold c.loop-k.rows c.tell_down-into.new.rows (placed_down arena c.args.levels p) g c.tell_down-into.result) c.opens_or.ensures c.tell_down-into.ensures) c.first_place-first.ensures

pub tell_all-tell_down-requires : goal.tell_all-tell_down-requires
tell_all-tell_down-requires t c =
    let arena = map bare_of c.args.arena.now in
    let l : c.loop-k.k - 1 < length c.args.elements.now = omega (arith, c.loop-k-test.true, c.loop-k.auto.k) in
    let p = get_or c.args.elements.now (c.loop-k.k - 1) 0 in
    let same = c.loop-k.invariant.same in (
      omega (arith, c.decreases),
      (
        c.requires.shaped,
        (
          c.requires.closed,
          (
            same.long ∙ c.requires.room,
            (
              once_at arena c.args.levels c.args.elements.now (c.loop-k.k - 1) l c.requires.distinct,
              (
                same_led arena c.args.rows.now c.loop-k.rows _ (placed_down arena c.args.levels p) same (led_at arena c.args.rows.now c.args.levels c.args.elements.now (c.loop-k.k - 1) l c.requires.led),
                (same.back, λ q e. c.requires.behind q p e (has_at c.args.elements.now (c.loop-k.k - 1) l)),
              ),
            ),
          ),
        ),
      ),
    )

pub tell_all-loop-k-preserved : goal.tell_all-loop-k-preserved
tell_all-loop-k-preserved t c =
    let arena = map bare_of c.args.arena.now in
    let l : c.loop-k.k - 1 < length c.args.elements.now = omega (arith, c.loop-k-test.true, c.loop-k.auto.k) in
    let e : c.loop-k.k - 1 + 1 ≡ c.loop-k.k = omega (arith, c.loop-k-test.true) in
    all_step arena c.args.rows.now c.loop-k.rows c.tell_down.new.rows c.args.levels c.args.elements.now (c.loop-k.k - 1) c.args.after c.tell_down.result l c.requires.distinct
    (subst (λ (k : ℕ). AreTold c.args.rows.now c.loop-k.rows (to_execs (placed_all arena c.args.levels (drop k c.args.elements.now))) c.args.after) (sym e) c.loop-k.invariant) c.tell_down.ensures
