use Rattle.std.proofs.Common.{◌≡◌, ◌∙◌, ◌<◌, ◌≤◌, ◌-◌, ◌+◌, ◌*◌, ap, sym, subst, arith, rules, drop, get_or, length, List, ℕ, true, Option}
use Rattle.std.specs.Prelude.{option_copied, slice_set}
use Rattle.std.proofs.lemmas.Option.{slice_get_within}
use Rattle.exec_tree.specs.Exec.{has}
use Rattle.exec_tree.specs.Arena.{to_execs}
use Rattle.exec_tree.specs.Said.{bare_of, kind_of_node}
use Rattle.exec_tree.specs.declared.kind.Kind.TheVariants as kinds
use Rattle.frame_law.specs.Looks.{opening_each}
use Rattle.tree_table.specs.Placed.{placed_down, placed_all}
use Rattle.tree_table.specs.Rows.{levels_at, executable_at}
use Rattle.tree_table.specs.Table.{LeadsTo}
use Rattle.tree_table.proofs.PlacedLemmas.{look_none, look_some, count_is}
use Rattle.tree_table.proofs.ListLemmas.{has_at}
use Rattle.tree_table.proofs.LeadLemmas.{going_few}
use Rattle.tree_table.proofs.OpenLemmas.{entrance_some}
use Rattle.run_frames.specs.Fresh.{fresh}
use Rattle.run_frames.specs.Entered.{IsEntered, AreEntered}
use Rattle.run_frames.proofs.FoundLemmas.{lead_later}
use Rattle.run_frames.proofs.EnterLemmas.{no_plan, itself_entered, parallel_entered, elements_once, entered_more, entered_same, length_behind}
use Rattle.run_frames.proofs.LookLemmas.{opens_itself, shared_there, opens_each, opens_led, opens_void, each_more}
use Rattle.run_frames.proofs.entering.+entering.Goals as goal
use Rattle.trace_law.specs.Cells.{Cell}

pub enter_all-enter_at-requires : goal.enter_all-enter_at-requires
enter_all-enter_at-requires g t c =
    let arena = c.args.tree.now.nodes in
    let rows = c.args.table.now.rows.items in
    let node = c.requires.node in
    let l : c.loop-k.k - 1 < length c.args.elements.now = omega (arith, c.loop-k-test.true, c.loop-k.auto.k) in
    let p = get_or c.args.elements.now (c.loop-k.k - 1) 0 in
    let levels = levels_at rows c.args.place - 1 in
    let to = subst (λ (o : Option ℕ). LeadsTo arena rows (placed_down arena levels p) o) c.in-Some.is c.element_into.ensures.leads in
    let w = slice_get_within c.args.tree.now.nodes c.args.place node.node node.at in
    let a = (c.requires.closed c.args.place p node.node (omega arith) w node.at (subst (λ (qs : List ℕ). has qs p ≡ true) (sym node.elements_are) (has_at c.args.elements.now (c.loop-k.k - 1) l))).0 in
    let b = lead_later arena rows (length c.args.tree.now.nodes) levels p c.in-Some.into c.requires.table c.requires.closed (λ r other h. slice_get_within c.args.tree.now.nodes r other h) to in
    let fewer : 2 * (length arena - c.in-Some.into) < 2 * (length arena - c.args.place) - 1 = omega (arith, a, b, w) in
    let entrance = to.1 in
    let room = c.loop-k.invariant.0.long ∙ c.requires.room in
    let unpicked = c.loop-k.invariant.0.unpicked in
    search rules

pub enter_all-overflow_add-going : goal.enter_all-overflow_add-going
enter_all-overflow_add-going g t c =
    let arena = c.args.tree.now.nodes in
    let l : c.loop-k.k - 1 < length c.args.elements.now = omega (arith, c.loop-k-test.true, c.loop-k.auto.k) in
    let levels = levels_at c.args.table.now.rows.items c.args.place - 1 in
    let rest = drop c.loop-k.k c.args.elements.now in
    let few = going_few (to_execs (placed_all arena levels rest)) in
    let counted = c.loop-k.invariant.0.counted in
    let all = count_is arena levels rest in
    let short = length_behind c.args.elements.now c.loop-k.k in
    omega (arith, l, few, counted, all, short, c.loop-k-test.true, c.loop-k.auto.k)

pub enter_all-loop-k-preserved-in-Some : goal.enter_all-loop-k-preserved-in-Some
enter_all-loop-k-preserved-in-Some g t c =
    let arena = c.args.tree.now.nodes in
    let rows = c.args.table.now.rows.items in
    let node = c.requires.node in
    let l : c.loop-k.k - 1 < length c.args.elements.now = omega (arith, c.loop-k-test.true, c.loop-k.auto.k) in
    let k : c.loop-k.k ≡ c.loop-k.k - 1 + 1 = omega (arith, c.loop-k-test.true) in
    let p = get_or c.args.elements.now (c.loop-k.k - 1) 0 in
    let levels = levels_at rows c.args.place - 1 in
    let to = subst (λ (o : Option ℕ). LeadsTo arena rows (placed_down arena levels p) o) c.in-Some.is c.element_into.ensures.leads in (
      entered_more arena rows c.args.frames.now.cells c.loop-k.frames.cells c.enter_at.new.frames.cells c.args.set.now.all c.loop-k.set.all c.enter_at.new.set.all levels c.args.elements.now (c.loop-k.k - 1) c.loop-k.going c.in-Some.into l
          (elements_once arena rows c.args.place node.node c.args.elements.now c.requires.table c.requires.entrance c.requires.distinct node.at node.kind_is node.elements_are).0
          (subst (λ (j : ℕ). AreEntered arena c.args.frames.now.cells c.loop-k.frames.cells c.args.set.now.all c.loop-k.set.all (to_execs (placed_all arena levels (drop j c.args.elements.now))) c.loop-k.going) k c.loop-k.invariant.0) to c.enter_at.ensures.moved,
      c.enter_at.ensures.kept ∙ c.loop-k.invariant.1,
      each_more arena levels c.args.elements.now (c.loop-k.k - 1) _ _ _ l
          (subst (λ (j : ℕ). c.loop-k.steps ≤ c.args.steps.now + opening_each (to_execs (placed_all arena levels (drop j c.args.elements.now)))) k c.loop-k.invariant.2)
          (opens_led arena rows levels p c.in-Some.into _ _ _ to c.element_into.ensures.looks c.enter_at.ensures.looks),
      c.enter_at.ensures.rooms ∙ c.loop-k.invariant.3,
    )

pub enter_all-loop-k-preserved : goal.enter_all-loop-k-preserved
enter_all-loop-k-preserved g t c =
    let arena = c.args.tree.now.nodes in
    let rows = c.args.table.now.rows.items in
    let l : c.loop-k.k - 1 < length c.args.elements.now = omega (arith, c.loop-k-test.true, c.loop-k.auto.k) in
    let k : c.loop-k.k ≡ c.loop-k.k - 1 + 1 = omega (arith, c.loop-k-test.true) in
    let levels = levels_at rows c.args.place - 1 in (
      entered_same arena rows c.args.frames.now.cells c.loop-k.frames.cells c.args.set.now.all c.loop-k.set.all levels c.args.elements.now (c.loop-k.k - 1) c.loop-k.going c.element_into.result l
          (subst (λ (j : ℕ). AreEntered arena c.args.frames.now.cells c.loop-k.frames.cells c.args.set.now.all c.loop-k.set.all (to_execs (placed_all arena levels (drop j c.args.elements.now))) c.loop-k.going) k c.loop-k.invariant.0) c.in_default.is c.element_into.ensures.leads,
      c.loop-k.invariant.1,
      each_more arena levels c.args.elements.now (c.loop-k.k - 1) _ _ _ l
          (subst (λ (j : ℕ). c.loop-k.steps ≤ c.args.steps.now + opening_each (to_execs (placed_all arena levels (drop j c.args.elements.now)))) k c.loop-k.invariant.2)
          (opens_void (placed_down arena levels (get_or c.args.elements.now (c.loop-k.k - 1) 0)) _ _ c.element_into.ensures.looks),
      c.loop-k.invariant.3,
    )

pub enter_at-returns-in-Par-clause-moved : goal.enter_at-returns-in-Par-clause-moved
enter_at-returns-in-Par-clause-moved g t c =
    let arena = c.args.tree.now.nodes in
    let rows = c.args.table.now.rows.items in
    let node = c.in-Some.node.now in
    let at = look_some c.args.tree.now.nodes c.args.place _ node c.look_at.ensures.node (ap option_copied c.in-Some.is) in
    let w = slice_get_within c.args.tree.now.nodes c.args.place (bare_of node) at in
    let par : kind_of_node node.kind ≡ kinds.Par = sym c.kind.ensures ∙ c.in-Par.is in
    subst (λ (w : List Cell). IsEntered arena c.args.frames.now.cells w c.args.set.now.all c.enter_all-going.new.set.all (executable_at arena rows c.args.place)) (sym c.put.ensures.cells)
    (parallel_entered arena rows c.args.frames.now.cells c.enter_all-going.new.frames.cells c.args.set.now.all c.enter_all-going.new.set.all c.args.place (bare_of node) c.enter_all-going.result c.requires.table c.requires.entrance c.requires.distinct at par
    (subst (λ (n : ℕ). c.args.place < n) (sym c.requires.room) w)
    (subst (λ (qs : List ℕ). AreEntered arena c.args.frames.now.cells c.enter_all-going.new.frames.cells c.args.set.now.all c.enter_all-going.new.set.all (to_execs (placed_all arena (levels_at rows c.args.place - 1) qs)) c.enter_all-going.result) c.as_slice.ensures c.enter_all-going.ensures.moved))

pub enter_at-returns-in_default-kind-clause-moved : goal.enter_at-returns-in_default-kind-clause-moved
enter_at-returns-in_default-kind-clause-moved g t c =
    let arena = c.args.tree.now.nodes in
    let rows = c.args.table.now.rows.items in
    let node = c.in-Some.node.now in
    let at = look_some c.args.tree.now.nodes c.args.place _ node c.look_at.ensures.node (ap option_copied c.in-Some.is) in
    let w = slice_get_within c.args.tree.now.nodes c.args.place (bare_of node) at in
    let written : c.put-in_default-kind.new.self.cells ≡ slice_set c.args.frames.now.cells c.args.place (fresh (kind_of_node node.kind)) = c.put-in_default-kind.ensures.cells ∙ ap (slice_set c.args.frames.now.cells c.args.place) (c.fresh.ensures ∙ ap fresh c.kind.ensures) in
    subst (λ (w : List Cell). IsEntered arena c.args.frames.now.cells w c.args.set.now.all c.insert.new.self.all (executable_at arena rows c.args.place)) (sym written)
    (itself_entered arena rows c.args.frames.now.cells c.args.set.now.all c.insert.new.self.all c.args.place (bare_of node) c.requires.table c.requires.entrance at (λ h. c.in_default-kind.not-Par (c.kind.ensures ∙ h))
    (subst (λ (n : ℕ). c.args.place < n) (sym c.requires.room) w) c.requires.unpicked c.insert.ensures.came)

pub enter_at-returns-in-Par-clause-looks : goal.enter_at-returns-in-Par-clause-looks
enter_at-returns-in-Par-clause-looks g t c =
    let arena = c.args.tree.now.nodes in
    let rows = c.args.table.now.rows.items in
    let node = c.in-Some.node.now in
    let at = look_some arena c.args.place _ node c.look_at.ensures.node (ap option_copied c.in-Some.is) in
    let par : kind_of_node node.kind ≡ kinds.Par = sym c.kind.ensures ∙ c.in-Par.is in
    opens_each arena rows c.args.place (bare_of node) _ _ _ c.requires.table c.requires.entrance at par (shared_there arena rows c.args.place (bare_of node) c.requires.table c.requires.entrance c.requires.distinct at par) c.look_at.ensures.looks
    (subst (λ (qs : List ℕ). c.enter_all-going.new.steps ≤ c.look_at.new.steps + opening_each (to_execs (placed_all arena (levels_at rows c.args.place - 1) qs))) c.as_slice.ensures c.enter_all-going.ensures.looks)

pub enter_at-returns-in_default-kind-clause-looks : goal.enter_at-returns-in_default-kind-clause-looks
enter_at-returns-in_default-kind-clause-looks g t c =
    let arena = c.args.tree.now.nodes in
    let rows = c.args.table.now.rows.items in
    let node = c.in-Some.node.now in
    let at = look_some arena c.args.place _ node c.look_at.ensures.node (ap option_copied c.in-Some.is) in
    opens_itself arena rows c.args.place (bare_of node) _ _ c.requires.table c.requires.entrance at (no_plan arena rows c.args.place (bare_of node) c.requires.table c.requires.entrance at) (λ h. c.in_default-kind.not-Par (c.kind.ensures ∙ h)) c.look_at.ensures.looks

pub enter_at-returns-in_default-clause-looks : goal.enter_at-returns-in_default-clause-looks
enter_at-returns-in_default-clause-looks g t c =
    let arena = c.args.tree.now.nodes in
    absurd (entrance_some arena c.args.table.now.rows.items c.args.place c.requires.table c.requires.entrance (look_none arena c.args.place _ c.look_at.ensures.node (ap option_copied c.in_default.is)))
