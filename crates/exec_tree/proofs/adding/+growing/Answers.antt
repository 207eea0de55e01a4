use Rattle.std.proofs.Common.{◌-◌, ◌+◌, drop, [], ℕ, Option, None, sym, refl, subst}
use Rattle.std.specs.Prelude.{flat_map, option_copied}
use Rattle.exec_tree.specs.Exec.{Plan, None_left}
use Rattle.exec_tree.specs.Executable.{parts_at}
use Rattle.entity_types.specs.declared.entity.Entity.{Entity}
use Rattle.exec_tree.specs.Walk.{visits_from, part_walk, channel_below}
use Rattle.exec_tree.specs.TreeFault.{first_fault}
use Rattle.exec_tree.specs.TreeOf.{part_tree, tree_from}
use Rattle.exec_tree.specs.Walked.{Walked, seen_of, entered, Grows, IsHeld, IsFault}
use Rattle.exec_tree.proofs.GrowthLemmas.{fault_here, fault_below, grown_by, Goes, ahead_at, parts_on, blank_grows, blank_held, goes_wrong, err_is}
use Rattle.exec_tree.proofs.adding.+growing.Goals as goal

pub add-returns-in_err-place-clause-fault : goal.add-returns-in_err-place-clause-fault
add-returns-in_err-place-clause-fault g t c =
    let entities = g.E.Entities.entities c.args.entities.now in
    err_is c.from_residual.result c.in_err-place.field-0.0 _ c.from_residual.ensures.1
    (fault_here entities c.args.walk.now c.args.n c.args.left c.args.channel c.in_err-place.field-0.0 c.in_err-place.ensures.fault)

pub add-returns-in_err-elements-clause-fault : goal.add-returns-in_err-elements-clause-fault
add-returns-in_err-elements-clause-fault g t c =
    let entities = g.E.Entities.entities c.args.entities.now in
    let w = c.args.walk.now in
    let below = λ (found : Option Entity) (channel : Option ℕ). flat_map (part_walk (λ (m : ℕ). visits_from entities (c.args.left - 1) channel m)) (parts_at found) in
    let e = c.in_err-elements.field-0.0 in
    let f = subst (λ (v : Walked). IsFault (first_fault entities (seen_of v) (below (option_copied c.get-found.result) c.channel_below.result)) e) c.in_ok-place.ensures.ok c.in_err-elements.ensures.fault in
    let f2 = subst (λ (x : Option ℕ). IsFault (first_fault entities (seen_of (entered entities w c.args.n c.args.channel)) (below (option_copied c.get-found.result) x)) e) c.channel_below.ensures f in
    let f3 = subst (λ (x : Option Entity). IsFault (first_fault entities (seen_of (entered entities w c.args.n c.args.channel)) (below x (channel_below c.args.channel x))) e) c.get-found.ensures f2 in
    err_is c.from_residual-in_err-elements.result e _ c.from_residual-in_err-elements.ensures.1
    (fault_below entities w c.args.n c.args.left c.args.channel e c.in_ok-place.ensures.none f3)

pub add-returns-clause-grown : goal.add-returns-clause-grown
add-returns-clause-grown g t c =
    let r = grown_by (g.E.Entities.entities c.args.entities.now) c.args.walk.now c.enter.new.walk c.add_parts.new.walk c.set_elements.new.self c.args.n c.args.left c.in_ok-place.place c.args.channel c.channel_below.result
    (option_copied c.get-found.result) c.in_ok-elements.elements c.in_ok-place.ensures.none c.in_ok-place.ensures.place c.in_ok-place.ensures.ok c.get-found.ensures c.channel_below.ensures
    c.in_ok-elements.ensures.grown c.in_ok-elements.ensures.held c.set_elements.ensures in r.0

pub add-returns-clause-held : goal.add-returns-clause-held
add-returns-clause-held g t c =
    let r = grown_by (g.E.Entities.entities c.args.entities.now) c.args.walk.now c.enter.new.walk c.add_parts.new.walk c.set_elements.new.self c.args.n c.args.left c.in_ok-place.place c.args.channel c.channel_below.result
    (option_copied c.get-found.result) c.in_ok-elements.elements c.in_ok-place.ensures.none c.in_ok-place.ensures.place c.in_ok-place.ensures.ok c.get-found.ensures c.channel_below.ensures
    c.in_ok-elements.ensures.grown c.in_ok-elements.ensures.held c.set_elements.ensures in r.1

pub add_part-returns-in_ok-push_blank-in-None-clause-grown :
    goal.add_part-returns-in_ok-push_blank-in-None-clause-grown
add_part-returns-in_ok-push_blank-in-None-clause-grown g t c =
    let entities = g.E.Entities.entities c.args.entities.now in
    let below = λ (m : ℕ). visits_from entities c.args.left c.args.channel m in
    subst (λ (p : Option ℕ). Grows entities c.args.walk.now c.push_blank.new.self (part_walk below p)) (sym c.in-None.is)
    (subst (λ (w : Walked). Grows entities c.args.walk.now w []) (sym c.in_ok-push_blank-in-None.ensures.ok) (blank_grows entities c.args.walk.now _ refl refl tt refl))

pub add_part-returns-in_ok-push_blank-in-None-clause-held :
    goal.add_part-returns-in_ok-push_blank-in-None-clause-held
add_part-returns-in_ok-push_blank-in-None-clause-held g t c =
    let entities = g.E.Entities.entities c.args.entities.now in
    let below = λ (m : ℕ). tree_from entities c.args.left m in
    subst (λ (p : Option ℕ). IsHeld c.args.walk.now c.push_blank.new.self c.args.left c.in_ok-push_blank-in-None.field-0 (part_tree below p)) (sym c.in-None.is)
    (subst (λ (w : Walked). IsHeld c.args.walk.now w c.args.left c.in_ok-push_blank-in-None.field-0 (Plan None None_left)) (sym c.in_ok-push_blank-in-None.ensures.ok)
    (blank_held c.args.walk.now _ c.args.left c.in_ok-push_blank-in-None.field-0 refl refl c.in_ok-push_blank-in-None.ensures.place))

pub add_parts-returns-in_err-place-clause-fault : goal.add_parts-returns-in_err-place-clause-fault
add_parts-returns-in_err-place-clause-fault g t c =
    let entities = g.E.Entities.entities c.args.entities.now in
    let parts = parts_at (option_copied c.args.found) in
    let f = part_walk (λ (m : ℕ). visits_from entities c.args.left c.args.channel m) in
    let e = c.in_err-place.field-0.0 in
    err_is c.from_residual.result e _ c.from_residual.ensures.1
    (goes_wrong entities c.args.walk.now c.loop-i.walk (flat_map f parts) (f c.part_at.result) (flat_map f (drop (c.loop-i.i + 1) parts)) e
    (subst (Goes entities c.args.walk.now c.loop-i.walk (flat_map f parts)) (ahead_at f parts c.loop-i.i c.part_at.result c.part_at.ensures) c.loop-i.invariant.goes) c.in_err-place.ensures.fault)

pub add_parts-loop-i-preserved : goal.add_parts-loop-i-preserved
add_parts-loop-i-preserved g t c =
    let entities = g.E.Entities.entities c.args.entities.now in
    let parts = parts_at (option_copied c.args.found) in
    let f = part_walk (λ (m : ℕ). visits_from entities c.args.left c.args.channel m) in
    let h = part_tree (λ (m : ℕ). tree_from entities c.args.left m) in
    let r = parts_on entities c.args.walk.now c.loop-i.walk c.add_part.new.walk c.args.left f h parts c.loop-i.i c.part_at.result c.loop-i.elements c.push.new.self c.in_ok-place.place
    c.part_at.ensures c.loop-i.invariant.goes c.loop-i.invariant.held c.in_ok-place.ensures.grown c.in_ok-place.ensures.held c.in_ok-push.ensures.ok in
    record { goes = r.0; held = r.1 }
