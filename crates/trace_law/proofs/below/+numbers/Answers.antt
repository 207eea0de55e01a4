use Rattle.std.proofs.Common.{◌∙◌, ◌++◌, ◌<◌, ◌-◌, ap, sym, arith, map, List, ℕ}
use Rattle.std.specs.Prelude.{option_copied}
use Rattle.exec_tree.specs.Exec.{nodes, nodes_all}
use Rattle.exec_tree.specs.Arena.{to_execs}
use Rattle.exec_tree.specs.Said.{bare_of, kind_of_node}
use Rattle.exec_tree.specs.declared.kind.Kind.{Kind}
use Rattle.trace_law.specs.Below.{trees_down, own_number}
use Rattle.trace_law.proofs.ArenaLemmas.{down_zero, down_none, numbers_node, seen_none, seen_some}
use Rattle.trace_law.proofs.below.+numbers.Goals as goal

pub numbers_down-returns-then-levels-eq0 : goal.numbers_down-returns-then-levels-eq0
numbers_down-returns-then-levels-eq0 t c = c.new.ensures.items ∙ sym (ap nodes (down_zero (map bare_of c.args.arena.now) c.args.levels c.args.place c.if-levels-eq0.true))

pub numbers_down-returns-in-None : goal.numbers_down-returns-in-None
numbers_down-returns-in-None t c =
    let some : 0 < c.args.levels = omega (arith, c.if-levels-eq0.false) in
    let at = seen_none c.args.arena.now c.args.place _ c.node_at.ensures (ap option_copied c.in-None.is) in
    c.new-in-None.ensures.items ∙ sym (ap nodes (down_none (map bare_of c.args.arena.now) c.args.levels c.args.place some at))

pub numbers_down-returns-in_ok-extend_from_slice-in-Some : goal.numbers_down-returns-in_ok-extend_from_slice-in-Some
numbers_down-returns-in_ok-extend_from_slice-in-Some t c =
    let some : 0 < c.args.levels = omega (arith, c.if-levels-eq0.false) in
    let arena = map bare_of c.args.arena.now in
    let node = c.in-Some.node.now in
    let at = seen_some c.args.arena.now c.args.place _ node c.node_at.ensures (ap option_copied c.in-Some.is) in
    c.in_ok-extend_from_slice-in-Some.ensures.items
    ∙ (ap (λ (ns : List ℕ). c.in_ok-numbers-in-Some.numbers.items ++ ns) (c.deref.ensures.value ∙ c.in_ok-below-in-Some.ensures)
    ∙ (ap (λ (ns : List ℕ). ns ++ nodes_all (to_execs (trees_down arena (c.args.levels - 1) c.as_slice.result.now))) (c.in_ok-numbers-in-Some.ensures ∙ ap (λ (k : Kind). own_number k node.number) c.kind.ensures)
    ∙ (ap (λ (qs : List ℕ). own_number (kind_of_node node.kind) node.number ++ nodes_all (to_execs (trees_down arena (c.args.levels - 1) qs))) c.as_slice.ensures
    ∙ sym (numbers_node arena c.args.levels c.args.place (bare_of node) c.requires some at))))
