use Rattle.std.proofs.Common.{◌≡◌, ◌∙◌, sym, subst, map, List, ℕ}
use Rattle.std.specs.Prelude.{IfOk}
use Rattle.exec_tree.specs.Said.{bare_of}
use Rattle.trace_law.proofs.LoopLemmas.{nodes_place, nodes_none}
use Rattle.trace_law.proofs.below.numbers_at.Goals as goal

pub returns-in-Some : goal.returns-in-Some
returns-in-Some c =
    subst (λ (ns : List ℕ). IfOk c.numbers_down.result (λ v. v.items ≡ ns)) (sym (nodes_place (map bare_of c.args.arena.now) c.args.levels c.args.elements.now c.args.k c.in-Some.place.now c.in-Some.ensures.lookup.3.0 c.in-Some.ensures.lookup.1))
    c.numbers_down.ensures

pub returns-in-None : goal.returns-in-None
returns-in-None c = c.new.ensures.items ∙ sym (nodes_none (map bare_of c.args.arena.now) c.args.levels c.args.elements.now c.args.k c.in-None.ensures.lookup.3)
