use Rattle.std.proofs.Common.{ℕ, ◌≡◌, ◌<◌, ◌∙◌, ap, sym, subst, arith}
use Rattle.std.specs.Prelude.{option_copied, IfOk}
use Rattle.nc_expr.specs.Term.{Test, test_of}
use Rattle.exec_tree.specs.Terms.{test_from}
use Rattle.exec_tree.proofs.LevelLemmas.{test_zero, test_none, test_some, list_on}
use Rattle.exec_tree.proofs.expressions.+tests.Goals as goal

pub cond_at-returns-then-levels-eq0 : goal.cond_at-returns-then-levels-eq0
cond_at-returns-then-levels-eq0 g t c = test_zero (g.E.Entities.entities c.args.entities.now) c.args.levels c.args.n c.if-levels-eq0.true

pub cond_at-returns-in-Some : goal.cond_at-returns-in-Some
cond_at-returns-in-Some g t c =
    let some : 0 < c.args.levels = omega (arith, c.if-levels-eq0.false) in
    let at = sym c.get.ensures ∙ ap option_copied c.in-Some.is in
    subst (λ (x : Test). IfOk c.cond_of.result (λ e. test_of e ≡ x)) (test_some (g.E.Entities.entities c.args.entities.now) c.args.levels c.args.n c.in-Some.entity.now some at) c.cond_of.ensures

pub cond_at-returns-in-None : goal.cond_at-returns-in-None
cond_at-returns-in-None g t c =
    let some : 0 < c.args.levels = omega (arith, c.if-levels-eq0.false) in
    test_none (g.E.Entities.entities c.args.entities.now) c.args.levels c.args.n some (sym c.get.ensures ∙ ap option_copied c.in-None.is)

pub cond_list-loop-left-preserved : goal.cond_list-loop-left-preserved
cond_list-loop-left-preserved g t c =
    let i = c.loop-left.invariant in
    list_on (λ (m : ℕ). test_from (g.E.Entities.entities c.args.entities.now) c.args.levels m) c.args.all c.listed-numbers.result.now c.loop-left.left (test_of c.in_ok-first.first) (test_of c.loop-left.cond)
    (test_of c.in_ok-cond.cond) c.loop-left-test.true i.0 c.in_ok-first.ensures i.1 c.in_ok-cond.ensures
