use Rattle.std.proofs.Common.{◌≡◌, ◌<◌, ◌∙◌, ap, sym, subst, arith}
use Rattle.std.specs.Prelude.{option_copied, IfOk}
use Rattle.nc_expr.specs.Term.{Term, term_of}
use Rattle.exec_tree.proofs.LevelLemmas.{term_zero, term_none, term_some}
use Rattle.exec_tree.proofs.expressions.+values.Goals as goal

pub expr_at-returns-then-levels-eq0 : goal.expr_at-returns-then-levels-eq0
expr_at-returns-then-levels-eq0 g t c = term_zero (g.E.Entities.entities c.args.entities.now) c.args.levels c.args.n c.if-levels-eq0.true

pub expr_at-returns-in-Some : goal.expr_at-returns-in-Some
expr_at-returns-in-Some g t c =
    let some : 0 < c.args.levels = omega (arith, c.if-levels-eq0.false) in
    let at = sym c.get.ensures ∙ ap option_copied c.in-Some.is in
    subst (λ (x : Term). IfOk c.expr_of.result (λ e. term_of e ≡ x)) (term_some (g.E.Entities.entities c.args.entities.now) c.args.levels c.args.n c.in-Some.entity.now some at) c.expr_of.ensures

pub expr_at-returns-in-None : goal.expr_at-returns-in-None
expr_at-returns-in-None g t c =
    let some : 0 < c.args.levels = omega (arith, c.if-levels-eq0.false) in
    term_none (g.E.Entities.entities c.args.entities.now) c.args.levels c.args.n some (sym c.get.ensures ∙ ap option_copied c.in-None.is)
