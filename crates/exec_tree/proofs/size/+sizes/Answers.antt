use Rattle.std.proofs.Common.{ℕ, ◌∙◌, ap, sym, arith, ◌<◌}
use Rattle.std.specs.Prelude.{option_copied}
use Rattle.exec_tree.specs.Size.{size}
use Rattle.exec_tree.specs.Spent.{rest}
use Rattle.exec_tree.proofs.SizeLemmas.{size_zero, size_none, size_some, numbers_over}
use Rattle.exec_tree.proofs.size.+sizes.Goals as goal

pub spend_number-returns-then-levels-eq0 : goal.spend_number-returns-then-levels-eq0
spend_number-returns-then-levels-eq0 g t c = size_zero (g.E.Entities.entities c.args.entities.now) c.args.budget c.args.levels c.args.n c.if-levels-eq0.true

pub spend_number-returns-in-Some : goal.spend_number-returns-in-Some
spend_number-returns-in-Some g t c =
    let some : 0 < c.args.levels = omega (arith, c.if-levels-eq0.false) in
    let at = sym c.get.ensures ∙ ap option_copied c.in-Some.is in
    c.spend_entity.ensures ∙ ap (λ (s : ℕ). rest c.args.budget s) (size_some (g.E.Entities.entities c.args.entities.now) c.args.levels c.args.n c.in-Some.entity.now some at)

pub spend_number-returns-in-None : goal.spend_number-returns-in-None
spend_number-returns-in-None g t c =
    let some : 0 < c.args.levels = omega (arith, c.if-levels-eq0.false) in
    size_none (g.E.Entities.entities c.args.entities.now) c.args.budget c.args.levels c.args.n some (sym c.get.ensures ∙ ap option_copied c.in-None.is)

pub spend_numbers-returns : goal.spend_numbers-returns
spend_numbers-returns g t c =
    let below = λ (m : ℕ). size (g.E.Entities.entities c.args.entities.now) c.args.levels m in
    numbers_over below c.loop-n.left c.loop-n.n-index c.args.ns.now (omega (arith, c.loop-n-test.false)) ∙ sym c.loop-n.invariant
