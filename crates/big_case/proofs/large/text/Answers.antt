use Rattle.std.proofs.Common.{ap, subst, ◌∙◌}
use Rattle.p21_parse.specs.Tree.{ExchangeTree}
use Rattle.p21_parse.specs.Text.{IsText}
use Rattle.p21_print.specs.Printed.{printed}
use Rattle.big_case.proofs.large.text.Goals as goal

pub returns-clause-project : goal.returns-clause-project
returns-clause-project c = c.in_ok-project.ensures.text ∙ ap printed c.in_ok-exchange.ensures.project

pub returns-clause-reads : goal.returns-clause-reads
returns-clause-reads c = subst (λ (x : ExchangeTree). IsText c.in_ok-project.project x) c.in_ok-exchange.ensures.project c.in_ok-project.ensures.reads
