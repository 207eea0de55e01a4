use Rattle.std.proofs.Common.{sym, ◌∙◌}
use Rattle.controller.proofs.CommandLemmas.{bad_first}
use Rattle.controller.proofs.command.command_of.Goals as goal

pub returns-else-is_at-6 : goal.returns-else-is_at-6
returns-else-is_at-6 c =
    bad_first c.args.words.now (sym c.is_at.ensures ∙ c.if-is_at.false) (sym c.is_at-else-is_at.ensures ∙ c.if-is_at-2.false) (sym c.is_at-else-is_at-2.ensures ∙ c.if-is_at-3.false)
    (sym c.is_at-else-is_at-3.ensures ∙ c.if-is_at-4.false) (sym c.is_at-else-is_at-4.ensures ∙ c.if-is_at-5.false) (sym c.is_at-else-is_at-5.ensures ∙ c.if-is_at-6.false)
