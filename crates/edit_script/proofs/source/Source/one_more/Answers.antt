use Rattle.std.proofs.Common.{arith}
use Rattle.edit_script.proofs.Stuck.{no_word, told_at, too_many_edits}
use Rattle.edit_script.proofs.source.Source.one_more.Goals as goal

pub returns-then-is_word : goal.returns-then-is_word
returns-then-is_word c = too_many_edits c.args.self.now c.args.at c.place-place.result (c.is_word.ensures.found c.if-is_word.true) c.place-place.ensures

pub returns-else-is_word : goal.returns-else-is_word
returns-else-is_word c =
    told_at c.args.self.now 0 c.args.at c.args.at c.place-place.result (omega arith) c.place-place.ensures (no_word c.args.self.now c.args.at 0 c.requires.at (c.is_word.ensures.none c.if-is_word.false))
