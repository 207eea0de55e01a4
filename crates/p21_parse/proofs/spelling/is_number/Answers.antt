use Rattle.std.proofs.Common.{true≢false, sym}
use Rattle.p21_parse.proofs.Spellings.{number_told, number_too_long}
use Rattle.p21_parse.proofs.spelling.is_number.Goals as goal

pub returns-then-text-gt-MOST_IN_NUMBER : goal.returns-then-text-gt-MOST_IN_NUMBER
returns-then-text-gt-MOST_IN_NUMBER c =
    (λ t. absurd (true≢false (sym t)), λ x. absurd (number_too_long c.args.kind c.args.text.now c.requires c.if-text-gt-MOST_IN_NUMBER.true x))

pub returns : goal.returns
returns c = number_told c.args.kind c.args.text.now c.spells.result c.requires c.spells.ensures
