use Rattle.p21_parse.proofs.Spellings.{marked_told, unmarked_told}
use Rattle.p21_parse.proofs.spelling.is_keyword.Goals as goal

pub returns-then-first-eq33 : goal.returns-then-first-eq33
returns-then-first-eq33 c = marked_told c.args.text.now c.is_identifier.result c.in-len1-up.len_at_least c.if-first-eq33.true c.is_identifier.ensures

pub returns-else-first-eq33 : goal.returns-else-first-eq33
returns-else-first-eq33 c = unmarked_told c.args.text.now c.is_identifier-else-first-eq33.result c.in-len1-up.len_at_least c.if-first-eq33.false c.is_identifier-else-first-eq33.ensures
