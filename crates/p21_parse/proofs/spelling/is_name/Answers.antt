use Rattle.p21_parse.proofs.Spellings.{name_told}
use Rattle.p21_parse.proofs.spelling.is_name.Goals as goal

pub returns-then-number-ge1 : goal.returns-then-number-ge1
returns-then-number-ge1 c = name_told c.args.number c.if-number-ge1.true
