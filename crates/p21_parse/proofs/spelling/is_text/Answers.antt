use Rattle.p21_parse.proofs.Spellings.{text_empty}
use Rattle.p21_parse.proofs.spelling.is_text.Goals as goal

pub returns-in_default : goal.returns-in_default
returns-in_default c = text_empty c.args.bytes.now c.loop-rest.rest.now c.in_default.len_below c.loop-rest.invariant
