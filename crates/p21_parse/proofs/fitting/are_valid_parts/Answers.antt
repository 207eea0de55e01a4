use Rattle.p21_parse.specs.View.{part_of}
use Rattle.p21_parse.specs.Built.{IsValidPart}
use Rattle.p21_parse.proofs.Fit.{refused_at}
use Rattle.p21_parse.proofs.fitting.are_valid_parts.Goals as goal

pub returns-then-not-is_valid_part : goal.returns-then-not-is_valid_part
returns-then-not-is_valid_part c =
    refused_at part_of IsValidPart c.args.parts.now c.loop-part.part-index c.part-item.result c.is_valid_part.result c.loop-part-test.true c.part-item.is c.if-not-is_valid_part.true c.is_valid_part.ensures
