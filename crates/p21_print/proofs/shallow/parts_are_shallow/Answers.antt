use Rattle.std.proofs.Common.{◌≤◌}
use Rattle.p21_parse.specs.declared.limits.TheConstants.{MAX_NESTING}
use Rattle.p21_parse.specs.Nesting.{part_nesting}
use Rattle.p21_parse.specs.View.{part_of}
use Rattle.p21_parse.proofs.Fit.{refused_at}
use Rattle.p21_print.proofs.shallow.parts_are_shallow.Goals as goal

pub returns-then-not-list_is_shallow : goal.returns-then-not-list_is_shallow
returns-then-not-list_is_shallow c =
    refused_at part_of (λ p. part_nesting p ≤ MAX_NESTING) c.args.parts.now c.loop-part.part-index c.part-item.result c.list_is_shallow.result c.loop-part-test.true c.part-item.is c.if-not-list_is_shallow.true c.list_is_shallow.ensures
