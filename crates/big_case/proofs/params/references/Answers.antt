use Rattle.p21_parse.specs.View.{trees_of}
use Rattle.big_case.proofs.Putting.{reference_more}
use Rattle.big_case.proofs.params.references.Goals as goal

pub loop-number-preserved : goal.loop-number-preserved
loop-number-preserved c =
    reference_more c.args.numbers.now c.loop-number.number-index (trees_of c.loop-number.elements) (trees_of c.push.new.self) c.loop-number-test.true c.loop-number.invariant
    c.in_ok-push.ensures.ok
