use Rattle.std.proofs.Common.{IsTrue, arith, rules}
use Rattle.std.proofs.lemmas.Option.{slice_get_within}
use Rattle.definition_tests.proofs.CanPutLemmas.{FitsIn, can_put, one_more}
use Rattle.definition_tests.proofs.putting.can_be_put.Goals as goal

pub loop-i-preserved : goal.loop-i-preserved
loop-i-preserved c =
    let yes : IsTrue c.in_ok-fits.field-0 = search rules in
    let fit : FitsIn c.args.store.now c.at.result.now =
    record { constant = c.in_ok-fits.ensures.constant yes; nothing = c.in_ok-fits.ensures.nothing yes; old = c.in_ok-fits.ensures.old yes } in
    one_more c.args.store.now c.args.items.now c.loop-i.i c.at.result.now c.at.ensures fit c.loop-i.invariant

pub returns : goal.returns
returns c = λ yes. can_put c.args.store.now c.args.items.now (λ k x at. c.loop-i.invariant k x (omega (arith, slice_get_within c.args.items.now k x at)) at)
