use Rattle.std.proofs.Common.{◌∙◌, ℕ, ap, sym, subst, ◌+◌}
use Rattle.std.specs.Prelude.{Option}
use Rattle.run_state.specs.Opening.{AreOpening, opened}
use Rattle.run_state.proofs.OpeningLemmas.{entity_opened}
use Rattle.run_state.proofs.variables.open_entities.Goals as goal

pub loop-i-preserved : goal.loop-i-preserved
loop-i-preserved c =
    let e = c.in_ok-open_one.ensures ∙ ap (λ (o : Option ℕ). opened c.args.store.now o c.loop-i.pairs.items) c.opening_number.ensures in
    subst (AreOpening c.args.store.now (c.loop-i.i + 1)) (sym e) (entity_opened c.args.store.now c.loop-i.i c.loop-i.pairs.items c.at.result.now c.at.ensures c.loop-i.invariant)
