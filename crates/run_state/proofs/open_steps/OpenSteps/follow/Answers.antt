use Rattle.std.proofs.Common.{◌≡◌, ◌<◌, ◌==◌, ℕ, List, length, if◌then◌else◌, subst, sym}
use Rattle.std.specs.Prelude.{Option, slice_set}
use Rattle.run_state.specs.declared.open_steps.OpenStep.{OpenStep}
use Rattle.run_state.specs.State.{slot_at, slot_after}
use Rattle.run_state.proofs.SlotLemmas.{went_on}
use Rattle.run_state.proofs.open_steps.OpenSteps.follow.Goals as goal

pub returns : goal.returns
returns c = λ k.
    let l : c.args.channel < length c.self.inside.slots.items = subst (λ (m : ℕ). c.args.channel < m) (sym c.self.invariant) c.requires in
    subst (λ (slots : List (Option OpenStep)). slot_at (slice_set (slice_set c.self.inside.slots.items c.args.channel c.take-slot.new.self) c.args.channel c.slot_after.result) k
    ≡ (if k == c.args.channel then slot_after c.args.def c.args.entry.now (slot_at slots k) else slot_at slots k)) c.self.view_is
    (went_on c.self.inside.slots.items c.args.channel k c.args.def c.args.entry.now c.index_mut.result.now c.take-slot.new.self c.slot_after.result l c.index_mut.ensures.value
    (subst (λ (o : Option OpenStep). c.slot_after.result ≡ slot_after c.args.def c.args.entry.now o) c.take-slot.ensures.value c.slot_after.ensures))
