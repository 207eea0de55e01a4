use Rattle.std.proofs.Common.{◌≡◌}
use Rattle.std.specs.Prelude.{ℕ, length, None}
use Rattle.run_state.specs.State.{slot_at}
use Rattle.run_state.proofs.open_steps.OpenSteps.new.Given as goal

abbrev pub invariant-loop-channel : goal.invariant-loop-channel
invariant-loop-channel l =
    record {
      none : (c : ℕ) → slot_at l.slots.items c ≡ None;
      count : length l.slots.items ≡ l.channel;
    }
