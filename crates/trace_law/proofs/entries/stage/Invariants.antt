use Rattle.std.proofs.Common.{◌≡◌, ◌≤◌, drop}
use Rattle.std.specs.Prelude.{None, IfSome}
use Rattle.trace_law.specs.State.{stage_from}
use Rattle.trace_law.proofs.entries.stage.Given as goal

abbrev pub invariant-loop-entry : goal.invariant-loop-entry
invariant-loop-entry l =
    record {
      rest : stage_from l.n l.so_far (drop l.entry-index l.t) ≡ stage_from l.n None l.t;
      few : IfSome l.so_far (λ k. k ≤ l.entry-index);
    }
