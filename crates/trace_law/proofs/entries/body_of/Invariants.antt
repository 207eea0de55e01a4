use Rattle.std.proofs.Common.{◌≡◌, ◌≤◌, drop, length, []}
use Rattle.trace_law.specs.Last.{body_from}
use Rattle.trace_law.proofs.entries.body_of.Given as goal

abbrev pub invariant-loop-i : goal.invariant-loop-i
invariant-loop-i l =
    record {
      body : body_from l.n (drop l.from l.t) (drop l.i l.t) ≡ body_from l.n [] l.t;
      within : l.from ≤ length l.t;
    }
