use Rattle.std.proofs.Common.{◌≡◌, ◌++◌, length}
use Rattle.log_check.proofs.checking.follow_all.Given as goal

abbrev pub invariant-loop-entry : goal.invariant-loop-entry
invariant-loop-entry g l = record {
  project : l.state.project ≡ l.fn.state.project;
  script : l.state.script ≡ l.fn.state.script;
  parts : l.state.list ++ l.state.coming ≡ l.fn.state.list ++ l.fn.state.coming;
}

abbrev pub decreases-loop-entry : goal.decreases-loop-entry
decreases-loop-entry g l = length l.state.coming
