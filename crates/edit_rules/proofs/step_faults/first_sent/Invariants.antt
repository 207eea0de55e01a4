use Rattle.std.proofs.Common.{◌≡◌, drop}
use Rattle.edit_rules.specs.Judge.{sent_fault}
use Rattle.edit_rules.specs.Judging.{first_step}
use Rattle.edit_rules.proofs.step_faults.first_sent.Given as goal

abbrev pub invariant-loop-n : goal.invariant-loop-n
invariant-loop-n l = first_step (sent_fault l.sent.members) (drop l.n-index l.numbers) ≡ first_step (sent_fault l.sent.members) l.numbers
