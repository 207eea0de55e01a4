use Rattle.std.proofs.Common.{◌≡◌}
use Rattle.project_law.specs.ProjectRules.{upto}
use Rattle.run_core.proofs.replaying.channel_list.Given as goal

abbrev pub invariant-loop-channel : goal.invariant-loop-channel
invariant-loop-channel l = l.list.items ≡ upto l.channel
