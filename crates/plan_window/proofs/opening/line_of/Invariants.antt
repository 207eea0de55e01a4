use Rattle.std.proofs.Common.{◌≡◌, ◌==◌, filter, take}
use Rattle.exec_tree.specs.Built.{channel_in}
use Rattle.plan_window.proofs.opening.line_of.Given as goal

-- those of the steps so far
abbrev pub invariant-loop-step : goal.invariant-loop-step
invariant-loop-step l = l.line ≡ filter (λ n. channel_in l.tree.nodes n == l.channel) (take l.step-index l.steps)
