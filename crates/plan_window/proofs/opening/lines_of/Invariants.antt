use Rattle.std.proofs.Common.{◌≡◌, map}
use Rattle.std.specs.List.{range_with_len}
use Rattle.plan_window.specs.Window.{line_in}
use Rattle.plan_window.proofs.opening.lines_of.Given as goal

-- those of the channels so far
abbrev pub invariant-loop-channel : goal.invariant-loop-channel
invariant-loop-channel l = l.lines.items ≡ map (line_in l.tree.nodes) (range_with_len 0 l.channel)
