use Rattle.std.proofs.Common.{◌+◌, ◌*◌}
use Rattle.run_frames.specs.Ways.{link_bound}
use Rattle.run_frames.proofs.going.+going_on.Given as goal

abbrev pub decreases-go_on : goal.decreases-go_on
decreases-go_on g l = 2 * link_bound l.continuation + 1

abbrev pub decreases-join : goal.decreases-join
decreases-join g l = 2 * l.place + 2

abbrev pub decreases-pick_on : goal.decreases-pick_on
decreases-pick_on g l = 2 * l.place + 2
