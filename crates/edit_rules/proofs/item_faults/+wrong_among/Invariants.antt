use Rattle.std.proofs.Common.{length}
use Rattle.edit_rules.proofs.item_faults.+wrong_among.Given as goal

abbrev pub decreases-wrong_among : goal.decreases-wrong_among
decreases-wrong_among g l = length l.used.now
