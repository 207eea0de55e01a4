use Rattle.std.proofs.Common.{length}
use Rattle.project_store.proofs.build.+wrong_among.Given as goal

abbrev pub decreases-wrong_among : goal.decreases-wrong_among
decreases-wrong_among l = length l.used.now
