use Rattle.std.proofs.Common.{refl}
use Rattle.frame_law.proofs.GoingLemmas.{gone_opens, gone_more, gone_last, gone_picks, gone_picked, brings_more, brings_last}
use Rattle.frame_law.proofs.going.the_way_is_gone_step_by_step.Goals as goal

pub returns-clause-done : goal.returns-clause-done
returns-clause-done g = λ c. record { ran = tt; kept = λ q h. refl }

pub returns-clause-opens : goal.returns-clause-opens
returns-clause-opens g = λ c c' es s kept. gone_opens c c' es s kept

pub returns-clause-joins : goal.returns-clause-joins
returns-clause-joins g = λ c c' n k e s kept. gone_more c c' n k e s kept

pub returns-clause-joins_last : goal.returns-clause-joins_last
returns-clause-joins_last g = λ c d c' n k a one s kept i. gone_last c d c' n k a one s kept i

pub returns-clause-picks : goal.returns-clause-picks
returns-clause-picks g = λ c n total k e. gone_picks c n total k e

pub returns-clause-picked_all : goal.returns-clause-picked_all
returns-clause-picked_all g = λ c c' n total k e i. gone_picked c c' n total k e i

pub returns-clause-tests : goal.returns-clause-tests
returns-clause-tests g = λ c n. record { ran = tt; kept = λ q h. refl }

pub returns-clause-brings_none : goal.returns-clause-brings_none
returns-clause-brings_none g = λ c n k e. brings_more c n k e

pub returns-clause-brings_on : goal.returns-clause-brings_on
returns-clause-brings_on g = λ c d n k a one kept. brings_last c d n k a one kept
