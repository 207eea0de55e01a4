use Rattle.frame_law.proofs.AlongLemmas.{stays_written, ran_after, kept_after, brings_same, agree_along}
use Rattle.frame_law.proofs.laws.the_way_is_gone_after.Goals as goal

pub returns-clause-stays : goal.returns-clause-stays
returns-clause-stays g = λ d c' ns k a h. stays_written d c' ns k a h

pub returns-clause-ran : goal.returns-clause-ran
returns-clause-ran g = λ c d c' ns k a h r. ran_after c d c' ns k a h r

pub returns-clause-kept : goal.returns-clause-kept
returns-clause-kept g = λ c d c' ns k a h i. kept_after c d c' ns k a h i

pub returns-clause-same : goal.returns-clause-same
returns-clause-same g = λ c d ns k a h. brings_same c d k (agree_along c d ns k a h)
