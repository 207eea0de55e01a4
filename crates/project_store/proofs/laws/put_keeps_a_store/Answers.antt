use Rattle.project_store.proofs.PuttingLemmas.{distinct_put, found_all}
use Rattle.project_store.proofs.StoreLemmas.{no_fault_put}
use Rattle.project_store.proofs.laws.put_keeps_a_store.Goals as goal

pub returns-clause-fault : goal.returns-clause-fault
returns-clause-fault c = no_fault_put

pub returns-clause-distinct : goal.returns-clause-distinct
returns-clause-distinct c = distinct_put

pub returns-clause-found : goal.returns-clause-found
returns-clause-found c = found_all
