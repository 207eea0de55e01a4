use Rattle.project_store.proofs.PuttingLemmas.{found_all}
use Rattle.project_versions.proofs.VersionLemmas.{store_more, version_more}
use Rattle.project_versions.proofs.laws.versions_move.Goals as goal

pub returns-clause-store : goal.returns-clause-store
returns-clause-store c = λ script store t x. store_more script store t x

pub returns-clause-version : goal.returns-clause-version
returns-clause-version c = λ script store t x n. version_more script store t x n

pub returns-clause-found : goal.returns-clause-found
returns-clause-found c = λ store items n. found_all store items n
