use Rattle.std.specs.Prelude.{[]}
use Rattle.std.proofs.Common.{ap, ◌∙◌}
use Rattle.project_store.specs.Entities.{entity_at}
use Rattle.project_law.specs.Script.{events_of}
use Rattle.project_law.specs.Variables.{opening_vars}
use Rattle.project_law.specs.Paths.{blocks_in}
use Rattle.project_law.proofs.MoveLemmas.{store_stays, version_is_none, vars_more, frozen_there}
use Rattle.project_law.proofs.laws.rules_without_edits.Goals as goal

pub returns-clause-store : goal.returns-clause-store
returns-clause-store c = λ store t. store_stays store (events_of t)

pub returns-clause-version : goal.returns-clause-version
returns-clause-version c = λ store t n. version_is_none store n (events_of t)

pub returns-clause-path : goal.returns-clause-path
returns-clause-path c = λ store t n v. frozen_there [] store n v t ∙ ap (λ later. blocks_in (entity_at later) n) (store_stays store (events_of t))

pub returns-clause-vars : goal.returns-clause-vars
returns-clause-vars c = λ store t x v. vars_more [] store (opening_vars store) t x v
