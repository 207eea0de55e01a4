use Rattle.std.specs.Prelude.{[]}
use Rattle.project_law.specs.Variables.{opening_vars}
use Rattle.project_law.proofs.MoveLemmas.{store_more, version_more, vars_more, frozen_more, frozen_there, frozen_kept}
use Rattle.project_law.proofs.laws.project_rules_move.Goals as goal

pub returns-clause-store : goal.returns-clause-store
returns-clause-store c = λ store script t x. store_more script store t x

pub returns-clause-version : goal.returns-clause-version
returns-clause-version c = λ store script t x n. version_more script store n t x

pub returns-clause-vars : goal.returns-clause-vars
returns-clause-vars c = λ store script t x v. vars_more script store (opening_vars store) t x v

pub returns-clause-path : goal.returns-clause-path
returns-clause-path c = λ store script t x n. frozen_more script store n [] t x

pub returns-clause-dispatched : goal.returns-clause-dispatched
returns-clause-dispatched c = λ store script t n v. frozen_there script store n v t

pub returns-clause-kept : goal.returns-clause-kept
returns-clause-kept c = λ store script t x n e. frozen_kept script store n t x e
