use Rattle.std.proofs.Common.{◌≡◌, List, None, subst, rules}
use Rattle.entity_types.specs.declared.entity.Entity.{Entity}
use Rattle.project_store.specs.Build.{projects_of, count_fault, least_fault, wrong_position, fault_of}
use Rattle.project_store.proofs.MissingLemmas.{no_fault}
use Rattle.project_store.proofs.store.Store.build.Goals as goal

pub invariant_of-result : goal.invariant_of-result
invariant_of-result c =
    let es = c.args.entities.items in
    let one : count_fault (projects_of es) ≡ None = search rules in
    let index : c.in_ok-index.index ≡ es = search rules in
    let right : least_fault (wrong_position c.in_ok-index.index) c.in_ok-index.index ≡ None = search rules in
    let none : fault_of es ≡ None = no_fault es one (subst (λ (all : List Entity). least_fault (wrong_position all) all ≡ None) index right) in
    rw index none

pub returns-in_default-least_wrong : goal.returns-in_default-least_wrong
returns-in_default-least_wrong c =
    let es = c.args.entities.items in
    let one : count_fault (projects_of es) ≡ None = search rules in
    let index : c.in_ok-index.index ≡ es = search rules in
    let right : least_fault (wrong_position c.in_ok-index.index) c.in_ok-index.index ≡ None = search rules in
    (no_fault es one (subst (λ (all : List Entity). least_fault (wrong_position all) all ≡ None) index right), index)
