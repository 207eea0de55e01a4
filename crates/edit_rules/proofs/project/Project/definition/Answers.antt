use Rattle.std.proofs.Common.{rules, ℕ, List, subst}
use Rattle.entity_types.specs.declared.entity.Entity.{Entity}
use Rattle.edit_rules.specs.Faults.{IsDefOf}
use Rattle.edit_rules.specs.Project.{project_steps}
use Rattle.edit_rules.proofs.StepLemmas.{within, found}
use Rattle.edit_rules.proofs.project.Project.definition.Goals as goal

pub index-requires : goal.index-requires
index-requires c =
    let lt = within c.self.inside.steps.items c.in-Some.i.now c.args.n (c.self.invariant.indexed.found c.args.n c.in-Some.i.now (search rules)) in
    search (rules, lt)

pub returns-in-Some : goal.returns-in-Some
returns-in-Some c =
    subst (λ (es : List Entity). IsDefOf es (project_steps es) c.args.n c.index.result.now.def) c.self.view_is
    (subst (λ (ns : List ℕ). IsDefOf c.self.inside.store ns c.args.n c.index.result.now.def) c.self.invariant.steps_are
    (found c.self.inside.store c.self.inside.steps.items c.in-Some.i.now c.args.n c.index.result.now (c.self.invariant.indexed.found c.args.n c.in-Some.i.now (search rules)) (search rules) c.self.invariant.defs))
