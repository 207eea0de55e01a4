use Rattle.std.proofs.Common.{◌≡◌, ◌∙◌, subst, sym, ap, ℕ, [], List, true}
use Rattle.entity_types.specs.declared.entity.Entity.{Entity}
use Rattle.project_store.specs.Entities.{entity_at}
use Rattle.std.specs.List.{list_all}
use Rattle.step_def.specs.Condition.{is_workingstep}
use Rattle.edit_rules.specs.Faults.{has_def}
use Rattle.exec_tree.specs.TreeFault.{nothing_seen}
use Rattle.exec_tree.specs.Built.{main_of}
use Rattle.run_log.specs.declared.entry.Entry.{Entry}
use Rattle.project_law.specs.ProjectRules.{rules_of, store_steps}
use Rattle.project_law.specs.Variables.{opening_vars}
use Rattle.nc_expr.specs.Vars.{value_at}
use Rattle.run_state.specs.Kept.{IsState}
use Rattle.entity_types.specs.declared.edit.Edit.{Edit}
use Rattle.run_state.specs.Edits.{AreKept}
use Rattle.run_state.proofs.StateLemmas.{no_marks, none_open}
use Rattle.run_state.proofs.state.open_with.Goals as goal

pub open-requires-clause-steps : goal.open-requires-clause-steps
open-requires-clause-steps c =
    let p = c.args.project in
    c.steps.ensures ∙ (c.trees_tell.ensures.steps nothing_seen (entity_at p) (main_of p) c.parts-store.result.1 c.parts-store.ensures.tree ∙ ap store_steps (sym c.parts-store.ensures.store))

pub open-requires-clause-defined : goal.open-requires-clause-defined
open-requires-clause-defined c =
    subst (λ (q : List Entity). list_all (has_def q) (store_steps q) ≡ true) (sym c.parts-store.ensures.store) c.sound.ensures.defined

pub open-requires-clause-workingsteps : goal.open-requires-clause-workingsteps
open-requires-clause-workingsteps c =
    let p = c.args.project in
    subst (λ (q : List Entity). list_all (is_workingstep (entity_at q)) (store_steps q) ≡ true) (sym c.parts-store.ensures.store) (c.tree_steps_are_workingsteps.ensures (entity_at p) (main_of p))

pub invariant_of-result : goal.invariant_of-result
invariant_of-result c =
    let p = c.args.project in
    let s = c.args.script in
    let tree = c.parts-store.result.1 in
    let kept : IsState p s tree c.in_ok-frames.frames [] c.in_ok-marks.marks c.in_ok-vars.vars c.in_ok-steps.steps = record {
      tree_is = c.parts-store.ensures.tree;
      at = c.in_ok-frames.ensures.at;
      sorted = c.in_ok-frames.ensures.sorted;
      legal = c.legal_runs.ensures.none (rules_of p s);
      flags_fit = c.in_ok-marks.ensures.count ∙ c.len.ensures;
      marks_are = no_marks tree.nodes c.in_ok-marks.marks c.in_ok-marks.ensures.none;
      vars_are = subst (λ (q : List Entity). (v : ℕ) → value_at c.in_ok-vars.vars v ≡ opening_vars q v) c.parts-store.ensures.store c.in_ok-vars.ensures.opening;
      vars_there = c.in_ok-vars.ensures.assigned;
      steps_are = none_open (rules_of p s) c.in_ok-steps.steps c.in_ok-steps.ensures;
    } in
    let frames = c.in_ok-frames.frames in
    let listed : c.args.journal.list ≡ [] = c.requires in (
      subst (λ (q : List Entity). IsState q c.in_ok-edits.edits.script tree frames c.args.journal.list c.in_ok-marks.marks c.in_ok-vars.vars c.in_ok-steps.steps) (sym c.parts-store.ensures.store)
          (subst (λ (r : List Edit). IsState p r tree frames c.args.journal.list c.in_ok-marks.marks c.in_ok-vars.vars c.in_ok-steps.steps) (sym c.in_ok-edits.ensures.script)
          (subst (λ (u : List Entry). IsState p s tree frames u c.in_ok-marks.marks c.in_ok-vars.vars c.in_ok-steps.steps) (sym listed) kept)),
      subst (λ (u : List Entry). AreKept c.parts-store.result.0 u c.in_ok-edits.edits) (sym listed) c.in_ok-edits.ensures.kept,
    )
