use Rattle.std.proofs.Common.{◌≡◌, ◌∙◌, ℕ, ℤ, List, ap, sym, subst, length, pos}
use Rattle.std.proofs.lemmas.List.{length-map}
use Rattle.std.specs.Prelude.{Option, Some, IsSome, unwrap_or}
use Rattle.nc_expr.specs.Vars.{value_at, value_of_variable, last_value}
use Rattle.exec_tree.specs.Said.{Said, said_by}
use Rattle.project_law.specs.Variables.{opening_vars}
use Rattle.run_state.specs.State.{variable_in}
use Rattle.run_state.specs.Opening.{AreAssigned}
use Rattle.run_state.proofs.OpeningLemmas.{opening_told, assigned_there, if_ok}
use Rattle.run_state.proofs.variables.opening_vars.Goals as goal

pub returns-clause-opening : goal.returns-clause-opening
returns-clause-opening c =
    if_ok c.new.result (λ (vars : List (ℕ × ℤ)). (n : ℕ) → value_of_variable vars n ≡ last_value c.as_slice.result.now n) (λ (vars : List (ℕ × ℤ)). (v : ℕ) → value_at vars v ≡ opening_vars c.args.store.now v)
    (λ vars h v. ap (λ (o : Option ℤ). unwrap_or o (pos 0)) (h v ∙ ap (λ (ps : List (ℕ × ℤ)). last_value ps v) c.as_slice.ensures.value)
    ∙ opening_told c.args.store.now c.open_assigned.new.pairs.items c.in_ok-open_assigned.ensures.opening v) c.new.ensures

pub returns-clause-assigned : goal.returns-clause-assigned
returns-clause-assigned c =
    let said = subst (λ (said : List Said). AreAssigned said (length c.nodes.result.now) c.open_assigned.new.pairs.items) c.nodes.ensures.said c.in_ok-open_assigned.ensures.assigned in
    if_ok c.new.result (λ (vars : List (ℕ × ℤ)). (n : ℕ) → value_of_variable vars n ≡ last_value c.as_slice.result.now n)
    (λ (vars : List (ℕ × ℤ)). (n v : ℕ) → variable_in c.args.tree.now n ≡ Some v → IsSome (value_of_variable vars v))
    (λ vars h n v e. subst IsSome (sym (h v ∙ ap (λ (ps : List (ℕ × ℤ)). last_value ps v) c.as_slice.ensures.value))
    (assigned_there c.args.tree.now.nodes c.args.tree.now.said (length c.nodes.result.now) c.open_assigned.new.pairs.items
    (ap length (sym c.nodes.ensures.said) ∙ length-map c.nodes.result.now said_by) said n v e)) c.new.ensures
