-- The instances of the project can stand in a file, so that no list of them is refused.
use Rattle.std.proofs.Common.{◌≡◌, ℕ, ◌+◌, ◌*◌, ◌≤◌, List, subst, arith}
use Rattle.std.specs.List.{flat_map, range_with_len}
use Rattle.p21_parse.specs.Tree.{InstanceTree}
use Rattle.p21_parse.specs.Built.{IsFirstInvalid}
use Rattle.big_case.specs.Project.{front, instances_at, project_items}
use Rattle.big_case.proofs.Rising.{Rises, rises_append, never_refused}
use Rattle.big_case.proofs.StepRises.{steps_rise}
use Rattle.big_case.proofs.FrontRises.{front_rises}

project_rises : (steps start : ℕ) → steps ≤ 1000 → Rises 1 (1000 + 20 * steps) (project_items steps start)
project_rises steps start le =
    rises_append 1 1000 (1000 + 20 * steps) (front steps) (flat_map (instances_at start) (range_with_len 0 steps)) (front_rises steps le) (steps_rise start steps le)

pub project_is_taken : (steps start n : ℕ) (items : List InstanceTree) → steps ≤ 1000 → items ≡ project_items steps start → IsFirstInvalid items n → ⊥
project_is_taken steps start n items le e refused =
    never_refused 1 (1000 + 20 * steps) n (project_items steps start) (omega arith) (project_rises steps start le)
    (subst (λ (is : List InstanceTree). IsFirstInvalid is n) e refused)
