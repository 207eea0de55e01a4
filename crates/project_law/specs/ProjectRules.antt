-- The rules of a project and a script: after each list of entries what the store then says of tree, roles, channels, paths and expressions, and
-- the edits with their verdicts.
use Rattle.std.specs.Prelude.{ℕ, ℤ, zero, suc, Bool, ◌==◌, max, List, [], ◌∷◌, ◌++◌, length, map, find, slice_get, Option, Some, None}
use Rattle.std.specs.Option.{option_map_or}
use Rattle.nc_base.specs.declared.verdict.Verdict.{Verdict}
use Rattle.nc_base.specs.declared.verdict.Verdict.TheVariants.{Accepted}
use Rattle.entity_types.specs.declared.entity.Entity.{Entity}
use Rattle.project_store.specs.Entities.{entity_at}
use Rattle.nc_expr.specs.Value.{value_of, holds}
use Rattle.exec_tree.specs.Exec.{Exec}
use Rattle.exec_tree.specs.declared.role.Role.{Role}
use Rattle.exec_tree.specs.Said.{condition_of, assigned_of}
use Rattle.exec_tree.specs.Role.{role_of}
use Rattle.exec_tree.specs.TreeFault.{walk_of}
use Rattle.exec_tree.specs.TreeOf.{tree_of}
use Rattle.exec_tree.specs.Walked.{number_among}
use Rattle.exec_tree.specs.Built.{main_of, channels_of, steps_of}
use Rattle.run_log.specs.declared.entry.Entry.{Entry}
use Rattle.trace_law.specs.State.{sent}
use Rattle.run_law.specs.Rules.{Rules}
use Rattle.project_versions.specs.Versions.{version_from}
use Rattle.edit_rules.specs.Judge.{judge}
use Rattle.project_law.specs.Script.{Edit, events_of, store_after, plan_after}
use Rattle.project_law.specs.Variables.{vars_after}
use Rattle.project_law.specs.Paths.{frozen_after}

-- ---- what a store says

-- the tree of its main workplan
abbrev pub store_tree : List Entity → Exec
store_tree store = tree_of (entity_at store) (main_of store)

-- the workingsteps of that tree, in preorder
abbrev pub store_steps : List Entity → List ℕ
store_steps store = steps_of (entity_at store) (main_of store)

-- the channels that its tree names, in the order of their first naming
abbrev pub store_channels : List Entity → List ℕ
store_channels store = channels_of (entity_at store) (main_of store)

-- the number of node n's channel among these channels: that of the nearest workplan, itself included, that names one, else 0
abbrev pub channel_among : List ℕ → List Entity → ℕ → ℕ
channel_among channels store n = option_map_or (λ v. number_among channels v.channel) (find (λ v. v.number == n) (walk_of (entity_at store) (main_of store))) 0

-- the role of node n
abbrev pub store_role : List Entity → ℕ → Role
store_role store n = role_of (entity_at store) n

-- the answer of node n's condition, by these values of the variables
abbrev pub answer_by : List Entity → (ℕ → ℤ) → ℕ → Bool
answer_by store vars n = holds vars (condition_of (entity_at store) (entity_at store n))

-- the value that node n assigns, by these values of the variables
abbrev pub value_by : List Entity → (ℕ → ℤ) → ℕ → ℤ
value_by store vars n = value_of vars (assigned_of (entity_at store) (entity_at store n))

-- ---- what a project and a script say after these entries

-- how many accepted edits reached n, each in the store that it met
abbrev pub version_after : List Edit → List Entity → List Entry → ℕ → ℕ
version_after script store t n = version_from script store n (events_of t)

-- the verdict on an edit, in this store with these steps of its tree, where these were dispatched
abbrev pub verdict_on : List Entity → List ℕ → List ℕ → Option Edit → Verdict
verdict_on store steps sent None = Accepted
verdict_on store steps sent (Some edit) = judge store steps sent edit.items

-- the verdict on edit i of the script
abbrev pub verdict_after : List Edit → List Entity → List Entry → ℕ → Verdict
verdict_after script store t i = verdict_on (store_after script store t) (store_steps (plan_after script store t)) (sent t) (slice_get script i)

-- the rules of a project and a script
abbrev pub rules_of : List Entity → List Edit → Rules
rules_of store script =
    record {
      tree = λ t. store_tree (plan_after script store t);
      role = λ t n. store_role (plan_after script store t) n;
      channel = λ t n. channel_among (store_channels store) (plan_after script store t) n;
      version = λ t n. version_after script store t n;
      path = λ t n. frozen_after script store t n;
      answer = λ t n. answer_by (plan_after script store t) (vars_after script store t) n;
      value = λ t n. value_by (plan_after script store t) (vars_after script store t) n;
      edits = map (λ edit. edit.at) script;
      verdict = λ t i. verdict_after script store t i;
    }

-- ---- the channels

-- the numbers below one, in order
abbrev pub upto : ℕ → List ℕ
upto zero = []
upto (suc k) = upto k ++ k ∷ []

-- the numbers of a project's channels, 0, 1 and so on: as many as its tree names, and 0 where it names none
abbrev pub channel_numbers : List Entity → List ℕ
channel_numbers store = upto (max 1 (length (store_channels store)))
