-- What is kept of the edits of a run's script, in terms of the entries so far.
use Rattle.std.specs.Prelude.{◌≡◌, ◌≤◌, ◌+◌, ◌||◌, ℕ, Bool, true, false, nat_le, List, [], ◌∷◌, length, drop, slice_get, Option, Some, None, IfSome, Contains}
use Rattle.std.specs.Option.{option_map_or}
use Rattle.entity_types.specs.declared.entity.Entity.{Entity}
use Rattle.entity_types.specs.declared.edit.Edit.{Edit}
use Rattle.project_store.specs.Entities.{entity_at}
use Rattle.step_def.specs.Condition.{is_workingstep}
use Rattle.exec_tree.specs.Exec.{has}
use Rattle.trace_law.specs.State.{sent}
use Rattle.run_log.specs.declared.entry.Entry.{Entry}
use Rattle.run_law.specs.Fits.{judged}
use Rattle.edit_rules.specs.Faults.{has_def}
use Rattle.edit_rules.specs.Judge.{reached}
use Rattle.project_law.specs.Script.{store_after}
use Rattle.project_law.specs.ProjectRules.{store_steps, version_after}
use Rattle.run_state.specs.declared.edits.Editing.{Editing}
use Rattle.run_state.specs.declared.edits.Edits.{Edits}
use Rattle.project_store.specs.Put.{put_items}
use Rattle.project_versions.specs.Versioned.{version_of, new_instances}
use Rattle.project_versions.specs.Versions.{one_where}
use Rattle.project_versions.specs.Reach.{is_reached}

-- the store as the edits left it: the project itself where there is no script
abbrev pub now_store : List Entity → Option Editing → List Entity
now_store project editing = option_map_or (λ e. e.versions.store) editing project

-- the version of a workingstep
abbrev pub version_now : Option Editing → ℕ → ℕ
version_now editing n = option_map_or (λ e. version_of e.versions.versions n) editing 0

-- where versions are kept, n has one
abbrev pub HasVersion : Option Editing → ℕ → Type 0
HasVersion editing n = IfSome editing (λ e. Contains e.versions.steps n × Contains e.sent.steps n)

-- how many items these edits put
abbrev pub items_in : List Edit → ℕ
items_in [] = 0
items_in (edit ∷ edits) = length edit.items + items_in edits

-- the edit is there, and its count of entries is reached or the run is stuck
abbrev pub due_by : Option Edit → ℕ → Bool → Bool
due_by edit count stuck = option_map_or (λ it. nat_le it.at count || stuck) edit false

-- what is kept where there is a script
pub record IsEditing (project : List Entity) (script : List Edit) (t : List Entry) (e : Editing) : Type 0 where
  pub steps : e.versions.steps ≡ store_steps project
  pub known : e.sent.steps ≡ store_steps project
  pub sent_are : (n : ℕ) → has e.sent.members n ≡ has (sent t) n
  pub room : items_in (drop (judged t) script) ≤ e.versions.spare

-- what is kept for a script before the first entry
pub record IsOpening (store : List Entity) (steps : List ℕ) (script : List Edit) (e : Editing) : Type 0 where
  pub store_is : e.versions.store ≡ store
  pub same_steps : e.versions.steps ≡ steps
  pub versions : (n : ℕ) → version_of e.versions.versions n ≡ 0
  pub room : e.versions.spare ≡ items_in script
  pub same_known : e.sent.steps ≡ steps
  pub empty : e.sent.members ≡ []

-- the edits so far are judged, and store, versions and dispatched steps are what the entries tell
pub record AreKept (project : List Entity) (t : List Entry) (edits : Edits) : Type 0 where
  pub count : edits.judged ≡ judged t
  pub store_is : now_store project edits.editing ≡ store_after edits.script project t
  pub versions_are : (n : ℕ) → has (store_steps project) n ≡ true → version_now edits.editing n ≡ version_after edits.script project t n
  pub defined : (n : ℕ) → has (store_steps project) n ≡ true → has_def (store_after edits.script project t) n ≡ true
  pub steps_are : (n : ℕ) → has (store_steps project) n ≡ true → is_workingstep (entity_at (store_after edits.script project t)) n ≡ true
  pub none : edits.editing ≡ None → edits.script ≡ []
  pub each : IfSome edits.editing (λ e. IsEditing project edits.script t e)

-- how many workingsteps the edit reaches in the store as the edits left it
abbrev pub reached_by : List Entity → List Edit → List Entry → ℕ → ℕ
reached_by project script t i = option_map_or (λ edit. length (reached (store_after script project t) (store_steps project) edit.items)) (slice_get script i) 0

-- the edit is put: its items stand in the store, and the version of each step that it reaches is one more
pub record IsPut (edit : Edit) (before after : Editing) : Type 0 where
  pub sets : after.sent ≡ before.sent
  pub stores : after.versions.store ≡ put_items before.versions.store edit.items
  pub same_steps : after.versions.steps ≡ before.versions.steps
  pub versions : (n : ℕ) → Contains before.versions.steps n → version_of after.versions.versions n ≡ version_of before.versions.versions n + one_where (is_reached before.versions.store edit.items n)
  pub spares : after.versions.spare + new_instances before.versions.store edit.items ≡ before.versions.spare

-- the next edit is put
abbrev pub PutsNext : Option Edit → Option Editing → Option Editing → Type 0
PutsNext None old new = ⊥
PutsNext (Some edit) old new = (before : Editing) × (after : Editing) × (old ≡ Some before) × (new ≡ Some after) × IsPut edit before after
