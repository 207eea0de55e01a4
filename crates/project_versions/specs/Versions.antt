-- The store after edits, and the versions of workingsteps.
use Rattle.std.specs.Prelude.{ℕ, ◌+◌, Bool, true, false, List, [], ◌∷◌, slice_get, Option, Some, None, Result}
use Rattle.nc_base.specs.declared.verdict.Verdict.{Verdict}
use Rattle.nc_base.specs.declared.verdict.Verdict.TheVariants.{Accepted}
use Rattle.path_blocks.specs.declared.def.Def.{Def}
use Rattle.entity_types.specs.declared.entity.Entity.{Entity}
use Rattle.entity_types.specs.declared.edit.Edit.{Edit}
use Rattle.project_store.specs.Entities.{entity_at}
pub use Rattle.project_store.specs.Put.{put_in, put_items}
use Rattle.step_def.specs.declared.fault.DefFault.{DefFault}
use Rattle.step_def.specs.DefOf.{def_of}
use Rattle.project_versions.specs.Reach.{is_reached}

-- an entry of a log as edits see it: the verdict on an edit of the script, or any other
pub data Event : Type 0 where
  Judged : ℕ → Verdict → Event
  Other : Event

-- the store with an edit put, where there is one
abbrev pub put_edit : List Entity → Option Edit → List Entity
put_edit store None = store
put_edit store (Some edit) = put_items store edit.items

-- the store after an event: an edit that was accepted is put
abbrev pub store_by : List Edit → List Entity → Event → List Entity
store_by script store (Judged i Accepted) = put_edit store (slice_get script i)
store_by script store _ = store

-- the store after these events: the edits that were accepted are put in order
abbrev pub store_from : List Edit → List Entity → List Event → List Entity
store_from script store [] = store
store_from script store (x ∷ t) = store_from script (store_by script store x) t

-- one where the test holds, else none
abbrev pub one_where : Bool → ℕ
one_where true = 1
one_where false = 0

-- one where there is an edit that reaches n in this store
abbrev pub reaches_edit : List Entity → Option Edit → ℕ → ℕ
reaches_edit store None n = 0
reaches_edit store (Some edit) n = one_where (is_reached store edit.items n)

-- by how much the version of n rises with an event in this store
abbrev pub rises_by : List Edit → List Entity → ℕ → Event → ℕ
rises_by script store n (Judged i Accepted) = reaches_edit store (slice_get script i) n
rises_by script store n _ = 0

-- the version of n after these events: how many accepted edits reach it, each in the store that it met
abbrev pub version_from : List Edit → List Entity → ℕ → List Event → ℕ
version_from script store n [] = 0
version_from script store n (x ∷ t) = rises_by script store n x + version_from script (store_by script store x) n t

-- the definition of workingstep n after these events
abbrev pub definition_from : List Edit → List Entity → List Event → ℕ → Result Def DefFault
definition_from script store t n = def_of (entity_at (store_from script store t)) n
