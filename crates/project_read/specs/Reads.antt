-- What the calls of this crate answer.
use Rattle.std.specs.Prelude.{◌≡◌, ℕ, nat_eq, List, map, Result, Ok, Err}
use Rattle.std.specs.Global.{Vec}
use Rattle.std.specs.List.{IsDistinct}
use Rattle.p21_parse.specs.Tree.{InstanceTree}
use Rattle.p21_parse.specs.Allowed.{own_number_of}
use Rattle.entity_types.specs.declared.entity.Entity.{Entity}
use Rattle.entity_read.specs.Typed.{entity_of}
use Rattle.project_store.specs.Entities.{numbers_of}
use Rattle.exec_tree.specs.Built.{main_of}
use Rattle.edit_rules.specs.Project.{project_steps}
use Rattle.project_read.specs.declared.reason.ProjectReason.TheVariants.{Attribute}
use Rattle.project_read.specs.declared.reason.ProjectErr.{ProjectErr}
use Rattle.project_read.specs.declared.reason.ProjectErr.TheVariants.{Refused, NoMemory}
use Rattle.project_read.specs.Typing.{all_typed}
use Rattle.project_read.specs.Holds.{Project, HasEntities, HasStore, Holds}
use Rattle.project_read.specs.Refuses.{Refuses}

-- the entities of the instances, or the first bad attribute, unless memory ran out
abbrev pub AllTyped : List InstanceTree → Result (Vec Entity) ProjectErr → Type 0
AllTyped instances (Ok entities) = (all_typed instances ≡ Ok (map entity_of entities.items)) × (numbers_of entities.items ≡ map own_number_of instances)
AllTyped instances (Err (Refused (Attribute fault))) = all_typed instances ≡ Err fault
AllTyped instances (Err (Refused reason)) = ⊥
AllTyped instances (Err NoMemory) = Unit {0}

-- the entities of the bytes, of which each has a number of its own, or why there are none, unless memory ran out
abbrev pub ReadsEntities : List ℕ → Result (Vec Entity) ProjectErr → Type 0
ReadsEntities bytes (Ok entities) = HasEntities bytes entities.items × IsDistinct nat_eq (numbers_of entities.items)
ReadsEntities bytes (Err (Refused reason)) = Refuses bytes reason
ReadsEntities bytes (Err NoMemory) = Unit {0}

-- the entities of the bytes as a store, or why there is none, unless memory ran out
abbrev pub ReadsStore : List ℕ → Result (List Entity) ProjectErr → Type 0
ReadsStore bytes (Ok entities) = HasStore bytes entities
ReadsStore bytes (Err (Refused reason)) = Refuses bytes reason
ReadsStore bytes (Err NoMemory) = Unit {0}

-- the project of a store's entities
abbrev pub model_of : List Entity → Project
model_of entities = record { entities = entities; main = main_of entities; steps = project_steps entities }

-- the project that stands in the bytes, or why none stands there, unless memory ran out
abbrev pub Reads : List ℕ → Result (List Entity) ProjectErr → Type 0
Reads bytes (Ok entities) = Holds bytes (model_of entities)
Reads bytes (Err (Refused reason)) = Refuses bytes reason
Reads bytes (Err NoMemory) = Unit {0}
