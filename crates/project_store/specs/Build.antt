-- Which lists of entities are a project, and the first fault of one that isn't.
use Rattle.std.specs.Prelude.{◌≡◌, ℕ, Bool, false, ◌==◌, nat_lt, is_none, if◌then◌else◌, List, [], ◌∷◌, filter, find, Option, Some, None, option_map, Result, Ok, Err}
use Rattle.std.specs.Option.{option_map_or}
use Rattle.std.specs.List.{list_all}
use Rattle.entity_types.specs.declared.entity.Entity.{Entity}
use Rattle.entity_types.specs.declared.field.Field.{Field}
use Rattle.entity_types.specs.declared.table.Target.{Target}
use Rattle.entity_types.specs.declared.table.UsedPosition.{UsedPosition}
use Rattle.entity_types.specs.Class.{code_of}
use Rattle.entity_types.specs.Table.{used_of}
use Rattle.entity_types.specs.Target.{accepts}
use Rattle.entity_types.specs.Entity.{uses_of, references_of}
use Rattle.project_store.specs.declared.error.StoreErr.{StoreErr}
use Rattle.project_store.specs.declared.error.StoreErr.TheVariants.{NoProject, ManyProjects, Unresolved, WrongKind, NoMemory}
use Rattle.project_store.specs.Entities.{entity_at}

-- the entity is a PROJECT
abbrev pub is_project : Entity → Bool
is_project entity = code_of entity.class == 1

-- the PROJECTs, in order
abbrev pub projects_of : List Entity → List Entity
projects_of all = filter is_project all

-- these PROJECTs are none, or more than one
abbrev pub count_fault : List Entity → Option StoreErr
count_fault [] = Some NoProject
count_fault (project ∷ []) = None
count_fault (project ∷ second ∷ others) = Some (ManyProjects second.number)

-- the first of these references that names no entity
abbrev pub missing_among : List Entity → List ℕ → Option ℕ
missing_among all references = find (λ reference. is_none (entity_at all reference)) references

-- the first reference that the entity uses and that names no entity
abbrev pub missing_reference : List Entity → Entity → Option ℕ
missing_reference all entity = missing_among all (uses_of entity)

-- the reference names an entity of the target
abbrev pub is_of_target : List Entity → Target → ℕ → Bool
is_of_target all target reference = option_map_or (λ entity. accepts target entity.class) (entity_at all reference) false

-- the first of these positions whose field has a reference that names no entity of the position's target
abbrev pub wrong_among : List Entity → List UsedPosition → List Field → Option ℕ
wrong_among all [] fields = None
wrong_among all (used ∷ others) [] = None
wrong_among all (used ∷ others) (field ∷ fields) =
    if list_all (is_of_target all used.target) (references_of field) then wrong_among all others fields else Some used.position

-- the first used position of the entity with such a reference
abbrev pub wrong_position : List Entity → Entity → Option ℕ
wrong_position all entity = wrong_among all (used_of entity.class) entity.fields

-- of two faults, each with the number of its entity, the one of the lesser number; the first where both are of one
abbrev pub lesser : Option (ℕ × ℕ) → Option (ℕ × ℕ) → Option (ℕ × ℕ)
lesser None second = second
lesser (Some first) None = Some first
lesser (Some first) (Some second) = if nat_lt second.0 first.0 then Some second else Some first

-- the fault of the entity of the least number that has one, with that number
abbrev pub least_fault : (Entity → Option ℕ) → List Entity → Option (ℕ × ℕ)
least_fault fault_of_one [] = None
least_fault fault_of_one (entity ∷ entities) =
    lesser (option_map (λ fault. (entity.number, fault)) (fault_of_one entity)) (least_fault fault_of_one entities)

-- the first that is there
abbrev pub first_of : Option StoreErr → Option StoreErr → Option StoreErr
first_of None second = second
first_of (Some first) second = Some first

-- a used reference that names nothing: of the least number, the first one
abbrev pub missing_fault : List Entity → Option StoreErr
missing_fault all = option_map (λ fault. Unresolved fault.0 fault.1) (least_fault (missing_reference all) all)

-- a used reference to an entity of the wrong kind: of the least number, the least position
abbrev pub kind_fault : List Entity → Option StoreErr
kind_fault all = option_map (λ fault. WrongKind fault.0 fault.1) (least_fault (wrong_position all) all)

-- the first fault of the list, or None where it is a project: one PROJECT, and each used reference names an entity of its target
abbrev pub fault_of : List Entity → Option StoreErr
fault_of all = first_of (count_fault (projects_of all)) (first_of (missing_fault all) (kind_fault all))

-- what building a store of the list answers: the list where it has no fault, else its first fault, unless memory ran out
abbrev pub Builds : List Entity → Result (List Entity) StoreErr → Type 0
Builds all (Ok store) = (fault_of all ≡ None) × (store ≡ all)
Builds all (Err NoMemory) = Unit {0}
Builds all (Err fault) = fault_of all ≡ Some fault
