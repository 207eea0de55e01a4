-- The verdict on an edit (this profile). Of each rule, items are taken in the edit's order, then by position, then by place in a list.
use Rattle.std.specs.Prelude.{ℕ, Bool, false, ◌&&◌, ◌||◌, ◌==◌, not, is_none, if◌then◌else◌, List, [], ◌∷◌, find, filter, Option, Some, None, option_map, unwrap_or, Result, Ok, Err}
use Rattle.std.specs.Option.{option_or, option_map_or}
use Rattle.std.specs.List.{list_all}
use Rattle.nc_base.specs.declared.verdict.Verdict.{Verdict}
use Rattle.nc_base.specs.declared.verdict.Verdict.TheVariants.{Accepted, Refused}
use Rattle.path_blocks.specs.declared.def.Def.{Def}
use Rattle.entity_types.specs.declared.entity.Entity.{Entity}
use Rattle.entity_types.specs.declared.field.Field.{Field}
use Rattle.entity_types.specs.declared.table.Target.{Target}
use Rattle.entity_types.specs.declared.table.UsedPosition.{UsedPosition}
use Rattle.entity_types.specs.declared.class.Class.TheVariants.{Project, NcProduct, MachiningWorkingstep}
use Rattle.entity_types.specs.declared.class.Class.{Class}
use Rattle.entity_types.specs.Class.{code_of}
use Rattle.entity_types.specs.Table.{used_of}
use Rattle.entity_types.specs.Target.{accepts, is_class_between}
use Rattle.entity_types.specs.Entity.{references_of}
use Rattle.project_store.specs.Entities.{entity_at}
use Rattle.project_store.specs.Build.{lesser}
use Rattle.step_def.specs.declared.fault.DefFault.{DefFault}
use Rattle.step_def.specs.DefOf.{def_of}
use Rattle.step_def.specs.FaultCode.{fault_code}
use Rattle.exec_tree.specs.Exec.{has}
use Rattle.project_versions.specs.Reach.{after, is_reached}

-- the first that a test gives
abbrev pub first_given : {A B : Type 0} → (A → Option B) → List A → Option B
first_given test [] = None
first_given test (x ∷ xs) = option_or (test x) (first_given test xs)

-- ---- J1: what an edit may put

-- the class is of what a run is made of: the project, executables, channels and expressions, which no edit may add
abbrev pub is_of_program : Class → Bool
is_of_program class = is_class_between Project NcProduct class

-- the entity may be put under its number again: it is a workingstep, or nothing that a run is made of
abbrev pub is_replaceable : Class → Bool
is_replaceable class = code_of class == code_of MachiningWorkingstep || not (is_of_program class)

-- the code of the class that keeps an item from being put where this entity stands: that of an entity that no edit may replace, or that isn't
-- of the item's class; of a new one, which no edit may add, its own
abbrev pub class_fault_by : Option Entity → Entity → Option ℕ
class_fault_by None item = if is_of_program item.class then Some (code_of item.class) else None
class_fault_by (Some old) item = if is_replaceable old.class && code_of old.class == code_of item.class then None else Some (code_of old.class)

-- the item's number, with that code
abbrev pub class_fault : (ℕ → Option Entity) → Entity → Option Verdict
class_fault entities item = option_map (λ class. Refused 1 item.number class) (class_fault_by (entities item.number) item)

-- ---- J2: a used reference names nothing

-- the first of these references that names nothing
abbrev pub missing_among : (ℕ → Option Entity) → List ℕ → Option ℕ
missing_among entities references = find (λ reference. is_none (entities reference)) references

-- the first reference of these fields that names nothing
abbrev pub missing_reference : (ℕ → Option Entity) → List Field → Option ℕ
missing_reference entities fields = first_given (λ field. missing_among entities (references_of field)) fields

-- the item's number, with that reference
abbrev pub missing_fault : (ℕ → Option Entity) → Entity → Option Verdict
missing_fault entities item = option_map (λ reference. Refused 2 item.number reference) (missing_reference entities item.fields)

-- ---- J3: a used reference names an entity of the wrong kind

-- the reference names an entity of the target
abbrev pub is_of_target : (ℕ → Option Entity) → Target → ℕ → Bool
is_of_target entities target reference = option_map_or (λ entity. accepts target entity.class) (entities reference) false

-- the first of these positions whose field has a reference that names no entity of the position's target
abbrev pub wrong_among : (ℕ → Option Entity) → List UsedPosition → List Field → Option ℕ
wrong_among entities [] fields = None
wrong_among entities (used ∷ others) [] = None
wrong_among entities (used ∷ others) (field ∷ fields) =
    if list_all (is_of_target entities used.target) (references_of field) then wrong_among entities others fields else Some used.position

-- the item's number, with that position
abbrev pub kind_fault : (ℕ → Option Entity) → Entity → Option Verdict
kind_fault entities item = option_map (λ position. Refused 3 item.number position) (wrong_among entities (used_of item.class) item.fields)

-- ---- J4 and J5: the least of some steps with a fault

-- the least step that has a fault, with that fault
abbrev pub least_step : (ℕ → Option ℕ) → List ℕ → Option (ℕ × ℕ)
least_step fault_of_one [] = None
least_step fault_of_one (n ∷ ns) = lesser (option_map (λ fault. (n, fault)) (fault_of_one n)) (least_step fault_of_one ns)

-- a step that was dispatched has the fault 0
abbrev pub sent_fault : List ℕ → ℕ → Option ℕ
sent_fault sent n = if has sent n then Some 0 else None

-- the code of a definition's fault
abbrev pub code_in : Result Def DefFault → Option ℕ
code_in (Ok def) = None
code_in (Err fault) = Some (fault_code fault)

-- the code of the fault of a step's definition
abbrev pub step_fault : (ℕ → Option Entity) → ℕ → Option ℕ
step_fault entities n = code_in (def_of entities n)

-- of these steps, those that the edit reaches
abbrev pub reached : List Entity → List ℕ → List Entity → List ℕ
reached store steps items = filter (is_reached store items) steps

-- the steps after the edit that it reaches, or that weren't among those before it
abbrev pub touched : List Entity → List ℕ → List ℕ → List Entity → List ℕ
touched store before later items = filter (λ n. is_reached store items n || not (has before n)) later

-- a rule refuses because of this step, with this fault
abbrev pub refused_step : ℕ → ℕ × ℕ → Verdict
refused_step rule found = Refused rule found.0 found.1

-- ---- the rules, in order

-- J1: an item may not be put, since it or what it replaces is of what a run is made of, or since its class isn't that of what it replaces
abbrev pub j1 : List Entity → List Entity → Option Verdict
j1 store items = first_given (class_fault (entity_at store)) items

-- J2: a used reference of an item is in neither the store nor the edit
abbrev pub j2 : List Entity → List Entity → Option Verdict
j2 store items = first_given (missing_fault (after store items)) items

-- J3: a used reference of an item isn't of its position's target, in the store with the edit put
abbrev pub j3 : List Entity → List Entity → Option Verdict
j3 store items = first_given (kind_fault (after store items)) items

-- J4: the edit reaches a step of the tree that was dispatched
abbrev pub j4 : List Entity → List ℕ → List ℕ → List Entity → Option Verdict
j4 store steps sent items = option_map (refused_step 4) (least_step (sent_fault sent) (reached store steps items))

-- J5: a step of the tree after the edit that it reaches, or that is new there, has a faulty definition in the store with the edit put
abbrev pub j5 : List Entity → List ℕ → List ℕ → List Entity → Option Verdict
j5 store before later items = option_map (refused_step 5) (least_step (step_fault (after store items)) (touched store before later items))

-- the first of the rules that applies, where the tree has these steps before the edit and those later
abbrev pub first_refusal : List Entity → List ℕ → List ℕ → List ℕ → List Entity → Option Verdict
first_refusal store before later sent items =
    option_or (j1 store items) (option_or (j2 store items) (option_or (j3 store items) (option_or (j4 store before sent items) (j5 store before later items))))

-- the verdict on an edit that leaves the tree's steps: the first rule that applies refuses it, else it is accepted
abbrev pub judge : List Entity → List ℕ → List ℕ → List Entity → Verdict
judge store steps sent items = unwrap_or (first_refusal store steps steps sent items) Accepted
