-- What is kept of the edits that were read.
use Rattle.std.specs.Prelude.{◌≡◌, ℕ, ◌+◌, ◌<◌, nat_eq, List, [], ◌∷◌, length, map, take, Option, Some, None, Result, Ok, Err}
use Rattle.std.specs.List.{IsDistinct}
use Rattle.p21_parse.specs.Tree.{InstanceTree}
use Rattle.entity_types.specs.declared.edit.Edit.{Edit}
use Rattle.entity_types.specs.declared.entity.Entity.{Entity}
use Rattle.entity_read.specs.declared.error.TypeErr.TheVariants.{BadAttribute}
use Rattle.entity_read.specs.Typed.{entity_of}
use Rattle.edit_script.specs.declared.error.ScriptErr.{ScriptErr}
use Rattle.edit_script.specs.declared.error.ScriptErr.TheVariants.{Attribute, NoMemory}
use Rattle.edit_script.specs.declared.gathered.Gathered.{Gathered}
use Rattle.edit_script.specs.Script.{EditTree, moment_of}
use Rattle.edit_script.specs.Edits.{model_of, IsRepeat, entities_of, IsSound, IsFault, AreSound, IsFirstFault}

-- So many numbers are distinct, and with one more they are not.
pub record IsRepeatAt (numbers : List ℕ) (i : ℕ) : Type 0 where
  pub within : i < length numbers
  pub distinct : IsDistinct nat_eq (take i numbers)
  pub twice : IsDistinct nat_eq (take (i + 1) numbers) → ⊥

-- the first number that stands a second time, or all are distinct
abbrev pub RepeatIs : List ℕ → Option ℕ → Type 0
RepeatIs numbers None = IsDistinct nat_eq numbers
RepeatIs numbers (Some number) = IsRepeat numbers number

-- the entities of an edit's instances, or the first bad attribute, unless memory ran out
abbrev pub AreTyped : ℕ → List InstanceTree → Result (List Entity) ScriptErr → Type 0
AreTyped index items (Ok entities) = entities_of items ≡ Ok (map entity_of entities)
AreTyped index items (Err (Attribute edit number position)) = (edit ≡ index) × (entities_of items ≡ Err (BadAttribute number position))
AreTyped index items (Err NoMemory) = Unit {0}
AreTyped index items (Err _) = ⊥

-- the edit, or its first fault, unless memory ran out
abbrev pub Judges : ℕ → ℕ → EditTree → Result Edit ScriptErr → Type 0
Judges index before e (Ok edit) = IsSound before e (model_of edit)
Judges index before e (Err NoMemory) = Unit {0}
Judges index before e (Err fault) = IsFault index before e fault

-- the error is this fault, and not want of memory
abbrev pub IsFaultIn : ScriptErr → ScriptErr → Type 0
IsFaultIn NoMemory fault = ⊥
IsFaultIn e fault = fault ≡ e

-- from when on the last edit is due, or a given moment where there is none
abbrev pub last_moment : ℕ → List EditTree → ℕ
last_moment before [] = before
last_moment before (e ∷ es) = last_moment (moment_of e) es

-- the edits are these, of which the last is due at a moment, or they have this first fault
abbrev pub AreKept : List EditTree → List Edit → ℕ → Option ScriptErr → Type 0
AreKept es edits last None = AreSound 0 es (map model_of edits) × (last ≡ last_moment 0 es)
AreKept es edits last (Some fault) = IsFirstFault 0 0 es fault

-- what is kept is of these edits
pub record IsGathered (es : List EditTree) (g : Gathered) : Type 0 where
  pub count : g.count ≡ length es
  pub kept : AreKept es g.edits g.last g.fault

-- the edits, or their first fault
abbrev pub Finishes : List EditTree → Result (List Edit) ScriptErr → Type 0
Finishes es (Ok edits) = AreSound 0 es (map model_of edits)
Finishes es (Err fault) = IsFirstFault 0 0 es fault
