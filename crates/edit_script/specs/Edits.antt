-- What the edits of a script are, and which of them is the first with a fault.
use Rattle.std.specs.Prelude.{◌≡◌, ℕ, suc, ◌<◌, ◌≤◌, nat_eq, ◌⊎◌, List, [], ◌∷◌, ◌++◌, map, Result, Ok, Err}
use Rattle.std.specs.List.{IsDistinct}
use Rattle.p21_parse.specs.Tree.{InstanceTree}
use Rattle.p21_parse.specs.Allowed.{own_number_of}
use Rattle.entity_types.specs.declared.edit.Edit.{Edit}
use Rattle.entity_read.specs.declared.error.TypeErr.{TypeErr}
use Rattle.entity_read.specs.declared.error.TypeErr.TheVariants.{BadAttribute}
use Rattle.entity_read.specs.Typed.{EntityTree, entity_of, typed_of}
use Rattle.edit_script.specs.declared.error.ScriptErr.{ScriptErr}
use Rattle.edit_script.specs.declared.error.ScriptErr.TheVariants.{AtOrder, Repeated, Attribute}
use Rattle.edit_script.specs.Script.{EditTree, moment_of}

-- an edit: from when on it is due, and the entities that it puts
pub record EditModel : Type 0 where
  pub at : ℕ
  pub items : List EntityTree

abbrev pub model_of : Edit → EditModel
model_of edit = record { at = edit.at; items = map entity_of edit.items }

-- the numbers that an edit puts
abbrev pub numbers_of : EditTree → List ℕ
numbers_of e = map own_number_of e.items

-- The number is the first that stands a second time.
pub record IsRepeat (numbers : List ℕ) (number : ℕ) : Type 0 where
  pub before : List ℕ
  pub after : List ℕ
  pub parts : numbers ≡ before ++ number ∷ after
  pub distinct : IsDistinct nat_eq before
  pub twice : IsDistinct nat_eq (before ++ number ∷ []) → ⊥

-- an entity, or the bad position of instance n, and then those behind it
abbrev pub with_entity : ℕ → Result EntityTree ℕ → Result (List EntityTree) TypeErr → Result (List EntityTree) TypeErr
with_entity n (Err position) rest = Err (BadAttribute n position)
with_entity n (Ok e) (Ok es) = Ok (e ∷ es)
with_entity n (Ok e) (Err fault) = Err fault

-- the entities of the instances, or the bad attribute of the first instance that has one, at its least position
abbrev pub entities_of : List InstanceTree → Result (List EntityTree) TypeErr
entities_of [] = Ok []
entities_of (i ∷ is) = with_entity i.number (typed_of i) (entities_of is)

-- An edit has no fault, and is this one. The edit before it is due at a given moment.
pub record IsSound (before : ℕ) (e : EditTree) (m : EditModel) : Type 0 where
  pub ordered : before ≤ moment_of e
  pub distinct : IsDistinct nat_eq (numbers_of e)
  pub typed : entities_of e.items ≡ Ok m.items
  pub moment : m.at ≡ moment_of e

-- The fault of an edit, which has a given index: it is due before the edit in front of it; else a number stands twice; else an attribute is bad.
abbrev pub IsFault : ℕ → ℕ → EditTree → ScriptErr → Type 0
IsFault index before e (AtOrder edit) = (edit ≡ index) × (moment_of e < before)
IsFault index before e (Repeated edit number) = (edit ≡ index) × (before ≤ moment_of e) × IsRepeat (numbers_of e) number
IsFault index before e (Attribute edit number position) =
    (edit ≡ index) × (before ≤ moment_of e) × IsDistinct nat_eq (numbers_of e) × (entities_of e.items ≡ Err (BadAttribute number position))
IsFault index before e _ = ⊥

-- the edits have no fault, and are these
abbrev pub AreSound : ℕ → List EditTree → List EditModel → Type 0
AreSound before [] [] = Unit {0}
AreSound before (e ∷ es) (m ∷ ms) = IsSound before e m × AreSound (moment_of e) es ms
AreSound before _ _ = ⊥

-- The first of the edits that has a fault has this one.
abbrev pub IsFirstFault : ℕ → ℕ → List EditTree → ScriptErr → Type 0
IsFirstFault index before [] fault = ⊥
IsFirstFault index before (e ∷ es) fault =
    IsFault index before e fault ⊎ ((m : EditModel) × IsSound before e m × IsFirstFault (suc index) (moment_of e) es fault)
