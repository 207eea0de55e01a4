-- The script that bytes hold, or why they hold none.
use Rattle.std.specs.Prelude.{◌≡◌, ℕ, List, [], map, Result, Ok, Err}
use Rattle.std.specs.List.{AllByRecursion}
use Rattle.p21_lex.specs.declared.error.LexErr.TheVariants as lexes
use Rattle.p21_lex.specs.declared.token.Token.{Token}
use Rattle.p21_lex.specs.Reading.{IsToken}
use Rattle.p21_lex.specs.Reading as reading
use Rattle.p21_lex.specs.Refusal.{IsRefused}
use Rattle.p21_parse.specs.Symbol.{symbols}
use Rattle.p21_parse.specs.Spell.{spell_all}
use Rattle.p21_parse.specs.Places.{place_of}
use Rattle.entity_types.specs.declared.edit.Edit.{Edit}
use Rattle.edit_script.specs.declared.limits.TheConstants.{MAX_EDITS}
use Rattle.edit_script.specs.declared.error.ScriptErr.{ScriptErr}
use Rattle.edit_script.specs.declared.error.ScriptErr.TheVariants.{Lex, Syntax, TooDeep, TooMany, AtOrder, Repeated, Attribute, NoMemory}
use Rattle.edit_script.specs.Script.{EditTree, spell_edit, AreAllowed}
use Rattle.edit_script.specs.Refused.{Cause, syntax, too_deep, too_many}
use Rattle.edit_script.specs.Refused as refused
use Rattle.edit_script.specs.Edits.{EditModel, model_of, AreSound, IsFirstFault}

-- The bytes are a script: their tokens spell these edits, which the grammar and the limits allow.
pub record IsText (bytes : List ℕ) (es : List EditTree) : Type 0 where
  pub tokens : List Token
  pub reads : reading.Reads 0 tokens bytes
  pub inside : AllByRecursion (IsToken bytes) tokens
  pub spells : symbols bytes tokens ≡ spell_all spell_edit es []
  pub allowed : AreAllowed MAX_EDITS es

-- The bytes have tokens, and these are no script for this cause, from this place on.
pub record HasRefusal (bytes : List ℕ) (cause : Cause) (place : ℕ) : Type 0 where
  pub tokens : List Token
  pub reads : reading.Reads 0 tokens bytes
  pub inside : AllByRecursion (IsToken bytes) tokens
  pub left : ℕ
  pub refused : refused.Refuses MAX_EDITS cause (symbols bytes tokens) left
  pub there : place ≡ place_of bytes tokens left

-- The bytes hold the script: they are edits, none of which has a fault.
abbrev pub Holds : List ℕ → List EditModel → Type 0
Holds bytes ms = (es : List EditTree) × IsText bytes es × AreSound 0 es ms

-- the bytes are edits, and this is the first fault of one
abbrev pub HasFault : List ℕ → ScriptErr → Type 0
HasFault bytes fault = (es : List EditTree) × IsText bytes es × IsFirstFault 0 0 es fault

-- Why the bytes hold no script: the first fault of their tokens; else whichever refusal stands at the earliest token; else the first fault of an edit.
-- Want of memory is none of these reasons.
abbrev pub Refuses : List ℕ → ScriptErr → Type 0
Refuses bytes (Lex lexes.NoMemory) = ⊥
Refuses bytes (Lex fault) = IsRefused bytes fault
Refuses bytes (Syntax place) = HasRefusal bytes syntax place
Refuses bytes (TooDeep place) = HasRefusal bytes too_deep place
Refuses bytes (TooMany place) = HasRefusal bytes too_many place
Refuses bytes (AtOrder edit) = HasFault bytes (AtOrder edit)
Refuses bytes (Repeated edit number) = HasFault bytes (Repeated edit number)
Refuses bytes (Attribute edit number position) = HasFault bytes (Attribute edit number position)
Refuses bytes NoMemory = ⊥

-- the script that stands in the bytes, or why none stands there, unless memory ran out
abbrev pub Reads : List ℕ → Result (List Edit) ScriptErr → Type 0
Reads bytes (Ok script) = Holds bytes (map model_of script)
Reads bytes (Err NoMemory) = Unit {0}
Reads bytes (Err fault) = Refuses bytes fault

-- the answer is this one, unless memory ran out
abbrev pub Gives : Result (List Edit) ScriptErr → Result (List EditModel) ScriptErr → Type 0
Gives (Ok script) said = said ≡ Ok (map model_of script)
Gives (Err NoMemory) said = Unit {0}
Gives (Err fault) said = said ≡ Err fault
