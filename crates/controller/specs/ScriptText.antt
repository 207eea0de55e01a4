-- The script of edits that a word of a command names.
use Rattle.std.specs.Prelude.{◌≡◌, ℕ, ◌<◌, ◌≤◌, Bool, true, false, List, [], length, map, Option, IfSome}
use Rattle.entity_types.specs.declared.edit.Edit.{Edit}
use Rattle.edit_script.specs.Edits.{model_of}
use Rattle.edit_script.specs.Reads.{Holds, Refuses}
use Rattle.controller.specs.declared.script_file.TheConstants.{MAX_SCRIPT_BYTES}
use Rattle.controller.specs.declared.status.ScriptReason.{ScriptReason}
use Rattle.controller.specs.declared.status.ScriptReason.TheVariants.{TooLong, Script, Schedule}
use Rattle.controller.specs.Words.{is_hyphen}

-- the bytes are a script of these edits
pub record IsScript (bytes : List ℕ) (edits : List Edit) : Type 0 where
  pub short : length bytes ≤ MAX_SCRIPT_BYTES
  pub held : Holds bytes (map model_of edits)

-- the bytes are none, for this reason; want of memory is no such reason
abbrev pub RefusesScript : List ℕ → ScriptReason → Type 0
RefusesScript bytes TooLong = MAX_SCRIPT_BYTES < length bytes
RefusesScript bytes (Script fault) = (length bytes ≤ MAX_SCRIPT_BYTES) × Refuses bytes fault
RefusesScript bytes (Schedule place) = ⊥

-- the edits of a script's word: none for a hyphen, and else those of the file of that name, of which `held` is told
abbrev pub ScriptedBy : Bool → Option (List ℕ) → List Edit → Type 0
ScriptedBy true held edits = edits ≡ []
ScriptedBy false held edits = IfSome held (λ bytes. IsScript bytes edits)

abbrev pub IsScripted : (List ℕ → Option (List ℕ)) → List ℕ → List Edit → Type 0
IsScripted holds word edits = ScriptedBy (is_hyphen word) (holds word) edits

-- the word names a file whose bytes are no script, for this reason
pub record IsUnscripted (holds : List ℕ → Option (List ℕ)) (word : List ℕ) (reason : ScriptReason) : Type 0 where
  pub named : is_hyphen word ≡ false
  pub refused : IfSome (holds word) (λ bytes. RefusesScript bytes reason)
