-- How the errors of lower crates come out.
use Rattle.std.specs.Prelude.{ℕ}
use Rattle.p21_lex.specs.declared.error.LexErr.{LexErr}
use Rattle.p21_lex.specs.declared.error.LexErr.TheVariants as lexes
use Rattle.entity_read.specs.declared.error.TypeErr.{TypeErr}
use Rattle.entity_read.specs.declared.error.TypeErr.TheVariants as types
use Rattle.edit_script.specs.declared.error.ScriptErr.{ScriptErr}
use Rattle.edit_script.specs.declared.error.ScriptErr.TheVariants.{Lex, Attribute, NoMemory}

abbrev pub from_lex : LexErr → ScriptErr
from_lex lexes.NoMemory = NoMemory
from_lex fault = Lex fault

-- in the edit at an index
abbrev pub from_type : ℕ → TypeErr → ScriptErr
from_type index (types.BadAttribute number position) = Attribute index number position
from_type index types.NoMemory = NoMemory
