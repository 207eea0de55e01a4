-- How far the edits of a text were read.
use Rattle.std.specs.Prelude.{◌≡◌, ℕ, ◌≤◌, List, [], length}
use Rattle.p21_parse.specs.Spell.{spell_all}
use Rattle.edit_script.specs.declared.limits.TheConstants.{MAX_EDITS}
use Rattle.edit_script.specs.declared.source.Source.{Source}
use Rattle.edit_script.specs.declared.gathered.Gathered.{Gathered}
use Rattle.edit_script.specs.Script.{EditTree, spell_edit, AreAllowed}
use Rattle.edit_script.specs.Source.{from}
use Rattle.edit_script.specs.Judged.{IsGathered}

-- up to a token edits stand, within the limits, and this is kept of them
pub record IsReadTo (s : Source) (at : ℕ) (g : Gathered) : Type 0 where
  pub edits : List EditTree
  pub inside : at ≤ length s.tokens.now
  pub spells : from s 0 ≡ spell_all spell_edit edits (from s at)
  pub allowed : AreAllowed MAX_EDITS edits
  pub gathered : IsGathered edits g

-- all tokens are edits, within the limits, and this is kept of them
pub record IsReadWhole (s : Source) (g : Gathered) : Type 0 where
  pub edits : List EditTree
  pub spells : from s 0 ≡ spell_all spell_edit edits []
  pub allowed : AreAllowed MAX_EDITS edits
  pub gathered : IsGathered edits g
