-- A run of a project.
use Rattle.std.specs.Prelude.{ℕ, ◌≤◌, List, length}
use Rattle.entity_types.specs.declared.entity.Entity.{Entity}
use Rattle.run_log.specs.declared.entry.Entry.{Entry}
use Rattle.run_log.specs.declared.entry.Ending.{Ending}
use Rattle.run_law.specs.Endings.{EndsSo}
use Rattle.project_law.specs.Script.{Edit}
use Rattle.project_law.specs.ProjectRules.{rules_of}
use Rattle.project_law.specs.Legal.{Legal}

-- the log is a legal run of the project and the script, and it ends so under this limit
pub record IsRun (project : List Entity) (script : List Edit) (limit : ℕ) (t : List Entry) (ending : Ending) : Type 0 where
  pub legal : Legal project script t
  pub ends : EndsSo (rules_of project script) limit t ending
  pub within : length t ≤ limit
