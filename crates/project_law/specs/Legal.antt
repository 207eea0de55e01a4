-- Legal runs of a project and a script.
use Rattle.std.specs.Prelude.{List}
use Rattle.entity_types.specs.declared.entity.Entity.{Entity}
use Rattle.run_log.specs.declared.entry.Entry.{Entry}
use Rattle.run_law.specs.Legal as law
use Rattle.project_law.specs.Script.{Edit}
use Rattle.project_law.specs.ProjectRules.{rules_of}

-- each entry of t fits the entries before it, by the rules of the project and the script
abbrev pub Legal : List Entity → List Edit → List Entry → Type 0
Legal project script t = law.Legal (rules_of project script) t
