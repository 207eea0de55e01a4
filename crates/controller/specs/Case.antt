-- What a large case is run from: its two texts, and how many entries the log of its run may have.
use Rattle.std.specs.Prelude.{ℕ, List}
use Rattle.p21_print.specs.Printed.{printed}
use Rattle.big_case.specs.Project.{project}
use Rattle.big_case.specs.Script.{script}
use Rattle.run_log.specs.declared.entry.TheConstants.{MAX_ENTRIES}

-- the text of the project
unfoldable pub case_project : ℕ → ℕ → List ℕ
case_project steps start = printed (project steps start)

-- the text of the script
unfoldable pub case_script : ℕ → ℕ → List ℕ
case_script steps start = script steps start

-- How many entries the log may have: as many as any. It keeps its name in proofs, since a run is a recursion on this number.
unfoldable pub case_limit : ℕ
case_limit = MAX_ENTRIES
