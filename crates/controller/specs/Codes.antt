-- The exit status of the program.
use Rattle.std.specs.Prelude.{ℕ}
use Rattle.controller.specs.declared.status.Status.{Status}
use Rattle.controller.specs.declared.status.Status.TheVariants.{Done, Blocked, RunLimit, Written, BadWords, ProjectRefused, ScriptRefused, Illegal, LogRefused, ReadFault, WriteFault, NoMemory}

abbrev pub code_of : Status → ℕ
code_of Done = 0
code_of Blocked = 1
code_of RunLimit = 2
code_of Written = 0
code_of (BadWords i) = 3
code_of (ProjectRefused r) = 4
code_of (ScriptRefused r) = 5
code_of (Illegal place) = 6
code_of (LogRefused r) = 6
code_of ReadFault = 7
code_of WriteFault = 8
code_of NoMemory = 9
