-- What a call has done when it answers a status: the clause of the top calls.
use Rattle.std.specs.Prelude.{◌≡◌, ◌≤◌, ℕ, List, []}
use Rattle.nc_outside.specs.Outside.{Rose}
use Rattle.controller.specs.declared.status.Status.{Status}
use Rattle.controller.specs.declared.status.Status.TheVariants.{ReadFault, WriteFault, NoMemory}
use Rattle.controller.specs.Words.{Names, NameNoFile}
use Rattle.controller.specs.Outside.{Outside, Writes, FailsToWrite}
use Rattle.controller.specs.Asked.{IsRight}

-- a file failed that the words name to read
pub record FailsToRead {F : Type 0} (words : List (List ℕ)) (before after : Outside F) : Type 0 where
  pub name : List ℕ
  pub named : Names words name
  pub failed : Rose (before.read_faults name) (after.read_faults name)

-- The status answers the words. Where a named file failed, or memory ran out, nothing is written. Where the sink failed, it took a front of the text
-- that is right for the words. Else the status is the right one, and its text is written.
abbrev pub Answered : {F : Type 0} → List (List ℕ) → Outside F → Outside F → Status → Type 0
Answered words before after ReadFault = FailsToRead words before after × Writes before after []
Answered words before after NoMemory = Writes before after []
Answered words before after WriteFault = (status : Status) × (text : List ℕ) × IsRight words before.holds status text × FailsToWrite before after text
Answered words before after status = (text : List ℕ) × IsRight words before.holds status text × Writes before after text

-- A call with these words has served: what the names hold is as before, no count fell, the files are untouched where the words name none, and the
-- status answers the words.
pub record Serves {F : Type 0} (words : List (List ℕ)) (before after : Outside F) (status : Status) : Type 0 where
  pub kept : (name : List ℕ) → after.holds name ≡ before.holds name
  pub reads_counted : (name : List ℕ) → before.read_faults name ≤ after.read_faults name
  pub puts_counted : before.put_faults ≤ after.put_faults
  pub untouched : NameNoFile words → after.files ≡ before.files
  pub answered : Answered words before after status
