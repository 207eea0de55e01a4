-- What a call meets outside of itself: files that it reads and a sink that it writes.
use Rattle.std.specs.Prelude.{ℕ, List, Option}
use Rattle.nc_outside.specs.Outside.{Rose, Appends, AppendsFront}

-- The outside at one moment: the files themselves; what each name holds, where it is told; how often reads of each name failed; what the sink has
-- taken so far, where it is told; how often it failed. A host's files and its standard output tell nothing.
pub record Outside (F : Type 0) : Type 0 where
  pub files : F
  pub holds : List ℕ → Option (List ℕ)
  pub read_faults : List ℕ → ℕ
  pub taken : Option (List ℕ)
  pub put_faults : ℕ

-- files and a sink as they stand, by what their traits tell of them
abbrev pub outside : {F S : Type 0} → (F → List ℕ → Option (List ℕ)) → (F → List ℕ → ℕ) → (S → Option (List ℕ)) → (S → ℕ) → F → S → Outside F
outside holds read_faults taken put_faults files sink = record {
  files = files;
  holds = holds files;
  read_faults = read_faults files;
  taken = taken sink;
  put_faults = put_faults sink;
}

-- the sink took this text, and all of it
abbrev pub Writes : {F : Type 0} → Outside F → Outside F → List ℕ → Type 0
Writes before after text = Appends before.taken after.taken text

-- the sink failed, and had taken a front of this text by then
pub record FailsToWrite {F : Type 0} (before after : Outside F) (text : List ℕ) : Type 0 where
  pub failed : Rose before.put_faults after.put_faults
  pub front : AppendsFront before.taken after.taken text
