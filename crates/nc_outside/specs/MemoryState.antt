-- What named texts in memory are seen as.
use Rattle.std.specs.Prelude.{◌≡◌, ℕ, ◌+◌, nat_lt, ◌==◌, ◌&&◌, ◌||◌, Bool, List, [], ◌∷◌, take, slice_get, Option, Some, None, unwrap_or, is_none, IsSomeAnd, if◌then◌else◌}
use Rattle.std.specs.List.{list_any}
use Rattle.std.specs.Option.{option_map}
use Rattle.std.specs.Str.{bytes_eq}
use Rattle.nc_outside.specs.declared.memory_files.MemoryFile.{MemoryFile}

-- the texts, the count of faults of names that aren't there, the calls that fail, and how many calls there were
pub record MemoryState : Type 0 where
  pub files : List MemoryFile
  pub absent_faults : ℕ
  pub failing : List ℕ
  pub calls : ℕ

-- the file of this name, where there is one
abbrev pub file_named : List MemoryFile → List ℕ → Option MemoryFile
file_named [] name = None
file_named (f ∷ fs) name = if bytes_eq f.name name then Some f else file_named fs name

-- what the name holds
abbrev pub held : List MemoryFile → List ℕ → Option (List ℕ)
held fs name = option_map (λ (f : MemoryFile). f.bytes.items) (file_named fs name)

-- how many reads of the file failed
abbrev pub faults_in : List MemoryFile → List ℕ → Option ℕ
faults_in fs name = option_map (λ (f : MemoryFile). f.faults) (file_named fs name)

-- how many reads of the name failed; one count serves all names that aren't there
abbrev pub faults_of : MemoryState → List ℕ → ℕ
faults_of s name = unwrap_or (faults_in s.files name) s.absent_faults

-- whether reads of two names are counted in one count: they are the same name, or neither is there
abbrev pub share_a_count : List MemoryFile → List ℕ → List ℕ → Bool
share_a_count fs a b = bytes_eq a b || (is_none (file_named fs a) && is_none (file_named fs b))

-- one more, but at the end of the type
abbrev pub one_more : ℕ → ℕ
one_more n = if nat_lt n 18446744073709551615 then n + 1 else n

-- whether the call is listed
abbrev pub is_listed : List ℕ → ℕ → Bool
is_listed calls call = list_any (λ m. m == call) calls

-- the file at this place has the name, and none before it has
pub record IsFirst (fs : List MemoryFile) (name : List ℕ) (i : ℕ) : Type 0 where
  pub none_before : file_named (take i fs) name ≡ None
  pub here : IsSomeAnd (slice_get fs i) (λ (f : MemoryFile). f.name ≡ name)

-- the name holds these bytes now; all else is as it was
abbrev pub Gives : List MemoryFile → List MemoryFile → List ℕ → List ℕ → Type 0
Gives old new name bytes = (n : List ℕ) → (held new n ≡ (if bytes_eq name n then Some bytes else held old n)) × (faults_in new n ≡ faults_in old n)

-- one more read of the name failed; all else is as it was
abbrev pub CountsFault : List MemoryFile → List MemoryFile → List ℕ → Type 0
CountsFault old new name = (n : List ℕ) → (held new n ≡ held old n) × (faults_in new n ≡ (if bytes_eq name n then option_map one_more (faults_in old n) else faults_in old n))
