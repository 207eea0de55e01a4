-- What a node's own entries tell: the picks of a non-sequential or a selective, and the tests of an if or a while.
use Rattle.std.specs.Prelude.{ℕ, Bool, ◌==◌, if◌then◌else◌, List, [], ◌∷◌, Option, Some, None}
use Rattle.std.specs.List.{filter_map}
use Rattle.run_log.specs.declared.entry.Entry.{Entry}
use Rattle.run_log.specs.declared.entry.Entry.TheVariants.{Pick, Test}

-- the index, where the entry is a pick of n
abbrev pub pick_of : ℕ → Entry → Option ℕ
pick_of n (Pick m k) = if m == n then Some k else None
pick_of n _ = None

-- the answer, where the entry is a test of n
abbrev pub test_of : ℕ → Entry → Option Bool
test_of n (Test m b) = if m == n then Some b else None
test_of n _ = None

-- the picks of n, in order
abbrev pub picks : ℕ → List Entry → List ℕ
picks n t = filter_map (pick_of n) t

-- a turn of a while: its test, and what follows that up to the next test
pub data Turn : Type 0 where
  Tested : Bool → List Entry → Turn

-- an entry and those behind it, or none where the entry is a test
abbrev pub lead_by : Option Bool → Entry → List Entry → List Entry
lead_by None x t = x ∷ t
lead_by (Some b) x t = []

-- the entries before the first test of n
abbrev pub lead : ℕ → List Entry → List Entry
lead n [] = []
lead n (x ∷ t) = lead_by (test_of n x) x (lead n t)

-- one turn more, where the entry is a test
abbrev pub turns_by : Option Bool → List Entry → List Turn → List Turn
turns_by None t rest = rest
turns_by (Some b) t rest = Tested b t ∷ rest

-- t cut before each test of n, without what stands before the first one
abbrev pub turns : ℕ → List Entry → List Turn
turns n [] = []
turns n (x ∷ t) = turns_by (test_of n x) (lead n t) (turns n t)
