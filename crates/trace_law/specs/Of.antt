-- Which entries of a log are of which nodes of the tree.
use Rattle.std.specs.Prelude.{ℕ, Bool, false, List, Option, Some, None}
use Rattle.std.specs.List.{filter}
use Rattle.exec_tree.specs.Exec.{has}
use Rattle.run_log.specs.declared.entry.Entry.{Entry}
use Rattle.run_log.specs.declared.entry.Entry.TheVariants.{Dispatch, Block, End, Pick, Test, Assign, Set, Pass, Note, Edit}

-- the number of the node that an entry is of; an edit is of none
abbrev pub number_of : Entry → Option ℕ
number_of (Dispatch n v) = Some n
number_of (Block n k b) = Some n
number_of (End n) = Some n
number_of (Pick n k) = Some n
number_of (Test n b) = Some n
number_of (Assign n x) = Some n
number_of (Set n) = Some n
number_of (Pass n) = Some n
number_of (Note n) = Some n
number_of (Edit i v) = None

-- there is a number, and it is one of these
abbrev pub has_some : List ℕ → Option ℕ → Bool
has_some ns None = false
has_some ns (Some n) = has ns n

-- the entry is of a node with one of these numbers
abbrev pub is_of : List ℕ → Entry → Bool
is_of ns x = has_some ns (number_of x)

-- the entries of t that are of these nodes
abbrev pub only : List ℕ → List Entry → List Entry
only ns t = filter (is_of ns) t
