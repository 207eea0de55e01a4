-- The state of a run, read off its entries so far.
use Rattle.std.specs.Prelude.{ℕ, ◌+◌, if◌then◌else◌, option_map, is_some, Bool, true, false, ◌==◌, ◌||◌, not, List, [], ◌∷◌, Option, Some, None}
use Rattle.std.specs.List.{filter_map}
use Rattle.trace_law.specs.Of.{has_some, number_of}
use Rattle.run_log.specs.declared.entry.Entry.{Entry}
use Rattle.run_log.specs.declared.entry.Entry.TheVariants.{Dispatch, Block, End, Set}

-- the number of the step that an entry dispatches
abbrev pub dispatched : Entry → Option ℕ
dispatched (Dispatch n v) = Some n
dispatched _ = None

-- the number of the step that an entry ends
abbrev pub ended : Entry → Option ℕ
ended (End n) = Some n
ended _ = None

-- the mark that an entry sets
abbrev pub marked : Entry → Option ℕ
marked (Set n) = Some n
marked _ = None

-- the steps with a dispatch in t
abbrev pub sent : List Entry → List ℕ
sent t = filter_map dispatched t

-- the marks that are set; a mark stays set
abbrev pub marks : List Entry → List ℕ
marks t = filter_map marked t

-- how many blocks n has since its last dispatch, where it is open: after this entry
abbrev pub stage_step : ℕ → Option ℕ → Entry → Option ℕ
stage_step n so_far (Dispatch m v) = if m == n then Some 0 else so_far
stage_step n so_far (Block m k b) = if m == n then option_map (λ j. j + 1) so_far else so_far
stage_step n so_far (End m) = if m == n then None else so_far
stage_step n so_far x = so_far

-- the same after these entries
abbrev pub stage_from : ℕ → Option ℕ → List Entry → Option ℕ
stage_from n so_far [] = so_far
stage_from n so_far (x ∷ t) = stage_from n (stage_step n so_far x) t

-- the blocks that n has since its last dispatch, or None where it isn't open: it wasn't dispatched, or ended after its last dispatch
abbrev pub stage : ℕ → List Entry → Option ℕ
stage n t = stage_from n None t

-- n is open: its last dispatch has no end after it
abbrev pub is_open : ℕ → List Entry → Bool
is_open n t = is_some (stage n t)

-- the entry dispatches a step or cuts a block of it
abbrev pub is_cutting : Entry → Bool
is_cutting (Dispatch n v) = true
is_cutting (Block n k b) = true
is_cutting _ = false

-- the entry takes nothing from m: it is of another node, or m stays open
abbrev pub keeps : ℕ → Entry → Bool
keeps m x = is_cutting x || not (has_some (m ∷ []) (number_of x))

-- the entry is of the kinds that a workingstep has
abbrev pub is_of_step : Entry → Bool
is_of_step (Dispatch n v) = true
is_of_step (Block n k b) = true
is_of_step (End n) = true
is_of_step _ = false
