-- What an entry makes of its node's cell.
use Rattle.std.specs.Prelude.{◌+◌, ℕ, Bool, true, false, Some}
use Rattle.run_log.specs.declared.entry.Entry.{Entry}
use Rattle.run_log.specs.declared.entry.Entry.TheVariants.{Dispatch, Block, Pick, Test}
use Rattle.trace_law.specs.Cells.{Cell, Cutting, Over}

-- the cell of a workingstep after an entry of it
abbrev pub cut : Entry → Cell
cut (Dispatch n v) = Cutting (Some 0)
cut (Block n k b) = Cutting (Some (k + 1))
cut _ = Over

-- whether that is its last
abbrev pub ends : Entry → Bool
ends (Dispatch n v) = false
ends (Block n k b) = false
ends _ = true

-- the answer of a test
abbrev pub answer_in : Entry → Bool
answer_in (Test n answer) = answer
answer_in _ = false

-- the index of a pick
abbrev pub index_in : Entry → ℕ
index_in (Pick n k) = k
index_in _ = 0
