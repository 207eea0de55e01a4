-- What is kept of each node to which a run has come.
use Rattle.std.specs.Prelude.{◌≡◌, ℕ, false, List, slice_get, unwrap_or}
use Rattle.exec_tree.specs.Exec.{has}
use Rattle.trace_law.specs.Cells.{Cell, Over}

-- the cell at a place
abbrev pub cells_of : List Cell → ℕ → Cell
cells_of cells place = unwrap_or (slice_get cells place) Over

-- the cells are the same but at these places
abbrev pub AreKeptBut : List Cell → List Cell → List ℕ → Type 0
AreKeptBut old new places = (q : ℕ) → has places q ≡ false → cells_of new q ≡ cells_of old q
