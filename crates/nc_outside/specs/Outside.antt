-- What files and sinks are held to, whatever they stand on.
use Rattle.std.specs.Prelude.{◌≡◌, ℕ, ◌+◌, ◌≤◌, min, List, ◌++◌, length, take, Option, Some, None}

-- a count of faults rose, or stands at the end of its type
abbrev pub Rose : ℕ → ℕ → Type 0
Rose before now = min (before + 1) 18446744073709551615 ≤ now

-- what a sink has taken is told after the call as before it, and the piece is put at its end
abbrev pub Appends : Option (List ℕ) → Option (List ℕ) → List ℕ → Type 0
Appends None now piece = Unit {0}
Appends (Some before) now piece = now ≡ Some (before ++ piece)

-- the sink took a front of the text, perhaps all of it
abbrev pub AppendsFront : Option (List ℕ) → Option (List ℕ) → List ℕ → Type 0
AppendsFront before now text = (n : ℕ) × (n ≤ length text) × Appends before now (take n text)
