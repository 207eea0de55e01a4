-- Legal runs.
use Rattle.std.specs.Prelude.{◌≡◌, List, ◌∷◌, ◌++◌}
use Rattle.run_log.specs.declared.entry.Entry.{Entry}
use Rattle.run_law.specs.Rules.{Rules}
use Rattle.run_law.specs.Fits.{Fits}

-- each entry of t fits the entries before it
abbrev pub Legal : Rules → List Entry → Type 0
Legal r t = (before : List Entry) (x : Entry) (after : List Entry) → t ≡ before ++ x ∷ after → Fits r before x
