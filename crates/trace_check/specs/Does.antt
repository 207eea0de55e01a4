-- Which entries are what a node does next, told by the kind of what it does.
use Rattle.std.specs.Prelude.{Bool, true, false, ◌==◌}
use Rattle.run_log.specs.declared.entry.Entry.{Entry}
use Rattle.run_log.specs.declared.entry.Entry.TheVariants.{Dispatch, Block, End, Test, Assign, Set, Pass, Note}
use Rattle.run_frames.specs.declared.deed.Deed.{Deed}
use Rattle.run_frames.specs.declared.deed.Deed.TheVariants as deeds

-- the entry, no pick, is of the kind that a node makes which does this next
abbrev pub does : Deed → Entry → Bool
does deeds.Starts (Dispatch n v) = true
does (deeds.Cuts k) (Block n j b) = j == k
does (deeds.Cuts k) (End n) = true
does deeds.Assigns (Assign n x) = true
does deeds.Sets (Set n) = true
does deeds.Passes (Pass n) = true
does deeds.Notes (Note n) = true
does deeds.Tests (Test n b) = true
does _ x = false
