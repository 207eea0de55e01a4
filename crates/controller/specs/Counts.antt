-- The counts of a log, and the line that says them, after this profile.
use Rattle.std.specs.Prelude.{ℕ, Bool, true, false, List, [], ◌∷◌, length, codes, decimal}
use Rattle.std.specs.List.{count_by}
use Rattle.nc_base.specs.declared.verdict.Verdict.TheVariants.{Accepted, Refused}
use Rattle.run_log.specs.declared.entry.Entry.{Entry}
use Rattle.run_log.specs.declared.entry.Entry.TheVariants.{Block, Edit}
use Rattle.run_log.specs.declared.entry.Ending.{Ending}
use Rattle.run_log.specs.Line.{line}
use Rattle.run_log.specs.LogText.{ending_word}
use Rattle.controller.specs.declared.counting.Counts.{Counts}

-- the entry is a block of a path
abbrev pub is_block : Entry → Bool
is_block (Block n k b) = true
is_block _ = false

-- the entry says that an edit is accepted
abbrev pub is_accepted : Entry → Bool
is_accepted (Edit i Accepted) = true
is_accepted _ = false

-- the entry says that an edit is refused
abbrev pub is_refused : Entry → Bool
is_refused (Edit i (Refused code a b)) = true
is_refused _ = false

-- how many entries a log has, and how many of them are blocks, accepted edits and refused edits
abbrev pub counts_of : List Entry → Counts
counts_of t = record { entries = length t; blocks = count_by is_block t; accepted = count_by is_accepted t; refused = count_by is_refused t }

-- the words of the line of a large case: its two numbers, the ending of its run, and the counts of its log
abbrev pub counts_words : ℕ → ℕ → Ending → Counts → List (List ℕ)
counts_words steps start ending counts =
    codes "big" ∷ decimal steps ∷ decimal start ∷ ending_word ending
    ∷ codes "entries" ∷ decimal counts.entries
    ∷ codes "blocks" ∷ decimal counts.blocks
    ∷ codes "accepted" ∷ decimal counts.accepted
    ∷ codes "refused" ∷ decimal counts.refused
    ∷ []

-- that line
unfoldable pub counts_line : ℕ → ℕ → Ending → Counts → List ℕ
counts_line steps start ending counts = line (counts_words steps start ending counts)
