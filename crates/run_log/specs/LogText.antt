-- The text of a run log, after this profile: a line for each entry between a first and a last line.
use Rattle.std.specs.Prelude.{ℕ, Bool, true, false, List, [], ◌∷◌, ◌++◌, length, codes, decimal}
use Rattle.std.specs.Fmt.{signed_decimal}
use Rattle.nc_base.specs.declared.verdict.Verdict.{Verdict}
use Rattle.nc_base.specs.declared.verdict.Verdict.TheVariants.{Accepted, Refused}
use Rattle.path_blocks.specs.declared.block.Block.{Block}
use Rattle.path_blocks.specs.declared.block.Block.TheVariants.{Tool, Rapid, Feed, Dwell}
use Rattle.run_log.specs.declared.entry.Entry.{Entry}
use Rattle.run_log.specs.declared.entry.Entry.TheVariants as entries
use Rattle.run_log.specs.declared.entry.Ending.{Ending}
use Rattle.run_log.specs.declared.entry.Ending.TheVariants.{Done, Blocked, Limit}
use Rattle.run_log.specs.Line.{line}
use Rattle.run_log.specs.LinesFrom.{lines_from}

-- the words of a block
abbrev pub block_words : Block → List (List ℕ)
block_words (Tool t s) = codes "T" ∷ decimal t ∷ signed_decimal s ∷ []
block_words (Rapid x y z) = codes "R" ∷ signed_decimal x ∷ signed_decimal y ∷ signed_decimal z ∷ []
block_words (Feed x y z f) = codes "F" ∷ signed_decimal x ∷ signed_decimal y ∷ signed_decimal z ∷ signed_decimal f ∷ []
block_words (Dwell ms) = codes "W" ∷ signed_decimal ms ∷ []

-- the digit of a test's answer
abbrev pub answer_word : Bool → List ℕ
answer_word true = codes "1"
answer_word false = codes "0"

-- the words of a verdict: the rule that refuses an edit is named by J and its number
abbrev pub verdict_words : Verdict → List (List ℕ)
verdict_words Accepted = codes "ok" ∷ []
verdict_words (Refused rule a b) = codes "no" ∷ (codes "J" ++ decimal rule) ∷ decimal a ∷ decimal b ∷ []

-- the words of an entry
abbrev pub entry_words : Entry → List (List ℕ)
entry_words (entries.Dispatch n v) = codes "D" ∷ decimal n ∷ decimal v ∷ []
entry_words (entries.Block n k b) = codes "B" ∷ decimal n ∷ decimal k ∷ block_words b
entry_words (entries.End n) = codes "E" ∷ decimal n ∷ []
entry_words (entries.Pick n k) = codes "P" ∷ decimal n ∷ decimal k ∷ []
entry_words (entries.Test n holds) = codes "T" ∷ decimal n ∷ answer_word holds ∷ []
entry_words (entries.Assign n x) = codes "A" ∷ decimal n ∷ signed_decimal x ∷ []
entry_words (entries.Set n) = codes "S" ∷ decimal n ∷ []
entry_words (entries.Pass n) = codes "W" ∷ decimal n ∷ []
entry_words (entries.Note n) = codes "M" ∷ decimal n ∷ []
entry_words (entries.Edit i verdict) = codes "X" ∷ decimal i ∷ verdict_words verdict

-- the word of an ending
abbrev pub ending_word : Ending → List ℕ
ending_word Done = codes "done"
ending_word Blocked = codes "blocked"
ending_word Limit = codes "limit"

abbrev pub first_line : List ℕ
first_line = line (codes "STEPNC-LOG" ∷ codes "1" ∷ [])

unfoldable pub entry_line : Entry → List ℕ
entry_line e = line (entry_words e)

-- the line of an entry behind those before it. In this format no line depends on what came before
abbrev pub line_after : List Entry → Entry → List ℕ
line_after before e = entry_line e

-- the last line has the number of entries
unfoldable pub last_line : Ending → ℕ → List ℕ
last_line e count = line (codes "end" ∷ ending_word e ∷ decimal count ∷ [])

-- the text of a log with its ending
abbrev pub text_of : List Entry → Ending → List ℕ
text_of t e = first_line ++ (lines_from line_after [] t ++ last_line e (length t))
