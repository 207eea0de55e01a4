-- What stands at the front of a text, and the text behind it. The laws above say that these are the words of log texts.
use Rattle.std.specs.Prelude.{ℕ, ◌+◌, ◌-◌, ◌*◌, ℤ, pos, neg_ℤ, nat_le, Bool, ◌&&◌, ◌==◌, List, [], ◌∷◌, Option, Some, None, if◌then◌else◌, codes}
use Rattle.nc_base.specs.declared.numbers.TheConstants.{MAX_NUMBER, MAX_THOUSANDTHS}
use Rattle.nc_base.specs.declared.verdict.Verdict.{Verdict}
use Rattle.nc_base.specs.declared.verdict.Verdict.TheVariants.{Accepted, Refused}
use Rattle.path_blocks.specs.declared.limits.TheConstants.{MAX_BLOCKS, MAX_SIZE}
use Rattle.path_blocks.specs.declared.block.Block.{Block}
use Rattle.path_blocks.specs.declared.block.Block.TheVariants.{Tool, Rapid, Feed, Dwell}
use Rattle.run_log.specs.declared.entry.TheConstants.{MAX_ENTRIES}
use Rattle.run_log.specs.declared.entry.Entry.{Entry}
use Rattle.run_log.specs.declared.entry.Entry.TheVariants as entries
use Rattle.run_log.specs.declared.entry.Ending.{Ending}
use Rattle.run_log.specs.declared.entry.Ending.TheVariants.{Done, Blocked, Limit}
use Rattle.log_read.specs.declared.limits.TheConstants.{MAX_VERSION, MAX_EDIT, MAX_RULE, MAX_PICK, MAX_RATE}
use Rattle.log_read.specs.declared.rows.LogLine.{LogLine}
use Rattle.log_read.specs.declared.rows.LogLine.TheVariants.{Of, Last}

-- a part, if there is one, and then what follows it
infixl 10 ◌>>=◌
abbrev pub ◌>>=◌ : {A B : Type 0} → Option A → (A → Option B) → Option B
(Some x) >>= f = f x
None >>= f = None

-- ---- words

-- what stands behind a byte
unfoldable pub byte_at : ℕ → List ℕ → Option (List ℕ)
byte_at b [] = None
byte_at b (c ∷ bs) = if c == b then Some bs else None

-- what stands behind all of these bytes
abbrev pub bytes_at : List ℕ → List ℕ → Option (List ℕ)
bytes_at [] bs = Some bs
bytes_at (w ∷ ws) bs = byte_at w bs >>= λ rest. bytes_at ws rest

abbrev pub is_digit : ℕ → Bool
is_digit b = nat_le 48 b && nat_le b 57

-- a number that goes on in digits, up to the most
unfoldable pub digits_at : ℕ → ℕ → List ℕ → Option (ℕ × List ℕ)
digits_at most n [] = Some (n, [])
digits_at most n (b ∷ bs) =
    if is_digit b then (if nat_le (n * 10 + (b - 48)) most then digits_at most (n * 10 + (b - 48)) bs else None) else Some (n, b ∷ bs)

-- a number without a leading zero, up to the most
unfoldable pub number_at : ℕ → List ℕ → Option (ℕ × List ℕ)
number_at most [] = None
number_at most (b ∷ bs) = if b == 48 then Some (0, bs) else (if is_digit b then digits_at most 0 (b ∷ bs) else None)

-- a number from the least to the most
unfoldable pub ranged_at : ℕ → ℕ → List ℕ → Option (ℕ × List ℕ)
ranged_at least most bytes = do
  n ← number_at most bytes
  if nat_le least n.0 then Some n else None

-- such a number behind a space
unfoldable pub field_at : ℕ → ℕ → List ℕ → Option (ℕ × List ℕ)
field_at least most bytes = do
  rest ← byte_at 32 bytes
  ranged_at least most rest

-- a number of at most this size, with a hyphen where it is below 0
unfoldable pub signed_at : ℕ → List ℕ → Option (ℤ × List ℕ)
signed_at most [] = None
signed_at most (b ∷ bs) =
    if b == 45 then (ranged_at 1 most bs >>= λ n. Some (neg_ℤ (pos n.0), n.1)) else (ranged_at 0 most (b ∷ bs) >>= λ n. Some (pos n.0, n.1))

-- such a number behind a space
unfoldable pub length_at : ℕ → List ℕ → Option (ℤ × List ℕ)
length_at most bytes = do
  rest ← byte_at 32 bytes
  signed_at most rest

-- a feed or a dwell behind a space
unfoldable pub rate_at : List ℕ → Option (ℤ × List ℕ)
rate_at bytes = do
  n ← field_at 1 MAX_RATE bytes
  Some (pos n.0, n.1)

-- ---- blocks, each up to the end of its line, behind its letter

unfoldable pub tool_at : List ℕ → Option (Block × List ℕ)
tool_at bytes = do
  tool ← field_at 1 MAX_NUMBER bytes
  speed ← length_at MAX_RATE tool.1
  rest ← byte_at 10 speed.1
  Some (Tool tool.0 speed.0, rest)

-- the three words of a point
unfoldable pub point_at : List ℕ → Option ((ℤ × ℤ × ℤ) × List ℕ)
point_at bytes = do
  x ← length_at MAX_SIZE bytes
  y ← length_at MAX_SIZE x.1
  z ← length_at MAX_SIZE y.1
  Some ((x.0, y.0, z.0), z.1)

unfoldable pub rapid_at : List ℕ → Option (Block × List ℕ)
rapid_at bytes = do
  p ← point_at bytes
  rest ← byte_at 10 p.1
  Some (Rapid p.0.0 p.0.1 p.0.2, rest)

unfoldable pub feed_at : List ℕ → Option (Block × List ℕ)
feed_at bytes = do
  p ← point_at bytes
  f ← rate_at p.1
  rest ← byte_at 10 f.1
  Some (Feed p.0.0 p.0.1 p.0.2 f.0, rest)

unfoldable pub dwell_at : List ℕ → Option (Block × List ℕ)
dwell_at bytes = do
  ms ← rate_at bytes
  rest ← byte_at 10 ms.1
  Some (Dwell ms.0, rest)

unfoldable pub block_at : List ℕ → Option (Block × List ℕ)
block_at [] = None
block_at (b ∷ bs) =
    if b == 84 then tool_at bs else (if b == 82 then rapid_at bs else (if b == 70 then feed_at bs else (if b == 87 then dwell_at bs else None)))

-- ---- entries, each up to the end of its line, behind its letter

-- the one number of a line
unfoldable pub one_at : List ℕ → Option (ℕ × List ℕ)
one_at bytes = do
  n ← field_at 1 MAX_NUMBER bytes
  rest ← byte_at 10 n.1
  Some (n.0, rest)

unfoldable pub end_at : List ℕ → Option (Entry × List ℕ)
end_at bytes = do
  n ← one_at bytes
  Some (entries.End n.0, n.1)

unfoldable pub set_at : List ℕ → Option (Entry × List ℕ)
set_at bytes = do
  n ← one_at bytes
  Some (entries.Set n.0, n.1)

unfoldable pub pass_at : List ℕ → Option (Entry × List ℕ)
pass_at bytes = do
  n ← one_at bytes
  Some (entries.Pass n.0, n.1)

unfoldable pub note_at : List ℕ → Option (Entry × List ℕ)
note_at bytes = do
  n ← one_at bytes
  Some (entries.Note n.0, n.1)

-- a number and one up to the most
unfoldable pub two_at : ℕ → List ℕ → Option ((ℕ × ℕ) × List ℕ)
two_at most bytes = do
  n ← field_at 1 MAX_NUMBER bytes
  k ← field_at 0 most n.1
  Some ((n.0, k.0), k.1)

unfoldable pub dispatch_at : List ℕ → Option (Entry × List ℕ)
dispatch_at bytes = do
  n ← two_at MAX_VERSION bytes
  rest ← byte_at 10 n.1
  Some (entries.Dispatch n.0.0 n.0.1, rest)

unfoldable pub cut_at : List ℕ → Option (Entry × List ℕ)
cut_at bytes = do
  n ← two_at (MAX_BLOCKS - 1) bytes
  rest ← byte_at 32 n.1
  b ← block_at rest
  Some (entries.Block n.0.0 n.0.1 b.0, b.1)

unfoldable pub pick_at : List ℕ → Option (Entry × List ℕ)
pick_at bytes = do
  n ← two_at MAX_PICK bytes
  rest ← byte_at 10 n.1
  Some (entries.Pick n.0.0 n.0.1, rest)

unfoldable pub test_at : List ℕ → Option (Entry × List ℕ)
test_at bytes = do
  n ← field_at 1 MAX_NUMBER bytes
  holds ← field_at 0 1 n.1
  rest ← byte_at 10 holds.1
  Some (entries.Test n.0 (holds.0 == 1), rest)

unfoldable pub assign_at : List ℕ → Option (Entry × List ℕ)
assign_at bytes = do
  n ← field_at 1 MAX_NUMBER bytes
  x ← length_at MAX_THOUSANDTHS n.1
  rest ← byte_at 10 x.1
  Some (entries.Assign n.0 x.0, rest)

-- the verdict of an edit, behind the space before it
unfoldable pub refusal_at : List ℕ → Option (Verdict × List ℕ)
refusal_at bytes = do
  rule ← ranged_at 1 MAX_RULE bytes
  a ← field_at 0 MAX_NUMBER rule.1
  b ← field_at 0 MAX_NUMBER a.1
  rest ← byte_at 10 b.1
  Some (Refused rule.0 a.0 b.0, rest)

unfoldable pub verdict_at : List ℕ → Option (Verdict × List ℕ)
verdict_at [] = None
verdict_at (b ∷ bs) =
    if b == 111 then (bytes_at (107 ∷ 10 ∷ []) bs >>= λ rest. Some (Accepted, rest))
    else (if b == 110 then (bytes_at (111 ∷ 32 ∷ 74 ∷ []) bs >>= λ rest. refusal_at rest) else None)

unfoldable pub edit_at : List ℕ → Option (Entry × List ℕ)
edit_at bytes = do
  i ← field_at 0 MAX_EDIT bytes
  rest ← byte_at 32 i.1
  v ← verdict_at rest
  Some (entries.Edit i.0 v.0, v.1)

-- ---- lines

-- the ending whose word begins with this letter, and the rest of the word
unfoldable pub ending_at : List ℕ → Option (Ending × List ℕ)
ending_at [] = None
ending_at (b ∷ bs) =
    if b == 100 then (bytes_at (codes "one") bs >>= λ rest. Some (Done, rest))
    else (if b == 98 then (bytes_at (codes "locked") bs >>= λ rest. Some (Blocked, rest))
    else (if b == 108 then (bytes_at (codes "imit") bs >>= λ rest. Some (Limit, rest)) else None))

unfoldable pub last_at : List ℕ → Option (LogLine × List ℕ)
last_at bytes = do
  word ← bytes_at (codes "nd ") bytes
  e ← ending_at word
  count ← field_at 0 MAX_ENTRIES e.1
  rest ← byte_at 10 count.1
  Some (Last e.0 count.0, rest)

abbrev pub of_entry : Option (Entry × List ℕ) → Option (LogLine × List ℕ)
of_entry (Some x) = Some (Of x.0, x.1)
of_entry None = None

unfoldable pub row_at : List ℕ → Option (LogLine × List ℕ)
row_at [] = None
row_at (b ∷ bs) =
    if b == 66 then of_entry (cut_at bs)
    else (if b == 68 then of_entry (dispatch_at bs)
    else (if b == 69 then of_entry (end_at bs)
    else (if b == 80 then of_entry (pick_at bs)
    else (if b == 84 then of_entry (test_at bs)
    else (if b == 65 then of_entry (assign_at bs)
    else (if b == 83 then of_entry (set_at bs)
    else (if b == 87 then of_entry (pass_at bs)
    else (if b == 77 then of_entry (note_at bs)
    else (if b == 88 then of_entry (edit_at bs)
    else (if b == 101 then last_at bs
    else None))))))))))
