-- The ranges of a log's numbers, after this profile.
use Rattle.std.specs.Prelude.{ℕ, ℤ, pos, negsuc, unsigned_abs, nat_le, nat_lt, Bool, true, false, ◌&&◌}
use Rattle.nc_base.specs.declared.numbers.TheConstants.{MAX_NUMBER, MAX_THOUSANDTHS}
use Rattle.nc_base.specs.declared.verdict.Verdict.{Verdict}
use Rattle.nc_base.specs.declared.verdict.Verdict.TheVariants.{Accepted, Refused}
use Rattle.path_blocks.specs.declared.limits.TheConstants.{MAX_BLOCKS, MAX_SIZE}
use Rattle.path_blocks.specs.declared.block.Block.{Block}
use Rattle.path_blocks.specs.declared.block.Block.TheVariants.{Tool, Rapid, Feed, Dwell}
use Rattle.run_log.specs.declared.entry.Entry.{Entry}
use Rattle.run_log.specs.declared.entry.Entry.TheVariants as entries
use Rattle.log_read.specs.declared.limits.TheConstants.{MAX_VERSION, MAX_EDIT, MAX_RULE, MAX_PICK, MAX_RATE}

-- from the least to the most
abbrev pub is_from : ℕ → ℕ → ℕ → Bool
is_from least most n = nat_le least n && nat_le n most

-- the number of an instance
abbrev pub is_number : ℕ → Bool
is_number n = is_from 1 MAX_NUMBER n

-- at most so great in size, upwards and downwards
abbrev pub is_within : ℕ → ℤ → Bool
is_within most z = nat_le (unsigned_abs z) most

-- a feed or a dwell
abbrev pub is_rate : ℤ → Bool
is_rate (pos n) = is_from 1 MAX_RATE n
is_rate (negsuc n) = false

-- the numbers of a block
abbrev pub is_block_in_range : Block → Bool
is_block_in_range (Tool t s) = is_number t && is_within MAX_RATE s
is_block_in_range (Rapid x y z) = is_within MAX_SIZE x && (is_within MAX_SIZE y && is_within MAX_SIZE z)
is_block_in_range (Feed x y z f) = is_within MAX_SIZE x && (is_within MAX_SIZE y && (is_within MAX_SIZE z && is_rate f))
is_block_in_range (Dwell ms) = is_rate ms

-- the numbers of a verdict
abbrev pub is_verdict_in_range : Verdict → Bool
is_verdict_in_range Accepted = true
is_verdict_in_range (Refused rule a b) = is_from 1 MAX_RULE rule && (nat_le a MAX_NUMBER && nat_le b MAX_NUMBER)

-- the numbers of an entry
abbrev pub is_in_range : Entry → Bool
is_in_range (entries.Dispatch n v) = is_number n && nat_le v MAX_VERSION
is_in_range (entries.Block n k b) = is_number n && (nat_lt k MAX_BLOCKS && is_block_in_range b)
is_in_range (entries.End n) = is_number n
is_in_range (entries.Pick n k) = is_number n && nat_le k MAX_PICK
is_in_range (entries.Test n holds) = is_number n
is_in_range (entries.Assign n x) = is_number n && is_within MAX_THOUSANDTHS x
is_in_range (entries.Set n) = is_number n
is_in_range (entries.Pass n) = is_number n
is_in_range (entries.Note n) = is_number n
is_in_range (entries.Edit i verdict) = nat_le i MAX_EDIT && is_verdict_in_range verdict
