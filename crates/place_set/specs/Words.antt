-- Sets of places as bits of words, and the words above that say which words aren't zero.
use Rattle.std.specs.Prelude.{◌≡◌, ◌<◌, ◌≤◌, ◌↔◌, ◌/◌, ◌%◌, ◌==◌, ℕ, Bool, List, length, slice_index}
use Rattle.std.specs.Int.{bit_at}

-- bit i of these words, 64 to the word
abbrev pub bit_of : List ℕ → ℕ → ℕ
bit_of words i = bit_at (slice_index words (i / 64)) (i % 64)

-- the place is in the set
abbrev pub holds : List ℕ → ℕ → Bool
holds words place = bit_of words place == 1

-- each word below that isn't zero has its bit above
abbrev pub SumsUp : List ℕ → List ℕ → Type 0
SumsUp below above = (w : ℕ) → w < length below → ((bit_of above w ≡ 0) ↔ (slice_index below w ≡ 0))

-- no bit of i's own word is set from i on, and b is the first
abbrev pub NoneInWord : List ℕ → ℕ → Type 0
NoneInWord words i = (j : ℕ) → j / 64 ≡ i / 64 → i ≤ j → bit_of words j ≡ 0

pub record IsNextInWord (words : List ℕ) (i b : ℕ) : Type 0 where
  pub word : b / 64 ≡ i / 64
  pub later : i ≤ b
  pub set : bit_of words b ≡ 1
  pub first : (j : ℕ) → j / 64 ≡ i / 64 → i ≤ j → j < b → bit_of words j ≡ 0

-- no bit is set from i on, and b is the first
abbrev pub NoneFrom : List ℕ → ℕ → Type 0
NoneFrom words i = (j : ℕ) → i ≤ j → bit_of words j ≡ 0

pub record IsNextFrom (words : List ℕ) (i b : ℕ) : Type 0 where
  pub later : i ≤ b
  pub within : b / 64 < length words
  pub set : bit_of words b ≡ 1
  pub first : (j : ℕ) → i ≤ j → j < b → bit_of words j ≡ 0

-- three levels of words, each summed up by the next
pub record IsSummed (low mid top : List ℕ) : Type 0 where
  pub low_length : length low ≡ 4096
  pub mid_length : length mid ≡ 64
  pub top_length : length top ≡ 1
  pub low_sums : SumsUp low mid
  pub mid_sums : SumsUp mid top
