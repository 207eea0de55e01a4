-- The names of instances in the front of a text, and their first fault.
use Rattle.std.specs.Prelude.{◌≡◌, ℕ, ◌+◌, false, nat_eq, ◌≤◌, ◌<◌, List, [], ◌∷◌, ◌++◌, length, take, Option, Some, None}
use Rattle.std.specs.List.{IsDistinct}
use Rattle.p21_parse.specs.declared.limits.TheConstants.{MAX_INSTANCES}
use Rattle.p21_parse.specs.declared.parser.Parser.{Parser}
use Rattle.p21_lex.specs.declared.token.Token.{Token}
use Rattle.p21_parse.specs.declared.names.Before.{Before}
use Rattle.p21_parse.specs.declared.names.NameFault.{NameFault}
use Rattle.p21_parse.specs.declared.names.NameFault.TheVariants.{TooMany, Duplicate}
use Rattle.p21_parse.specs.Symbol.{Symbol, name}
use Rattle.p21_parse.specs.Numbers.{is_behind}
use Rattle.p21_parse.specs.Refused.{file_numbers}
use Rattle.p21_parse.specs.Parser.{IsParser, from, Has}

-- the symbols before a token
abbrev pub before : Parser → ℕ → List Symbol
before s at = take at (from s 0)

-- The tokens of t are the last ones of s, behind these, and before them stand the instances with these numbers, behind a semicolon or not.
pub record IsBehind (s t : Parser) (ts : List Token) (b : Before) : Type 0 where
  pub real : IsParser s
  pub bytes : s.bytes.now ≡ t.bytes.now
  pub tokens : s.tokens.now ≡ ts ++ t.tokens.now
  pub numbers : file_numbers (before s (length ts)) ≡ b.numbers.now
  pub marked : is_behind false (before s (length ts)) ≡ b.is_marked

-- the own name of an instance stands there
pub record IsOwn (s : Parser) (at : ℕ) (number : ℕ) : Type 0 where
  pub has : Has s at (name number)
  pub owns : file_numbers (before s (at + 1)) ≡ file_numbers (before s at) ++ number ∷ []

-- no instance has its own name there
abbrev pub HasNoOwn : Parser → ℕ → Type 0
HasNoOwn s at = file_numbers (before s (at + 1)) ≡ file_numbers (before s at)

-- The instances are few, and no number comes twice.
pub record AreFine (front : List Symbol) : Type 0 where
  pub few : length (file_numbers front) ≤ MAX_INSTANCES
  pub distinct : IsDistinct nat_eq (file_numbers front)

-- at the token the names have their first fault
pub record FaultAt (s : Parser) (end at number : ℕ) (Fault : List ℕ → Type 0) : Type 0 where
  pub early : at < end
  pub has : Has s at (name number)
  pub fine : AreFine (before s at)
  pub fault : Fault (file_numbers (before s (at + 1)))

-- what the first fault is of the names among so many tokens
abbrev pub NamesAre : Parser → ℕ → Option NameFault → Type 0
NamesAre s end None = AreFine (before s end)
NamesAre s end (Some (TooMany at)) = (number : ℕ) × FaultAt s end at number (λ ns. MAX_INSTANCES < length ns)
NamesAre s end (Some (Duplicate number)) = (at : ℕ) × FaultAt s end at number (λ ns. (length ns ≤ MAX_INSTANCES) × (IsDistinct nat_eq ns → ⊥))

-- the same fault, so many tokens further on
abbrev pub fault_behind : ℕ → Option NameFault → Option NameFault
fault_behind by None = None
fault_behind by (Some (TooMany at)) = Some (TooMany (by + at))
fault_behind by (Some (Duplicate number)) = Some (Duplicate number)

-- The first numbers, so many, are distinct, and with one more they are not; or all are distinct.
abbrev pub IsFirstRepeat : List ℕ → Option ℕ → Type 0
IsFirstRepeat ns None = IsDistinct nat_eq ns
IsFirstRepeat ns (Some i) = (i < length ns) × IsDistinct nat_eq (take i ns) × (IsDistinct nat_eq (take (i + 1) ns) → ⊥)

-- the numbers of the instances in front of a token, of which there are few enough
pub record AreNumbers (s : Parser) (at : ℕ) (numbers : List ℕ) : Type 0 where
  pub numbers_are : numbers ≡ file_numbers (before s at)
  pub few : length numbers ≤ MAX_INSTANCES

-- these are the numbers among so many tokens, or those before the token that names one more than may be
abbrev pub AreOwn : Parser → ℕ → List ℕ → Option ℕ → Type 0
AreOwn s end numbers None = AreNumbers s end numbers
AreOwn s end numbers (Some at) = (at < end) × AreNumbers s at numbers × (MAX_INSTANCES ≤ length numbers) × (number : ℕ) × IsOwn s at number
