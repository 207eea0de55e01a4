-- Which refusal the tokens of a text get, and its place.
use Rattle.std.specs.Prelude.{◌≡◌, ℕ, nat_eq, ◌≤◌, true, false, List, length, drop}
use Rattle.std.specs.List.{IsDistinct}
use Rattle.p21_lex.specs.declared.token.Token.{Token}
use Rattle.p21_parse.specs.declared.limits.TheConstants.{MAX_INSTANCES}
use Rattle.p21_parse.specs.Symbol.{Symbol, symbols}
use Rattle.p21_parse.specs.Grammar.{IsFile, AreInstances}
use Rattle.p21_parse.specs.Nesting.{IsShallow}
use Rattle.p21_parse.specs.Numbers.{numbers_in}
use Rattle.p21_parse.specs.Places.{Refusal, syntax, too_deep, too_many, duplicate, place_of}
use Rattle.p21_parse.specs.Begins.{StopsAt, DeepAt, ManyAt, TwiceAt}

-- the numbers of a file's instances
abbrev pub file_numbers : List Symbol → List ℕ
file_numbers ss = numbers_in false ss

-- The front of a file breaks no limit: at most 32 parentheses in one another, at most 200,000 instances, no number twice.
pub record IsWithin (front : List Symbol) : Type 0 where
  pub shallow : IsShallow false 0 front
  pub few : length (file_numbers front) ≤ MAX_INSTANCES
  pub distinct : IsDistinct nat_eq (file_numbers front)

-- What the refusal of a text is: whichever stands at the earliest token. A whole file has no place of Syntax.
abbrev pub RefusedAt : List ℕ → List Token → Refusal → Type 0
RefusedAt bytes tokens (syntax place) =
    (left : ℕ) × StopsAt IsFile IsWithin (symbols bytes tokens) left × (IsFile (symbols bytes tokens) → ⊥) × (place ≡ place_of bytes tokens left)
RefusedAt bytes tokens (too_deep place) =
    (left : ℕ) × DeepAt IsFile IsWithin (symbols bytes tokens) left × (place ≡ place_of bytes tokens left)
RefusedAt bytes tokens (too_many place) =
    (left : ℕ) × ManyAt IsFile IsWithin file_numbers MAX_INSTANCES (symbols bytes tokens) left × (place ≡ place_of bytes tokens left)
RefusedAt bytes tokens (duplicate number) = TwiceAt IsFile IsWithin file_numbers MAX_INSTANCES (symbols bytes tokens) number

-- the numbers of instances that follow each other
abbrev pub list_numbers : List Symbol → List ℕ
list_numbers ss = numbers_in true ss

-- the same for a list of instances, of which at most so many are allowed: a number may come twice
pub record IsWithinList (most : ℕ) (front : List Symbol) : Type 0 where
  pub shallow : IsShallow false 0 front
  pub few : length (list_numbers front) ≤ most

-- What the refusal of instances is that begin at a token: whichever stands earliest. Behind whole instances there is no place of Syntax, and Duplicate
-- never comes.
abbrev pub RefusedFrom : List ℕ → List Token → ℕ → ℕ → Refusal → Type 0
RefusedFrom bytes tokens at most (syntax place) =
    (left : ℕ) × (stop : StopsAt AreInstances (IsWithinList most) (symbols bytes (drop at tokens)) left) × (AreInstances stop.front → ⊥) × (place ≡ place_of bytes tokens left)
RefusedFrom bytes tokens at most (too_deep place) =
    (left : ℕ) × DeepAt AreInstances (IsWithinList most) (symbols bytes (drop at tokens)) left × (place ≡ place_of bytes tokens left)
RefusedFrom bytes tokens at most (too_many place) =
    (left : ℕ) × ManyAt AreInstances (IsWithinList most) list_numbers most (symbols bytes (drop at tokens)) left × (place ≡ place_of bytes tokens left)
RefusedFrom bytes tokens at most (duplicate number) = ⊥
