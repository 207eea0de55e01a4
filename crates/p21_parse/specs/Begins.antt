-- Where a text leaves a language that is given by its whole texts, and where it breaks a limit first. Nothing here reads forward.
use Rattle.std.specs.Prelude.{◌≡◌, ℕ, nat_eq, ◌≤◌, ◌<◌, false, List, [], ◌∷◌, ◌++◌, length}
use Rattle.std.specs.List.{AllByRecursion, IsDistinct}
use Rattle.p21_lex.specs.declared.token.TokenKind.{TokenKind}
use Rattle.p21_lex.specs.Reading.{Spells}
use Rattle.p21_parse.specs.Symbol.{Symbol, name, opening, symbol}
use Rattle.p21_parse.specs.Nesting.{open_behind}

-- Some token has the symbol.
abbrev pub IsSymbol : Symbol → Type 0
IsSymbol s = (kind : TokenKind) × (text : List ℕ) × Spells kind text × (symbol kind text ≡ s)

-- The symbols begin some text of the language.
abbrev pub Begins : (List Symbol → Type 0) → List Symbol → Type 0
Begins Whole front = (more : List Symbol) × AllByRecursion IsSymbol more × Whole (front ++ more)

-- The longest front that begins a text of the language ends where so many symbols are left, and within it no limit is broken.
pub record StopsAt (Whole Within : List Symbol → Type 0) (ss : List Symbol) (left : ℕ) : Type 0 where
  pub front : List Symbol
  pub back : List Symbol
  pub parts : ss ≡ front ++ back
  pub count : length back ≡ left
  pub begins : Begins Whole front
  pub within : Within front
  pub ends : (s : Symbol) (more : List Symbol) → back ≡ s ∷ more → Begins Whole (front ++ s ∷ []) → ⊥

-- A parenthesis that the language allows is the first that is too deep: with it 33 are open. So many symbols are left from it on.
pub record DeepAt (Whole Within : List Symbol → Type 0) (ss : List Symbol) (left : ℕ) : Type 0 where
  pub front : List Symbol
  pub back : List Symbol
  pub parts : ss ≡ front ++ opening ∷ back
  pub count : length (opening ∷ back) ≡ left
  pub begins : Begins Whole (front ++ opening ∷ [])
  pub within : Within front
  pub over : open_behind false 0 (front ++ opening ∷ []) ≡ 33

-- The name of an instance that the language allows is one too many. So many symbols are left from it on.
pub record ManyAt (Whole Within : List Symbol → Type 0) (numbers : List Symbol → List ℕ) (most : ℕ) (ss : List Symbol) (left : ℕ) : Type 0 where
  pub front : List Symbol
  pub number : ℕ
  pub back : List Symbol
  pub parts : ss ≡ front ++ name number ∷ back
  pub count : length (name number ∷ back) ≡ left
  pub begins : Begins Whole (front ++ name number ∷ [])
  pub within : Within front
  pub over : most < length (numbers (front ++ name number ∷ []))

-- The name of an instance that the language allows is the second with its number, and no name too many.
pub record TwiceAt (Whole Within : List Symbol → Type 0) (numbers : List Symbol → List ℕ) (most : ℕ) (ss : List Symbol) (number : ℕ) : Type 0 where
  pub front : List Symbol
  pub back : List Symbol
  pub parts : ss ≡ front ++ name number ∷ back
  pub begins : Begins Whole (front ++ name number ∷ [])
  pub within : Within front
  pub few : length (numbers (front ++ name number ∷ [])) ≤ most
  pub twice : IsDistinct nat_eq (numbers (front ++ name number ∷ [])) → ⊥
