-- A token list reads a text: the text is the tokens' spellings in order, with blanks and comments between them, and each spelling as long as
-- its form allows (ISO 10303-21, clear text encoding: tokens). Nothing here scans.
use Rattle.std.specs.Prelude.{◌≡◌, ℕ, ◌+◌, ◌<◌, ◌≤◌, Bool, false, ◌&&◌, ◌||◌, ◌==◌, nat_eq, ◌⊎◌, List, [], ◌∷◌, ◌++◌, length, take, drop, count_by, slice_range, IsTrue}
use Rattle.std.specs.List.{concat, starts_with, list_any, AllByRecursion}
use Rattle.p21_lex.specs.declared.number.TheConstants.{MAX_DIGITS, MAX_NAME}
use Rattle.p21_lex.specs.declared.token.TokenKind.{TokenKind}
use Rattle.p21_lex.specs.declared.token.TokenKind.TheVariants.{Word, UserWord, Name, Int, Real, Text, Enumeration, Binary, Open, Close, Comma, Semicolon, Equals, Dollar, Star}
use Rattle.p21_lex.specs.declared.token.Token.{Token}
use Rattle.p21_lex.specs.declared.piece.Piece.{Piece}
use Rattle.p21_lex.specs.declared.piece.Piece.TheVariants.{Gap, Spelling}
use Rattle.p21_lex.specs.Class.{is_digit, is_upper, is_plain, is_word, is_hex, is_sign, is_blank, is_legal, Each, NotFirst}
use Rattle.p21_lex.specs.Number.{name_value}

-- a capital letter, and then bytes of a class (ISO 10303-21: keywords)
abbrev pub IsKeyword : (ℕ → Bool) → List ℕ → Type 0
IsKeyword class [] = ⊥
IsKeyword class (b ∷ bs) = IsTrue (is_upper b) × Each class bs

-- at least one digit
abbrev pub IsDigits : List ℕ → Type 0
IsDigits [] = ⊥
IsDigits (b ∷ bs) = Each is_digit (b ∷ bs)

-- digits with or without a sign (ISO 10303-21: integer)
abbrev pub IsInt : List ℕ → Type 0
IsInt [] = ⊥
IsInt (b ∷ bs) = IsDigits (b ∷ bs) ⊎ (IsTrue (is_sign b) × IsDigits bs)

-- nothing, or an E and an integer
abbrev pub IsExponent : List ℕ → Type 0
IsExponent [] = Unit {0}
IsExponent (b ∷ bs) = (b ≡ 69) × IsInt bs

-- an integer, a point, digits and an exponent (ISO 10303-21: real)
pub record IsReal (text : List ℕ) : Type 0 where
  pub whole : List ℕ
  pub fraction : List ℕ
  pub exponent : List ℕ
  pub parts : text ≡ whole ++ 46 ∷ (fraction ++ exponent)
  pub is_whole : IsInt whole
  pub is_fraction : Each is_digit fraction
  pub is_exponent : IsExponent exponent

-- at most 38 digits, those of a fraction and an exponent among them (this profile)
abbrev pub IsShort : List ℕ → Type 0
IsShort text = count_by is_digit text ≤ MAX_DIGITS

-- the inside of a text: an apostrophe stands twice (ISO 10303-21: string)
abbrev pub IsInside : List ℕ → Type 0
IsInside [] = Unit {0}
IsInside (b ∷ []) = ((b == 39) ≡ false) × IsTrue (is_legal b)
IsInside (b ∷ c ∷ bs) = ((b ≡ 39) × (c ≡ 39) × IsInside bs) ⊎ (((b == 39) ≡ false) × IsTrue (is_legal b) × IsInside (c ∷ bs))

-- the mark, an inside of the right kind, and the mark again
abbrev pub IsBetween : ℕ → (List ℕ → Type 0) → List ℕ → Type 0
IsBetween byte Inside text = (inside : List ℕ) × (text ≡ byte ∷ (inside ++ byte ∷ [])) × Inside inside

-- What the spelling of a kind is (ISO 10303-21: tokens), with this profile's ranges: a name's value is 1 to 2,147,483,647, a number has at most 38 digits.
abbrev pub Spells : TokenKind → List ℕ → Type 0
Spells Word text = IsKeyword is_word text
Spells UserWord text = (word : List ℕ) × (text ≡ 33 ∷ word) × IsKeyword is_plain word
Spells Name text = (digits : List ℕ) × (text ≡ 35 ∷ digits) × IsDigits digits × (1 ≤ name_value text) × (name_value text ≤ MAX_NAME)
Spells Int text = IsInt text × IsShort text
Spells Real text = IsReal text × IsShort text
Spells Text text = IsBetween 39 IsInside text
Spells Enumeration text = IsBetween 46 (IsKeyword is_plain) text
Spells Binary text = IsBetween 34 (Each is_hex) text
Spells Open text = text ≡ 40 ∷ []
Spells Close text = text ≡ 41 ∷ []
Spells Comma text = text ≡ 44 ∷ []
Spells Semicolon text = text ≡ 59 ∷ []
Spells Equals text = text ≡ 61 ∷ []
Spells Dollar text = text ≡ 36 ∷ []
Spells Star text = text ≡ 42 ∷ []

-- a digit, or a sign and a digit
abbrev pub begins_int : List ℕ → Bool
begins_int [] = false
begins_int (b ∷ []) = is_digit b
begins_int (b ∷ c ∷ bs) = is_digit b || (is_sign b && is_digit c)

-- an E and the beginning of an integer
abbrev pub begins_exponent : List ℕ → Bool
begins_exponent [] = false
begins_exponent (b ∷ bs) = (b == 69) && begins_int bs

-- What may stand behind a spelling of a kind: nothing with which its form would go on. A real without an exponent would go on with one.
abbrev pub Stops : TokenKind → List ℕ → List ℕ → Type 0
Stops Word text rest = NotFirst is_word rest
Stops UserWord text rest = NotFirst is_plain rest
Stops Name text rest = NotFirst is_digit rest
Stops Int text rest = NotFirst (λ b. is_digit b || (b == 46)) rest
Stops Real text rest = NotFirst is_digit rest × (list_any (λ b. b == 69) text ≡ false → begins_exponent rest ≡ false)
Stops Text text rest = NotFirst (λ b. b == 39) rest
Stops _ text rest = Unit {0}

-- whether a comment's closing mark stands anywhere
abbrev pub has_end : List ℕ → Bool
has_end [] = false
has_end (b ∷ bs) = starts_with nat_eq (b ∷ bs) (42 ∷ 47 ∷ []) || has_end bs

-- the inside of a comment: legal bytes with no closing mark (ISO 10303-21: token separators)
abbrev pub IsCommentInside : List ℕ → Type 0
IsCommentInside inside = Each is_legal inside × (has_end inside ≡ false)

-- a comment
abbrev pub IsComment : List ℕ → Type 0
IsComment text = (inside : List ℕ) × (text ≡ 47 ∷ 42 ∷ (inside ++ 42 ∷ 47 ∷ [])) × IsCommentInside inside

-- what stands between tokens: one blank, or one whole comment
abbrev pub IsGap : List ℕ → Type 0
IsGap text = ((b : ℕ) × (text ≡ b ∷ []) × IsTrue (is_blank b)) ⊎ IsComment text

-- What a piece at the front of the bytes is: a gap, or a spelling that stops there.
abbrev pub IsPiece : List ℕ → Piece → Type 0
IsPiece bytes (Gap len) = (len ≤ length bytes) × IsGap (take len bytes)
IsPiece bytes (Spelling kind len) = (len ≤ length bytes) × Spells kind (take len bytes) × Stops kind (take len bytes) (drop len bytes)

-- The tokens read the bytes, of which the first lies at a place.
abbrev pub Reads : ℕ → List Token → List ℕ → Type 0
Reads at [] bytes = (gaps : List (List ℕ)) × AllByRecursion IsGap gaps × (bytes ≡ concat gaps)
Reads at (t ∷ ts) bytes =
    (gaps : List (List ℕ)) × (text : List ℕ) × (rest : List ℕ) × AllByRecursion IsGap gaps × (bytes ≡ concat gaps ++ (text ++ rest))
    × (t.start ≡ at + length (concat gaps)) × (t.end ≡ t.start + length text)
    × Spells t.kind text × Stops t.kind text rest × Reads t.end ts rest

-- A token lies in the bytes, and its bytes spell its kind.
pub record IsToken (bytes : List ℕ) (t : Token) : Type 0 where
  pub filled : t.start < t.end
  pub inside : t.end ≤ length bytes
  pub spelled : Spells t.kind (slice_range bytes t.start t.end)
