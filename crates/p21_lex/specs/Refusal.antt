-- Why a text has no tokens: tokens read it up to a place, and what stands there is no token and no gap, for one cause. Nothing here scans.
use Rattle.std.specs.Prelude.{◌≡◌, ℕ, ◌+◌, ◌<◌, Bool, false, ◌||◌, ◌==◌, ◌⊎◌, List, [], ◌∷◌, ◌++◌, length, count_by, IsTrue}
use Rattle.std.specs.List.{concat, list_any, AllByRecursion}
use Rattle.std.specs.Str.Parse.{digits_value}
use Rattle.p21_lex.specs.declared.number.TheConstants.{MAX_DIGITS, MAX_NAME}
use Rattle.p21_lex.specs.declared.error.LexErr.{LexErr}
use Rattle.p21_lex.specs.declared.error.LexErr.TheVariants.{BadByte, BadName, OpenString, OpenComment, NumberTooLong, NoMemory}
use Rattle.p21_lex.specs.declared.token.TokenKind.TheVariants as kinds
use Rattle.p21_lex.specs.declared.token.Token.{Token}
use Rattle.p21_lex.specs.Class.{is_digit, is_upper, is_plain, is_hex, is_sign, is_blank, is_legal, Each, NotFirst}
use Rattle.p21_lex.specs.Reading.{IsKeyword, IsDigits, IsInt, IsReal, IsInside, IsCommentInside, IsGap, Spells, Stops}

-- The tokens read the front of the bytes, of which the first lies at a place, and leave the rest, which lies at another.
abbrev pub ReadsUpTo : ℕ → List Token → List ℕ → ℕ → List ℕ → Type 0
ReadsUpTo at [] bytes place rest = (gaps : List (List ℕ)) × AllByRecursion IsGap gaps × (bytes ≡ concat gaps ++ rest) × (place ≡ at + length (concat gaps))
ReadsUpTo at (t ∷ ts) bytes place rest =
    (gaps : List (List ℕ)) × (text : List ℕ) × (more : List ℕ) × AllByRecursion IsGap gaps × (bytes ≡ concat gaps ++ (text ++ more))
    × (t.start ≡ at + length (concat gaps)) × (t.end ≡ t.start + length text)
    × Spells t.kind text × Stops t.kind text more × ReadsUpTo t.end ts more place rest

-- whether a gap or a token may begin with a byte: blanks, letters, signs, digits, and ! " # $ ' ( ) * , . / ; =
abbrev pub may_begin : ℕ → Bool
may_begin b = is_blank b || is_upper b || is_sign b || is_digit b || list_any (λ c. b == c) (33 ∷ 34 ∷ 35 ∷ 36 ∷ 39 ∷ 40 ∷ 41 ∷ 42 ∷ 44 ∷ 46 ∷ 47 ∷ 59 ∷ 61 ∷ [])

-- What begins nothing: such a byte that nothing begins with, a sign or # without a digit, ! without a letter, / without *, and a point that
-- begins no enumeration.
abbrev pub IsNothing : List ℕ → Type 0
IsNothing [] = ⊥
IsNothing (b ∷ bs) =
    (may_begin b ≡ false)
    ⊎ (((IsTrue (is_sign b) ⊎ (b ≡ 35)) × NotFirst is_digit bs)
    ⊎ (((b ≡ 33) × NotFirst is_upper bs)
    ⊎ (((b ≡ 47) × NotFirst (λ c. c == 42) bs)
    ⊎ ((b ≡ 46) × ((word rest : List ℕ) → bs ≡ word ++ 46 ∷ rest → IsKeyword is_plain word → ⊥)))))

-- A text, a binary or a comment was opened by a mark, and is an inside up to a byte so many bytes on that may not stand in it.
abbrev pub IsSpoilt : List ℕ → (List ℕ → Type 0) → (ℕ → Bool) → ℕ → List ℕ → Type 0
IsSpoilt mark Inside may_stand place bytes =
    (inside : List ℕ) × (b : ℕ) × (rest : List ℕ) × (bytes ≡ mark ++ (inside ++ b ∷ rest)) × Inside inside × (may_stand b ≡ false) × (place ≡ length mark + length inside)

-- What stands at a place is no gap and no token, for this cause.
abbrev pub IsFault : ℕ → List ℕ → LexErr → Type 0
IsFault at bytes (BadByte place) =
    ((place ≡ at) × IsNothing bytes)
    ⊎ ((n : ℕ) × (place ≡ at + n)
    × (IsSpoilt (39 ∷ []) IsInside is_legal n bytes
    ⊎ (IsSpoilt (34 ∷ []) (Each is_hex) (λ b. is_hex b || (b == 34)) n bytes
    ⊎ IsSpoilt (47 ∷ 42 ∷ []) IsCommentInside is_legal n bytes)))
IsFault at bytes (BadName place) =
    (place ≡ at) × (digits : List ℕ) × (rest : List ℕ) × (bytes ≡ 35 ∷ (digits ++ rest)) × IsDigits digits × NotFirst is_digit rest
    × ((digits_value 10 digits ≡ 0) ⊎ (MAX_NAME < digits_value 10 digits))
IsFault at bytes (OpenString place) =
    (place ≡ at) × (inside : List ℕ) × (((bytes ≡ 39 ∷ inside) × IsInside inside) ⊎ ((bytes ≡ 34 ∷ inside) × Each is_hex inside))
IsFault at bytes (OpenComment place) = (place ≡ at) × (inside : List ℕ) × (bytes ≡ 47 ∷ 42 ∷ inside) × IsCommentInside inside
IsFault at bytes (NumberTooLong place) =
    (place ≡ at) × (text : List ℕ) × (rest : List ℕ) × (bytes ≡ text ++ rest)
    × ((IsInt text × Stops kinds.Int text rest) ⊎ (IsReal text × Stops kinds.Real text rest)) × (MAX_DIGITS < count_by is_digit text)
IsFault at bytes NoMemory = ⊥

-- Tokens read the bytes, of which the first lies at a place, up to another place, and there stands this fault.
abbrev pub IsRefusedFrom : ℕ → List ℕ → LexErr → Type 0
IsRefusedFrom at bytes e = (ts : List Token) × (place : ℕ) × (rest : List ℕ) × ReadsUpTo at ts bytes place rest × IsFault place rest e

-- The same of a whole text.
abbrev pub IsRefused : List ℕ → LexErr → Type 0
IsRefused bytes e = IsRefusedFrom 0 bytes e
