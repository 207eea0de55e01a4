-- What the grammar sees of a text's tokens (ISO 10303-21, clear text encoding).
use Rattle.std.specs.Prelude.{ℕ, ◌-◌, Bool, false, ◌==◌, if◌then◌else◌, List, [], ◌∷◌, length, map, slice_range}
use Rattle.std.specs.List.{list_any}
use Rattle.p21_lex.specs.declared.token.TokenKind.{TokenKind}
use Rattle.p21_lex.specs.declared.token.TokenKind.TheVariants as kinds
use Rattle.p21_lex.specs.declared.token.Token.{Token}
use Rattle.p21_lex.specs.Number.{name_value}

-- A value has its kind and the bytes between its marks, a name its number alone, so that leading zeros are gone. A keyword is a word
-- without a hyphen, or a user's keyword with its mark `!`; words with a hyphen are apart.
pub data Symbol : Type 0 where
  value : TokenKind → List ℕ → Symbol
  name : ℕ → Symbol
  keyword : List ℕ → Symbol
  dashed : List ℕ → Symbol
  opening : Symbol
  closing : Symbol
  comma : Symbol
  semicolon : Symbol
  equals : Symbol

-- the bytes between the first and the last
abbrev pub inside : List ℕ → List ℕ
inside text = slice_range text 1 (length text - 1)

-- whether a hyphen stands in a word
abbrev pub has_hyphen : List ℕ → Bool
has_hyphen text = list_any (λ b. b == 45) text

-- the symbol of a word
abbrev pub word : List ℕ → Symbol
word text = if has_hyphen text then dashed text else keyword text

-- whether a keyword is a user's
abbrev pub is_user : List ℕ → Bool
is_user [] = false
is_user (b ∷ bs) = b == 33

-- the symbol of a kind and its spelling
abbrev pub symbol : TokenKind → List ℕ → Symbol
symbol kinds.Word text = word text
symbol kinds.UserWord text = keyword text
symbol kinds.Name text = name (name_value text)
symbol kinds.Int text = value kinds.Int text
symbol kinds.Real text = value kinds.Real text
symbol kinds.Text text = value kinds.Text (inside text)
symbol kinds.Enumeration text = value kinds.Enumeration (inside text)
symbol kinds.Binary text = value kinds.Binary (inside text)
symbol kinds.Open text = opening
symbol kinds.Close text = closing
symbol kinds.Comma text = comma
symbol kinds.Semicolon text = semicolon
symbol kinds.Equals text = equals
symbol kinds.Dollar text = value kinds.Dollar []
symbol kinds.Star text = value kinds.Star []

-- the bytes of a token
abbrev pub text_of : List ℕ → Token → List ℕ
text_of bytes t = slice_range bytes t.start t.end

-- the symbol of a token that lies in the bytes
abbrev pub symbol_of : List ℕ → Token → Symbol
symbol_of bytes t = symbol t.kind (text_of bytes t)

-- the symbols of tokens, in order
abbrev pub symbols : List ℕ → List Token → List Symbol
symbols bytes ts = map (symbol_of bytes) ts
