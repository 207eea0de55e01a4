-- The text that an exchange is printed as (ISO 10303-21, clear text encoding, in this profile): the symbols of its file, each in its plain
-- spelling, and nothing between them but the end of a line behind each semicolon.
use Rattle.std.specs.Prelude.{ℕ, List, [], ◌∷◌, ◌++◌, codes, decimal}
use Rattle.std.specs.List.{flat_map}
use Rattle.p21_lex.specs.declared.token.TokenKind.{TokenKind}
use Rattle.p21_lex.specs.declared.token.TokenKind.TheVariants as kinds
use Rattle.p21_parse.specs.Tree.{ExchangeTree}
use Rattle.p21_parse.specs.Symbol.{Symbol, value, name, keyword, dashed, opening, closing, comma, semicolon, equals}
use Rattle.p21_parse.specs.Spell.{spell_file}

-- bytes between two of the same marks
abbrev pub between : ℕ → List ℕ → List ℕ
between mark bytes = mark ∷ (bytes ++ mark ∷ [])

-- a value of a kind that has these bytes between its marks: apostrophes, points, quotation marks, or none (ISO 10303-21: tokens)
abbrev pub plain_value : TokenKind → List ℕ → List ℕ
plain_value kinds.Text bytes = between 39 bytes
plain_value kinds.Enumeration bytes = between 46 bytes
plain_value kinds.Binary bytes = between 34 bytes
plain_value kinds.Dollar bytes = codes "$"
plain_value kinds.Star bytes = codes "*"
plain_value _ bytes = bytes

-- The spelling of a symbol: a name's number has no leading zeros.
abbrev pub plain : Symbol → List ℕ
plain (value kind bytes) = plain_value kind bytes
plain (name number) = 35 ∷ decimal number
plain (keyword text) = text
plain (dashed text) = text
plain opening = codes "("
plain closing = codes ")"
plain comma = codes ","
plain semicolon = codes ";"
plain equals = codes "="

-- A line ends behind a semicolon, and nowhere else.
abbrev pub line_end : Symbol → List ℕ
line_end semicolon = 10 ∷ []
line_end _ = []

abbrev pub printed_symbol : Symbol → List ℕ
printed_symbol s = plain s ++ line_end s

-- the text of symbols, one behind the other
abbrev pub printed_symbols : List Symbol → List ℕ
printed_symbols ss = flat_map printed_symbol ss

-- the text of a whole exchange
abbrev pub printed : ExchangeTree → List ℕ
printed x = printed_symbols (spell_file x)
