-- The first slice of a text: its tokens up to and with the first semicolon behind so many bytes, or all of them where there is none.
use Rattle.std.specs.Prelude.{◌≡◌, ℕ, zero, suc, ◌+◌, Bool, true, false, ◌&&◌, ◌⊎◌, nat_le, if◌then◌else◌, List, [], ◌∷◌, ◌++◌, length, drop, IsTrue, Result, Ok, Err}
use Rattle.std.specs.List.{AllByRecursion}
use Rattle.p21_lex.specs.declared.error.LexErr.{LexErr}
use Rattle.p21_lex.specs.declared.token.TokenKind.{TokenKind}
use Rattle.p21_lex.specs.declared.token.TokenKind.TheVariants.{Semicolon}
use Rattle.p21_lex.specs.declared.token.Token.{Token}
use Rattle.p21_lex.specs.declared.piece.Piece.{Piece}
use Rattle.p21_lex.specs.declared.piece.Piece.TheVariants.{Gap, Spelling}
use Rattle.p21_lex.specs.Front.{front, piece_len}
use Rattle.p21_lex.specs.Tokens.{piece_tokens}
use Rattle.p21_lex.specs.Refusal.{ReadsUpTo, IsFault}

abbrev pub is_semicolon : TokenKind → Bool
is_semicolon Semicolon = true
is_semicolon _ = false

-- whether a token ends a slice of so many bytes at least
abbrev pub ends_slice : ℕ → Token → Bool
ends_slice least t = is_semicolon t.kind && nat_le least t.end

-- The last token alone may end the slice, and the slice has so many bytes, up to that token's end; where none ends it, it has all bytes of the text.
abbrev pub EndsAt : ℕ → List Token → ℕ → ℕ → Type 0
EndsAt least [] len size = len ≡ size
EndsAt least (t ∷ ts) len size = (IsTrue (ends_slice least t) × (ts ≡ []) × (len ≡ t.end)) ⊎ ((ends_slice least t ≡ false) × EndsAt least ts len size)

-- The tokens read the first bytes of a text, so many, and leave the others; where they end is the end of a slice of so many bytes at least.
pub record IsFirstSlice (bytes : List ℕ) (least : ℕ) (ts : List Token) (len : ℕ) : Type 0 where
  pub reads : ReadsUpTo 0 ts bytes len (drop len bytes)
  pub ends : EndsAt least ts len (length bytes)

-- Tokens of which none ends a slice read the bytes, of which the first lies at a place, up to another place, and there stands this fault.
abbrev pub IsRefusedSliceFrom : ℕ → List ℕ → ℕ → LexErr → Type 0
IsRefusedSliceFrom at bytes least e =
    (ts : List Token) × (place : ℕ) × (rest : List ℕ) × ReadsUpTo at ts bytes place rest × IsFault place rest e × AllByRecursion (λ t. ends_slice least t ≡ false) ts

-- The same of the first slice of a text.
abbrev pub IsRefusedSlice : List ℕ → ℕ → LexErr → Type 0
IsRefusedSlice bytes least e = IsRefusedSliceFrom 0 bytes least e

-- ---- the same as a function of the bytes

-- the tokens of a slice, and where it ends
abbrev pub Slice : Type 0
Slice = List Token × ℕ

-- whether a piece that ends at a place ends a slice
abbrev pub piece_ends : ℕ → ℕ → Piece → Bool
piece_ends least end (Gap len) = false
piece_ends least end (Spelling kind len) = is_semicolon kind && nat_le least end

-- these tokens, and then those of the slice behind them
abbrev pub with_slice : List Token → Result Slice LexErr → Result Slice LexErr
with_slice ts (Ok slice) = Ok (ts ++ slice.0, slice.1)
with_slice ts (Err e) = Err e

-- a piece's token, and then the slice's other tokens, unless the piece ends it
abbrev pub slice_behind : ℕ → ℕ → Result Piece LexErr → (ℕ → Result Slice LexErr) → Result Slice LexErr
slice_behind least at (Err e) rest = Err e
slice_behind least at (Ok piece) rest =
    if piece_ends least (at + piece_len piece) piece then Ok (piece_tokens at piece, at + piece_len piece) else with_slice (piece_tokens at piece) (rest (piece_len piece))

-- The first slice of bytes from a place on, in so many pieces at most.
unfoldable pub slice_in : ℕ → ℕ → ℕ → List ℕ → Result Slice LexErr
slice_in least zero at bytes = Ok ([], at)
slice_in least (suc steps) at [] = Ok ([], at)
slice_in least (suc steps) at (b ∷ bs) = slice_behind least at (front at (b ∷ bs)) (λ len. slice_in least steps (at + len) (drop len (b ∷ bs)))

-- The first slice of a text, or its first fault; never want of memory.
unfoldable pub slice_of : ℕ → List ℕ → Result Slice LexErr
slice_of least bytes = slice_in least (length bytes) 0 bytes
