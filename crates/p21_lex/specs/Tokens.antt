-- The tokens of a text, or its first fault.
use Rattle.std.specs.Prelude.{◌≡◌, ℕ, zero, suc, ◌+◌, List, [], ◌∷◌, ◌++◌, length, drop, Result, Ok, Err}
use Rattle.p21_lex.specs.declared.error.LexErr.{LexErr}
use Rattle.p21_lex.specs.declared.error.LexErr.TheVariants.{BadByte, BadName, OpenString, OpenComment, NumberTooLong, NoMemory}
use Rattle.p21_lex.specs.declared.token.TokenKind.{TokenKind}
use Rattle.p21_lex.specs.declared.token.Token.{Token}
use Rattle.p21_lex.specs.declared.piece.Piece.{Piece}
use Rattle.p21_lex.specs.declared.piece.Piece.TheVariants.{Gap, Spelling}
use Rattle.p21_lex.specs.Front.{front, piece_len}

-- a token of so many bytes from a place on
abbrev pub token_at : ℕ → TokenKind → ℕ → Token
token_at at kind len = record { kind = kind; start = at; end = at + len }

-- these tokens, and then those that were read behind them
abbrev pub with_front : List Token → Result (List Token) LexErr → Result (List Token) LexErr
with_front ts (Ok us) = Ok (ts ++ us)
with_front ts (Err e) = Err e

-- the token of a piece at a place; a gap has none
abbrev pub piece_tokens : ℕ → Piece → List Token
piece_tokens at (Gap len) = []
piece_tokens at (Spelling kind len) = token_at at kind len ∷ []

-- a piece's token, and then the tokens of what stands behind the piece
abbrev pub tokens_behind : ℕ → Result Piece LexErr → (ℕ → Result (List Token) LexErr) → Result (List Token) LexErr
tokens_behind at (Err e) rest = Err e
tokens_behind at (Ok piece) rest = with_front (piece_tokens at piece) (rest (piece_len piece))

-- The tokens of bytes from a place on, in so many pieces at most. Each piece takes a byte at least, so as many as there are bytes are enough.
unfoldable pub tokens_in : ℕ → ℕ → List ℕ → Result (List Token) LexErr
tokens_in zero at bytes = Ok []
tokens_in (suc steps) at [] = Ok []
tokens_in (suc steps) at (b ∷ bs) = tokens_behind at (front at (b ∷ bs)) (λ len. tokens_in steps (at + len) (drop len (b ∷ bs)))

-- The tokens of bytes of which the first lies at a place, or their first fault.
unfoldable pub tokens_behind_place : ℕ → List ℕ → Result (List Token) LexErr
tokens_behind_place at bytes = tokens_in (length bytes) at bytes

-- The tokens of a text, or its first fault; never want of memory.
unfoldable pub tokens_of : List ℕ → Result (List Token) LexErr
tokens_of bytes = tokens_in (length bytes) 0 bytes

-- An error that a call answered is the one that a definition says; want of memory says nothing.
abbrev pub Fails : {X : Type 0} → LexErr → Result X LexErr → Type 0
Fails NoMemory said = Unit {0}
Fails (BadByte at) said = said ≡ Err (BadByte at)
Fails (BadName at) said = said ≡ Err (BadName at)
Fails (OpenString at) said = said ≡ Err (OpenString at)
Fails (OpenComment at) said = said ≡ Err (OpenComment at)
Fails (NumberTooLong at) said = said ≡ Err (NumberTooLong at)

-- What a call answered, seen by view, is what a definition says, unless memory ran out.
abbrev pub Gives : {X Y : Type 0} → (X → Y) → Result X LexErr → Result Y LexErr → Type 0
Gives view (Ok x) said = said ≡ Ok (view x)
Gives view (Err e) said = Fails e said
