-- The places of refusals, which are named from the end: by how many tokens are left.
use Rattle.std.specs.Prelude.{ℕ, ◌-◌, List, [], ◌∷◌, length, drop, Option, Some, None}
use Rattle.p21_lex.specs.declared.token.Token.{Token}
use Rattle.p21_parse.specs.Machine.{Outcome, done, stuck, deep}

-- why a text of tokens is no exchange: the place of a token, or the number that comes twice
pub data Refusal : Type 0 where
  syntax : ℕ → Refusal
  too_deep : ℕ → Refusal
  too_many : ℕ → Refusal
  duplicate : ℕ → Refusal

-- where the first token stands, and where there is none the text's length
abbrev pub start_of : List ℕ → List Token → ℕ
start_of bytes [] = length bytes
start_of bytes (t ∷ ts) = t.start

-- where the token stands from which on so many are left
abbrev pub place_of : List ℕ → List Token → ℕ → ℕ
place_of bytes tokens left = start_of bytes (drop (length tokens - left) tokens)

-- the refusal that the machine's outcome stands for, where there is one
abbrev pub refusal_of : List ℕ → List Token → Outcome → Option Refusal
refusal_of bytes tokens (done n rest) = None
refusal_of bytes tokens (stuck left) = Some (syntax (place_of bytes tokens left))
refusal_of bytes tokens (deep left) = Some (too_deep (place_of bytes tokens left))
