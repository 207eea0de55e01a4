-- What the bytes of a text are: a file of one exchange, or refused.
use Rattle.std.specs.Prelude.{◌≡◌, ℕ, ◌-◌, ◌≤◌, List, length}
use Rattle.p21_lex.specs.declared.token.Token.{Token}
use Rattle.std.specs.List.{AllByRecursion}
use Rattle.p21_lex.specs.Reading.{Reads, IsToken}
use Rattle.p21_lex.specs.declared.error.LexErr.{LexErr}
use Rattle.p21_lex.specs.declared.error.LexErr.TheVariants as faults
use Rattle.p21_lex.specs.Refusal.{IsRefused}
use Rattle.p21_parse.specs.declared.limits.TheConstants.{MAX_NESTING}
use Rattle.p21_parse.specs.declared.error.ReadErr.{ReadErr}
use Rattle.p21_parse.specs.declared.error.ReadErr.TheVariants.{Lex, Syntax, TooDeep, TooMany, Duplicate, NoMemory}
use Rattle.p21_parse.specs.declared.parser.Parser.{Parser}
use Rattle.p21_parse.specs.Tree.{ExchangeTree}
use Rattle.p21_parse.specs.Symbol.{symbols}
use Rattle.p21_parse.specs.Spell.{spell_file}
use Rattle.p21_parse.specs.Allowed.{IsAllowed}
use Rattle.p21_parse.specs.Places.{Refusal, syntax, too_deep, too_many, duplicate}
use Rattle.p21_parse.specs.Refused.{RefusedAt}
use Rattle.p21_parse.specs.Machine.{Outcome, done, stuck, deep, run, file_items}
use Rattle.p21_parse.specs.Parser.{from}

-- The bytes are a file (ISO 10303-21, exchange file): their tokens spell the exchange, which the grammar and the limits allow.
pub record IsText (bytes : List ℕ) (x : ExchangeTree) : Type 0 where
  pub tokens : List Token
  pub reads : Reads 0 tokens bytes
  pub inside : AllByRecursion (IsToken bytes) tokens
  pub spells : symbols bytes tokens ≡ spell_file x
  pub allowed : IsAllowed x

-- how a fault of tokens comes out
abbrev pub from_lex : LexErr → ReadErr
from_lex faults.NoMemory = NoMemory
from_lex fault = Lex fault

-- the bytes have tokens, and these have this refusal
pub record HasRefusal (bytes : List ℕ) (refusal : Refusal) : Type 0 where
  pub tokens : List Token
  pub reads : Reads 0 tokens bytes
  pub inside : AllByRecursion (IsToken bytes) tokens
  pub refused : RefusedAt bytes tokens refusal

-- Why the bytes are no file: the first fault of their tokens, or whichever refusal stands at the earliest token.
abbrev pub IsRefusedText : List ℕ → ReadErr → Type 0
IsRefusedText bytes (Lex e) = IsRefused bytes e
IsRefusedText bytes (Syntax place) = HasRefusal bytes (syntax place)
IsRefusedText bytes (TooDeep place) = HasRefusal bytes (too_deep place)
IsRefusedText bytes (TooMany place) = HasRefusal bytes (too_many place)
IsRefusedText bytes (Duplicate number) = HasRefusal bytes (duplicate number)
IsRefusedText bytes NoMemory = Unit {0}

-- ---- the same of tokens that lie in the text

-- the tokens spell the exchange, which the grammar and the limits allow
pub record IsExchangeOf (s : Parser) (x : ExchangeTree) : Type 0 where
  pub spells : symbols s.bytes.now s.tokens.now ≡ spell_file x
  pub allowed : IsAllowed x

-- the tokens have this refusal
abbrev pub IsRefusedTokens : Parser → ReadErr → Type 0
IsRefusedTokens s (Lex e) = ⊥
IsRefusedTokens s (Syntax place) = RefusedAt s.bytes.now s.tokens.now (syntax place)
IsRefusedTokens s (TooDeep place) = RefusedAt s.bytes.now s.tokens.now (too_deep place)
IsRefusedTokens s (TooMany place) = RefusedAt s.bytes.now s.tokens.now (too_many place)
IsRefusedTokens s (Duplicate number) = RefusedAt s.bytes.now s.tokens.now (duplicate number)
IsRefusedTokens s NoMemory = Unit {0}

-- how many symbols are left where the machine ended
abbrev pub left_in : Outcome → ℕ
left_in (done n rest) = length rest
left_in (stuck left) = left
left_in (deep left) = left

-- the names among so many tokens refuse the text, where it goes on as a file at least up to there
abbrev pub NamesRefuse : Parser → ℕ → ReadErr → Type 0
NamesRefuse s end e = left_in (run MAX_NESTING 0 file_items (from s 0)) ≤ length s.tokens.now - end → IsRefusedTokens s e
