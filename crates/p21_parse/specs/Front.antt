-- The front of a file that was read, and what stands behind it.
use Rattle.std.specs.Prelude.{◌≡◌, ◌≤◌, ℕ, List, [], ◌∷◌, ◌++◌}
use Rattle.std.specs.List.{AllByRecursion}
use Rattle.p21_lex.specs.declared.token.Token.{Token}
use Rattle.p21_lex.specs.Reading.{Reads, IsToken}
use Rattle.p21_join.specs.Join.{EndsInSemicolon, LastIsSemicolon}
use Rattle.p21_parse.specs.declared.limits.TheConstants.{MAX_NESTING}
use Rattle.p21_parse.specs.declared.parser.Parser.{Parser}
use Rattle.p21_parse.specs.Tree.{InstanceTree, ExchangeTree}
use Rattle.p21_parse.specs.Symbol.{symbols}
use Rattle.p21_parse.specs.Spell.{spell_all, spell_instance}
use Rattle.p21_parse.specs.Grammar.{IsExchange}
use Rattle.p21_parse.specs.Nesting.{exchange_nesting}
use Rattle.p21_parse.specs.Machine.{instances, end_items, file_items, run}
use Rattle.p21_parse.specs.Parser.{from, spell_start}

-- further instances behind those of an exchange
abbrev pub with_items : ExchangeTree → List InstanceTree → ExchangeTree
with_items x items = record { head = x.head; items = x.items ++ items }

-- The tokens of the bytes end with a semicolon, which is the last byte.
pub record EndsWell (bytes : List ℕ) : Type 0 where
  pub tokens : List Token
  pub reads : Reads 0 tokens bytes
  pub last : LastIsSemicolon tokens
  pub ends : EndsInSemicolon bytes

-- The front of a file: its header, and the instances so far, which the grammar and the limit on parentheses allow.
pub record IsFront (front : List ℕ) (x : ExchangeTree) : Type 0 where
  pub well : EndsWell front
  pub inside : AllByRecursion (IsToken front) well.tokens
  pub spells : symbols front well.tokens ≡ spell_start x.head (spell_all spell_instance x.items [])
  pub grammar : IsExchange x
  pub shallow : exchange_nesting x ≤ MAX_NESTING

-- ---- the same of tokens that lie in the text

-- Reading all of s goes on as reading t does from the instances on.
abbrev pub GoesOn : Parser → Parser → Type 0
GoesOn s t = run MAX_NESTING 0 file_items (from s 0) ≡ run MAX_NESTING 0 (instances ∷ end_items) (from t 0)
