-- Slices of whole instances.
use Rattle.std.specs.Prelude.{◌≡◌, ◌≤◌, ℕ, List, []}
use Rattle.std.specs.List.{AllByRecursion}
use Rattle.p21_lex.specs.declared.token.Token.{Token}
use Rattle.p21_lex.specs.Reading.{Reads, IsToken}
use Rattle.p21_parse.specs.declared.limits.TheConstants.{MAX_NESTING}
use Rattle.p21_parse.specs.Tree.{InstanceTree}
use Rattle.p21_parse.specs.Symbol.{symbols}
use Rattle.p21_parse.specs.Spell.{spell_all, spell_instance}
use Rattle.p21_parse.specs.Grammar.{IsInstance}
use Rattle.p21_parse.specs.Nesting.{greatest, instance_nesting}
use Rattle.p21_join.specs.Join.{EndsInSemicolon, LastIsSemicolon}

-- A slice of whole instances, which the grammar and the limit on parentheses allow; it ends behind a semicolon.
pub record IsWhole (slice : List ℕ) (items : List InstanceTree) : Type 0 where
  pub tokens : List Token
  pub reads : Reads 0 tokens slice
  pub inside : AllByRecursion (IsToken slice) tokens
  pub spells : symbols slice tokens ≡ spell_all spell_instance items []
  pub grammar : AllByRecursion IsInstance items
  pub shallow : greatest instance_nesting items ≤ MAX_NESTING
  pub last : LastIsSemicolon tokens
  pub ends : EndsInSemicolon slice
