-- What instances that follow each other from a token on are.
use Rattle.std.specs.Prelude.{◌≡◌, ℕ, ◌≤◌, List, length, drop}
use Rattle.p21_lex.specs.declared.token.Token.{Token}
use Rattle.p21_parse.specs.declared.error.ReadErr.{ReadErr}
use Rattle.p21_parse.specs.declared.error.ReadErr.TheVariants.{Lex, Syntax, TooDeep, TooMany, Duplicate, NoMemory}
use Rattle.p21_parse.specs.declared.parser.Parser.{Parser}
use Rattle.p21_parse.specs.declared.parser.Stop.{Stop}
use Rattle.p21_parse.specs.declared.parser.Stop.TheVariants as stops
use Rattle.p21_parse.specs.Tree.{InstanceTree}
use Rattle.p21_parse.specs.Symbol.{symbols}
use Rattle.p21_parse.specs.Spell.{spell_all, spell_instance}
use Rattle.p21_parse.specs.Places.{start_of, syntax, too_deep, too_many}
use Rattle.p21_parse.specs.Refused.{RefusedFrom}
use Rattle.p21_parse.specs.Allowed.{AreAllowed, IsNoName}

-- From one token up to another stand these instances, within the limits, and no name follows them.
pub record AreInstancesFrom (bytes : List ℕ) (tokens : List Token) (from most : ℕ) (items : List InstanceTree) (next : ℕ) : Type 0 where
  pub onward : from ≤ next
  pub inside : next ≤ length tokens
  pub allowed : AreAllowed most items
  pub spells : symbols bytes (drop from tokens) ≡ spell_all spell_instance items (symbols bytes (drop next tokens))
  pub ends : IsNoName (symbols bytes (drop next tokens))

-- Why the tokens from one on are no such instances.
abbrev pub AreRefusedFrom : List ℕ → List Token → ℕ → ℕ → ReadErr → Type 0
AreRefusedFrom bytes tokens from most (Lex e) = ⊥
AreRefusedFrom bytes tokens from most (Syntax place) = RefusedFrom bytes tokens from most (syntax place)
AreRefusedFrom bytes tokens from most (TooDeep place) = RefusedFrom bytes tokens from most (too_deep place)
AreRefusedFrom bytes tokens from most (TooMany place) = RefusedFrom bytes tokens from most (too_many place)
AreRefusedFrom bytes tokens from most (Duplicate number) = ⊥
AreRefusedFrom bytes tokens from most NoMemory = Unit {0}

-- how it comes out that reading stopped at a token
abbrev pub IsFaultOf : Parser → Stop → ReadErr → Type 0
IsFaultOf s (stops.Syntax at) e = e ≡ Syntax (start_of s.bytes.now (drop at s.tokens.now))
IsFaultOf s (stops.TooDeep at) e = e ≡ TooDeep (start_of s.bytes.now (drop at s.tokens.now))
IsFaultOf s stops.NoMemory e = e ≡ NoMemory
