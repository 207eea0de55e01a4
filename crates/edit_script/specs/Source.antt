-- A text's tokens from one of them on, and what reading an edit from there on answers.
use Rattle.std.specs.Prelude.{◌≡◌, ℕ, ◌+◌, ◌-◌, ◌<◌, ◌≤◌, ◌⊎◌, List, [], ◌∷◌, length, drop, map, Option, Some, None, Ok, if◌then◌else◌, IsTrue}
use Rattle.std.specs.List.{AllByRecursion}
use Rattle.std.specs.Str.Parse.{digits_value}
use Rattle.p21_lex.specs.declared.lexer.TheConstants.{MAX_TEXT}
use Rattle.p21_lex.specs.declared.token.Token.{Token}
use Rattle.p21_lex.specs.declared.token.TokenKind.TheVariants.{Int}
use Rattle.p21_lex.specs.Reading.{IsToken}
use Rattle.p21_lex.specs.Tokens.{tokens_of}
use Rattle.p21_parse.specs.Symbol.{Symbol, value, semicolon, symbol_of, symbols}
use Rattle.p21_parse.specs.Parser.{IsNotHead}
use Rattle.p21_parse.specs.Places.{place_of}
use Rattle.p21_parse.specs.View.{instance_of}
use Rattle.p21_parse.specs.declared.limits.TheConstants.{MAX_NESTING}
use Rattle.edit_script.specs.declared.error.ScriptErr.{ScriptErr}
use Rattle.edit_script.specs.declared.error.ScriptErr.TheVariants.{Lex, Syntax, TooDeep, TooMany, AtOrder, Repeated, Attribute, NoMemory}
use Rattle.edit_script.specs.declared.source.Source.{Source}
use Rattle.edit_script.specs.declared.source.Written.{Written}
use Rattle.edit_script.specs.Script.{EditTree, edit_word, at_word, end_word, is_moment, moment_of, spell_edit, IsEdit, HasFew, edit_nesting}
use Rattle.edit_script.specs.Refused.{Cause, syntax, too_deep, too_many, Refuses}

-- the number that these bytes say, if they say when an edit is due
abbrev pub moment_in : List ℕ → Option ℕ
moment_in text = if is_moment text then Some (digits_value 10 text) else None

-- the tokens lie in the text
abbrev pub AreInside : Source → Type 0
AreInside s = AllByRecursion (IsToken s.bytes.now) s.tokens.now

-- they are all the tokens of the text, which is short enough
pub record IsSource (s : Source) : Type 0 where
  pub short : length s.bytes.now ≤ MAX_TEXT
  pub tokens : tokens_of s.bytes.now ≡ Ok s.tokens.now
  pub inside : AreInside s
  pub few : length s.tokens.now ≤ MAX_TEXT

-- the symbols from a token on
abbrev pub from : Source → ℕ → List Symbol
from s at = symbols s.bytes.now (drop at s.tokens.now)

-- this token stands there
pub record Stands (s : Source) (at : ℕ) (t : Token) : Type 0 where
  pub within : at < length s.tokens.now
  pub token : IsToken s.bytes.now t
  pub first : from s at ≡ symbol_of s.bytes.now t ∷ from s (at + 1)

-- a symbol stands at the token
pub record Has (s : Source) (at : ℕ) (m : Symbol) : Type 0 where
  pub within : at < length s.tokens.now
  pub first : from s at ≡ m ∷ from s (at + 1)

-- an integer stands at the token that says when an edit is due
pub record IsMomentAt (s : Source) (at : ℕ) (moment : ℕ) : Type 0 where
  pub digits : List ℕ
  pub has : Has s at (value Int digits)
  pub is : IsTrue (is_moment digits)
  pub says : moment ≡ digits_value 10 digits

-- no such integer stands first
abbrev pub IsNoMoment : List Symbol → Type 0
IsNoMoment [] = Unit {0}
IsNoMoment (s ∷ ss) = (digits : List ℕ) → s ≡ value Int digits → IsTrue (is_moment digits) → ⊥

-- an edit begins at the token, and says this number
pub record IsHead (s : Source) (at : ℕ) (moment : ℕ) : Type 0 where
  pub digits : List ℕ
  pub is : IsTrue (is_moment digits)
  pub says : moment ≡ digits_value 10 digits
  pub inside : at + 4 ≤ length s.tokens.now
  pub spells : from s at ≡ edit_word ∷ at_word ∷ value Int digits ∷ semicolon ∷ from s (at + 4)

-- no script goes on with the token at index k, which is in the beginning of an edit
pub record HeadStops (s : Source) (at k : ℕ) : Type 0 where
  pub inside : k ≤ length s.tokens.now
  pub refuses : (most : ℕ) → 0 < most → Refuses most syntax (from s at) (length s.tokens.now - k)

-- an edit ends at the token
pub record IsTail (s : Source) (at : ℕ) : Type 0 where
  pub inside : at + 2 ≤ length s.tokens.now
  pub spells : from s at ≡ end_word ∷ semicolon ∷ from s (at + 2)

-- at index k another token stands than that of the end of an edit
abbrev pub TailStops : Source → ℕ → ℕ → Type 0
TailStops s at k =
    ((k ≡ at) × IsNotHead end_word (from s at)) ⊎ ((k ≡ at + 1) × Has s at end_word × IsNotHead semicolon (from s (at + 1)))

-- an edit stands from one token up to another, within the limits
pub record IsEditRead (s : Source) (at next : ℕ) (e : EditTree) : Type 0 where
  pub onward : at < next
  pub inside : next ≤ length s.tokens.now
  pub spells : from s at ≡ spell_edit e (from s next)
  pub grammar : IsEdit e
  pub shallow : edit_nesting e ≤ MAX_NESTING
  pub few : HasFew e

-- what was read is this edit
pub record IsWritten (w : Written) (e : EditTree) : Type 0 where
  pub moment : w.at ≡ moment_of e
  pub items : map instance_of w.items ≡ e.items

-- from a token on the symbols are refused for this cause, at this place
abbrev pub Tells : Source → ℕ → ℕ → Cause → ℕ → Type 0
Tells s most at cause place = (left : ℕ) × Refuses most cause (from s at) left × (place ≡ place_of s.bytes.now s.tokens.now left)

-- why the tokens from one on are no script of so many edits at most, unless memory ran out
abbrev pub TellsFrom : Source → ℕ → ℕ → ScriptErr → Type 0
TellsFrom s most at (Lex e) = ⊥
TellsFrom s most at (Syntax place) = Tells s most at syntax place
TellsFrom s most at (TooDeep place) = Tells s most at too_deep place
TellsFrom s most at (TooMany place) = Tells s most at too_many place
TellsFrom s most at (AtOrder edit) = ⊥
TellsFrom s most at (Repeated edit number) = ⊥
TellsFrom s most at (Attribute edit number position) = ⊥
TellsFrom s most at NoMemory = Unit {0}
