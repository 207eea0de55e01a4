-- The text of a script (this profile): edits one behind the other, each with when it is due and the instances that it puts.
use Rattle.std.specs.Prelude.{◌≡◌, ℕ, ◌≤◌, Bool, ◌&&◌, ◌||◌, not, ◌==◌, nat_le, nat_lt, slice_index, List, [], ◌∷◌, length, codes, IsTrue}
use Rattle.std.specs.List.{list_all, AllByRecursion}
use Rattle.std.specs.Str.Parse.{digits_value}
use Rattle.p21_lex.specs.Class.{is_digit}
use Rattle.p21_lex.specs.declared.token.TokenKind.TheVariants.{Int}
use Rattle.p21_parse.specs.declared.limits.TheConstants.{MAX_NESTING}
use Rattle.p21_parse.specs.Tree.{InstanceTree}
use Rattle.p21_parse.specs.Symbol.{Symbol, value, keyword, semicolon}
use Rattle.p21_parse.specs.Spell.{spell_all, spell_instance}
use Rattle.p21_parse.specs.Grammar.{IsInstance}
use Rattle.p21_parse.specs.Nesting.{greatest, instance_nesting}
use Rattle.edit_script.specs.declared.limits.TheConstants.{MAX_ITEMS}

-- An edit: the digits that say when it is due, and its instances.
pub record EditTree : Type 0 where
  pub digits : List ℕ
  pub items : List InstanceTree

abbrev pub edit_word : Symbol
edit_word = keyword (codes "EDIT")

abbrev pub at_word : Symbol
at_word = keyword (codes "AT")

abbrev pub end_word : Symbol
end_word = keyword (codes "ENDEDIT")

-- the symbols of an edit, and then those that follow
abbrev pub spell_edit : EditTree → List Symbol → List Symbol
spell_edit e rest = edit_word ∷ at_word ∷ value Int e.digits ∷ semicolon ∷ spell_all spell_instance e.items (end_word ∷ semicolon ∷ rest)

-- One to seven digits, of which the first is no zero, or a zero alone.
abbrev pub is_moment : List ℕ → Bool
is_moment text = list_all is_digit text && (nat_lt 0 (length text) && nat_le (length text) 7) && ((length text == 1) || not (slice_index text 0 == 48))

-- from when on an edit is due, in entries of the log
abbrev pub moment_of : EditTree → ℕ
moment_of e = digits_value 10 e.digits

-- an edit that the grammar has
pub record IsEdit (e : EditTree) : Type 0 where
  pub moment : IsTrue (is_moment e.digits)
  pub items : AllByRecursion IsInstance e.items

-- The symbols are those of a script, the limits aside.
abbrev pub IsScript : List Symbol → Type 0
IsScript ss = (es : List EditTree) × AllByRecursion IsEdit es × (ss ≡ spell_all spell_edit es [])

-- an edit has at most 1,000 instances
abbrev pub HasFew : EditTree → Type 0
HasFew e = length e.items ≤ MAX_ITEMS

-- so many edits at most, each of few instances
pub record AreFew (most : ℕ) (es : List EditTree) : Type 0 where
  pub edits : length es ≤ most
  pub items : AllByRecursion HasFew es

-- The symbols are those of a script of so many edits at most, each of few instances.
abbrev pub IsFewScript : ℕ → List Symbol → Type 0
IsFewScript most ss = (es : List EditTree) × AllByRecursion IsEdit es × AreFew most es × (ss ≡ spell_all spell_edit es [])

-- how many parentheses of an edit's instances are open in one another
abbrev pub edit_nesting : EditTree → ℕ
edit_nesting e = greatest instance_nesting e.items

-- Edits that the grammar and the limits allow, of which there may be so many at most.
pub record AreAllowed (most : ℕ) (es : List EditTree) : Type 0 where
  pub grammar : AllByRecursion IsEdit es
  pub shallow : greatest edit_nesting es ≤ MAX_NESTING
  pub few : AreFew most es
