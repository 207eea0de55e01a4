-- Which lists of instances make an exchange, and the header that it gets.
use Rattle.std.specs.Prelude.{◌≡◌, ℕ, nat_eq, suc, ◌<◌, ◌≤◌, List, [], ◌∷◌, length, map, take, codes}
use Rattle.std.specs.List.{AllByRecursion, IsDistinct}
use Rattle.p21_lex.specs.declared.token.TokenKind.TheVariants as kinds
use Rattle.p21_parse.specs.declared.limits.TheConstants.{MAX_INSTANCES, MAX_NESTING}
use Rattle.p21_parse.specs.declared.error.BuildErr.{BuildErr}
use Rattle.p21_parse.specs.declared.error.BuildErr.TheVariants.{Invalid, NoMemory}
use Rattle.p21_parse.specs.Tree.{Tree, one, list, none, first, PartTree, InstanceTree}
use Rattle.p21_parse.specs.Spell.{spell, spell_part}
use Rattle.p21_parse.specs.Grammar.{IsParameter, IsPart, IsInstance}
use Rattle.p21_parse.specs.Nesting.{nesting, part_nesting, instance_nesting}
use Rattle.p21_parse.specs.Begins.{IsSymbol}
use Rattle.p21_parse.specs.Spelled.{IsSpelledInstance}
use Rattle.p21_parse.specs.Allowed.{own_number_of, AreAllowed}

-- The instances can be those of a file: the grammar and the limits allow them, no number comes twice, and each can be written.
pub record AreValid (items : List InstanceTree) : Type 0 where
  pub allowed : AreAllowed MAX_INSTANCES items
  pub distinct : IsDistinct nat_eq (map own_number_of items)
  pub spelled : AllByRecursion IsSpelledInstance items

-- The instance at this index, counted from 0, is the first with which the instances can't be those of a file.
pub record IsFirstInvalid (items : List InstanceTree) (i : ℕ) : Type 0 where
  pub inside : i < length items
  pub before : AreValid (take i items)
  pub with_it : AreValid (take (suc i) items) → ⊥

-- Why instances make no exchange.
abbrev pub IsRefusedList : List InstanceTree → BuildErr → Type 0
IsRefusedList items (Invalid i) = IsFirstInvalid items i
IsRefusedList items NoMemory = Unit {0}

-- a text with nothing in it
abbrev pub empty_text : Tree
empty_text = one kinds.Text []

-- a list of one text with nothing in it
abbrev pub one_empty : Tree
one_empty = list (first empty_text none)

-- the entry that gives the version and the conformance class, and describes nothing
abbrev pub standard_description : PartTree
standard_description = record {
  keyword = codes "FILE_DESCRIPTION";
  parameters = first one_empty (first (one kinds.Text (codes "2;1")) none);
}

-- the entry that gives no name, time, author, organization, preprocessor, originating system and authorization
abbrev pub standard_name : PartTree
standard_name = record {
  keyword = codes "FILE_NAME";
  parameters = first empty_text (first empty_text (first one_empty (first one_empty (first empty_text (first empty_text (first empty_text none))))));
}

-- the entry that gives one schema without a name
abbrev pub standard_schema : PartTree
standard_schema = record { keyword = codes "FILE_SCHEMA"; parameters = first one_empty none }

-- The header that this profile gives where none is known (ISO 10303-21, header section).
abbrev pub standard_head : List PartTree
standard_head = standard_description ∷ standard_name ∷ standard_schema ∷ []

-- ---- one instance, part and parameter

-- An instance that the grammar and the limits allow, and that can be written.
pub record IsValid (i : InstanceTree) : Type 0 where
  pub grammar : IsInstance i
  pub shallow : instance_nesting i ≤ MAX_NESTING
  pub spelled : IsSpelledInstance i

-- These are the numbers of the first instances: each is valid, they are few enough, and with the next one, if there is one, that is not so.
pub record AreFitting (items : List InstanceTree) (numbers : List ℕ) : Type 0 where
  pub numbers_are : numbers ≡ map own_number_of (take (length numbers) items)
  pub inside : length numbers ≤ length items
  pub each : AllByRecursion IsValid (take (length numbers) items)
  pub few : length numbers ≤ MAX_INSTANCES
  pub ends : length numbers < length items → AreValid (take (suc (length numbers)) items) → ⊥

-- the same of a part
pub record IsValidPart (p : PartTree) : Type 0 where
  pub grammar : IsPart p
  pub shallow : part_nesting p ≤ MAX_NESTING
  pub spelled : AllByRecursion IsSymbol (spell_part p [])

-- the same of a parameter in which so many parentheses may lie in one another at most
pub record Fits (most : ℕ) (t : Tree) : Type 0 where
  pub grammar : IsParameter t
  pub shallow : nesting t ≤ most
  pub spelled : AllByRecursion IsSymbol (spell t [])
