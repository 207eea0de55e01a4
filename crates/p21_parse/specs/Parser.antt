-- A text's tokens from one of them on, and where a reader stops.
use Rattle.std.specs.Prelude.{◌≡◌, ℕ, ◌+◌, ◌-◌, ◌<◌, ◌≤◌, Bool, true, false, Option, Some, None, List, [], ◌∷◌, ◌++◌, ◌⊎◌, length, drop, codes}
use Rattle.std.specs.List.{AllByRecursion}
use Rattle.p21_lex.specs.declared.token.TokenKind.{TokenKind}
use Rattle.p21_lex.specs.declared.token.TokenKind.TheVariants as kinds
use Rattle.p21_lex.specs.declared.token.Token.{Token}
use Rattle.p21_lex.specs.Reading.{IsToken}
use Rattle.p21_parse.specs.declared.limits.TheConstants.{MAX_NESTING}
use Rattle.p21_parse.specs.declared.parser.Parser.{Parser}
use Rattle.p21_parse.specs.declared.parser.Stop.{Stop}
use Rattle.p21_parse.specs.declared.parser.Stop.TheVariants.{Syntax, TooDeep, NoMemory}
use Rattle.p21_parse.specs.Tree.{Tree, one, reference, Trees, none, first, PartTree, InstanceTree, ExchangeTree}
use Rattle.p21_parse.specs.Symbol.{Symbol, value, name, keyword, opening, closing, semicolon, equals, symbol, symbol_of, symbols}
use Rattle.p21_parse.specs.Spell.{spell_parts, spell_all, spell_entry, spell_instance, spell_file}
use Rattle.p21_parse.specs.Grammar.{IsText, AreTexts, IsInstance, IsEntry, IsExchange}
use Rattle.p21_parse.specs.Nesting.{greatest, part_nesting, instance_nesting, exchange_nesting}
use Rattle.p21_parse.specs.Machine.{Item, fixed, schema, more_schemas, instances, entries, endsec, iso, header, data_word, end_iso, named, end_items, file_items, Outcome, done, stuck, deep, same, run}

-- the tokens lie in the text
abbrev pub IsParser : Parser → Type 0
IsParser s = AllByRecursion (IsToken s.bytes.now) s.tokens.now

-- the symbols from a token on
abbrev pub from : Parser → ℕ → List Symbol
from s at = symbols s.bytes.now (drop at s.tokens.now)

-- The reader stopped where the machine did, unless memory ran out.
abbrev pub Stops : Parser → Stop → Outcome → Type 0
Stops s (Syntax at) outcome = (at ≤ length s.tokens.now) × (outcome ≡ stuck (length s.tokens.now - at))
Stops s (TooDeep at) outcome = (at ≤ length s.tokens.now) × (outcome ≡ deep (length s.tokens.now - at))
Stops s NoMemory outcome = Unit {0}

-- ---- what stands at a token

-- the first symbol, if there is one, is another
abbrev pub IsNotHead : Symbol → List Symbol → Type 0
IsNotHead m [] = Unit {0}
IsNotHead m (s ∷ ss) = s ≡ m → ⊥

-- a kind of token that has one symbol alone: a mark
pub record IsMark (kind : TokenKind) (m : Symbol) : Type 0 where
  pub has : (text : List ℕ) → symbol kind text ≡ m
  pub alone : (k : TokenKind) (text : List ℕ) → symbol k text ≡ m → k ≡ kind
  pub itself : same m m ≡ true
  pub differs : (s : Symbol) → (s ≡ m → ⊥) → same m s ≡ false

-- no keyword stands first
abbrev pub HasNoKeyword : List Symbol → Type 0
HasNoKeyword [] = Unit {0}
HasNoKeyword (keyword w ∷ ss) = ⊥
HasNoKeyword (s ∷ ss) = Unit {0}

-- no name stands first
abbrev pub HasNoName : List Symbol → Type 0
HasNoName [] = Unit {0}
HasNoName (name n ∷ ss) = ⊥
HasNoName (s ∷ ss) = Unit {0}

-- whether a kind has a mark at each of its ends
abbrev pub is_marked : TokenKind → Bool
is_marked kinds.Text = true
is_marked kinds.Enumeration = true
is_marked kinds.Binary = true
is_marked _ = false

-- the parameter that a symbol is by itself
abbrev pub value_at : Symbol → Option Tree
value_at (value kind text) = Some (one kind text)
value_at (name number) = Some (reference number)
value_at _ = None

-- the keyword that a symbol is
abbrev pub keyword_at : Symbol → Option (List ℕ)
keyword_at (keyword text) = Some text
keyword_at _ = None

-- no such parameter stands first
abbrev pub HasNoValue : List Symbol → Type 0
HasNoValue [] = Unit {0}
HasNoValue (value kind text ∷ ss) = ⊥
HasNoValue (name n ∷ ss) = ⊥
HasNoValue (s ∷ ss) = Unit {0}

-- this token stands there
pub record Stands (s : Parser) (at : ℕ) (t : Token) : Type 0 where
  pub within : at < length s.tokens.now
  pub token : IsToken s.bytes.now t
  pub first : from s at ≡ symbol_of s.bytes.now t ∷ from s (at + 1)

-- a symbol stands at the token
pub record Has (s : Parser) (at : ℕ) (m : Symbol) : Type 0 where
  pub within : at < length s.tokens.now
  pub first : from s at ≡ m ∷ from s (at + 1)

-- a parameter of one token stands there
pub record IsValue (s : Parser) (at : ℕ) (t : Tree) : Type 0 where
  pub symbol : Symbol
  pub has : Has s at symbol
  pub is : value_at symbol ≡ Some t

-- a thing of the grammar stands from one token up to another, and the machine goes on over it, from so many open parentheses to so many
pub record IsRead (s : Parser) (n k : ℕ) (items : List Item) (at next : ℕ) (spelled : List Symbol → List Symbol) : Type 0 where
  pub onward : at < next
  pub inside : next ≤ length s.tokens.now
  pub spells : from s at ≡ spelled (from s next)
  pub goes : (stack : List Item) → run MAX_NESTING n (items ++ stack) (from s at) ≡ run MAX_NESTING k stack (from s next)

-- the machine stops where the reader does
abbrev pub IsRefused : Parser → ℕ → List Item → ℕ → Stop → Type 0
IsRefused s n items at e = (stack : List Item) → Stops s e (run MAX_NESTING n (items ++ stack) (from s at))

-- what stands behind an instance's name
abbrev pub spell_behind_name : InstanceTree → List Symbol → List Symbol
spell_behind_name i rest = equals ∷ spell_parts i.complex i.parts (semicolon ∷ rest)

-- instances stand from one token up to another, perhaps none
pub record AreRead (s : Parser) (at next : ℕ) (spelled : List Symbol → List Symbol) : Type 0 where
  pub onward : at ≤ next
  pub inside : next ≤ length s.tokens.now
  pub spells : from s at ≡ spelled (from s next)
  pub goes : (stack : List Item) → run MAX_NESTING 0 (instances ∷ stack) (from s at) ≡ run MAX_NESTING 0 (instances ∷ stack) (from s next)

abbrev pub AreRefused : Parser → ℕ → Stop → Type 0
AreRefused s at e = (stack : List Item) → Stops s e (run MAX_NESTING 0 (instances ∷ stack) (from s at))

-- ---- the header

-- no text stands first
abbrev pub HasNoText : List Symbol → Type 0
HasNoText [] = Unit {0}
HasNoText (value kinds.Text text ∷ ss) = ⊥
HasNoText (s ∷ ss) = Unit {0}

-- the first symbol, if there is one, is not this word or mark
abbrev pub IsOther : Symbol → List Symbol → Type 0
IsOther w [] = Unit {0}
IsOther w (s ∷ ss) = same w s ≡ false

-- one or more texts
abbrev pub AreNames : Trees → Type 0
AreNames none = ⊥
AreNames (first t ts) = IsText t × AreTexts ts

-- the entry that names schemas
abbrev pub schema_entry : List Item
schema_entry = fixed (keyword (codes "FILE_SCHEMA")) ∷ fixed opening ∷ fixed opening ∷ schema ∷ more_schemas ∷ fixed closing ∷ fixed semicolon ∷ []

-- the word that ends the header stands there, and no opening parenthesis behind it
abbrev pub IsEnd : Parser → ℕ → Type 0
IsEnd s at = Has s at endsec × IsNotHead opening (from s (at + 1))

-- that word does not stand first, or an opening parenthesis stands behind it
abbrev pub IsNoEnd : List Symbol → Type 0
IsNoEnd [] = Unit {0}
IsNoEnd (s ∷ ss) = same endsec s ≡ true → IsNotHead opening ss → ⊥

-- a further entry stands from one token up to another
pub record EntryRead (s : Parser) (at next : ℕ) (spelled : List Symbol → List Symbol) : Type 0 where
  pub onward : at < next
  pub inside : next ≤ length s.tokens.now
  pub spells : from s at ≡ spelled (from s next)
  pub goes : (stack : List Item) → run MAX_NESTING 0 (entries ∷ stack) (from s at) ≡ run MAX_NESTING 0 (entries ∷ stack) (from s next)

abbrev pub EntriesRefused : Parser → ℕ → Stop → Type 0
EntriesRefused s at e = IsRefused s 0 (entries ∷ []) at e

-- further entries stand from one token up to another, with the end of the header; with those read before they are the whole list
pub record EntriesRead (s : Parser) (at next : ℕ) (before whole : List PartTree) : Type 0 where
  pub others : List PartTree
  pub is : whole ≡ before ++ others
  pub read : IsRead s 0 0 (entries ∷ []) at next (λ r. spell_all spell_entry others (endsec ∷ semicolon ∷ r))
  pub are : AllByRecursion IsEntry others
  pub nests : greatest part_nesting others ≤ MAX_NESTING

-- the items of the header's entries and of its end
abbrev pub head_items : List Item
head_items = named (codes "FILE_DESCRIPTION") 1 [] ++ (named (codes "FILE_NAME") 6 [] ++ (schema_entry ++ (entries ∷ [])))

-- ---- the file

-- a word and a semicolon
abbrev pub phrase : Symbol → List Item
phrase w = fixed w ∷ fixed semicolon ∷ []

-- the items up to the instances
abbrev pub start_items : List Item
start_items = phrase iso ++ (phrase header ++ (head_items ++ phrase data_word))

-- what stands before the instances, and behind them
abbrev pub spell_start : List PartTree → List Symbol → List Symbol
spell_start head rest = iso ∷ semicolon ∷ header ∷ semicolon ∷ spell_all spell_entry head (endsec ∷ semicolon ∷ data_word ∷ semicolon ∷ rest)

abbrev pub spell_last : List Symbol → List Symbol
spell_last rest = endsec ∷ semicolon ∷ end_iso ∷ semicolon ∷ rest

-- the items behind the instances, with the word that ends them
abbrev pub last_items : List Item
last_items = phrase endsec ++ phrase end_iso

-- The reader stopped where the machine did, or where tokens go on behind a whole file.
abbrev pub FileStops : Parser → Stop → Outcome → Type 0
FileStops s (Syntax at) outcome = (at ≤ length s.tokens.now) × ((outcome ≡ stuck (length s.tokens.now - at)) ⊎ ((at < length s.tokens.now) × (outcome ≡ done 0 (from s at))))
FileStops s (TooDeep at) outcome = Stops s (TooDeep at) outcome
FileStops s NoMemory outcome = Unit {0}

-- from a token on the instances of a file were read, and its end
pub record RestRead (s : Parser) (at : ℕ) (items : List InstanceTree) : Type 0 where
  pub grammar : AllByRecursion IsInstance items
  pub shallow : greatest instance_nesting items ≤ MAX_NESTING
  pub spells : from s at ≡ spell_all spell_instance items (spell_last [])
  pub goes : run MAX_NESTING 0 (instances ∷ end_items) (from s at) ≡ done 0 []

-- the file was read whole
pub record FileRead (s : Parser) (x : ExchangeTree) : Type 0 where
  pub grammar : IsExchange x
  pub shallow : exchange_nesting x ≤ MAX_NESTING
  pub spells : from s 0 ≡ spell_file x
  pub goes : run MAX_NESTING 0 file_items (from s 0) ≡ done 0 []
