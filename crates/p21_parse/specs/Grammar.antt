-- Which trees the grammar of ISO 10303-21 has, in this profile: how many parameters and parts stand where. What their symbols are, Spell says.
use Rattle.std.specs.Prelude.{◌≡◌, ℕ, ◌<◌, Bool, true, false, List, [], ◌∷◌, length, codes}
use Rattle.std.specs.List.{AllByRecursion}
use Rattle.p21_lex.specs.declared.token.TokenKind.TheVariants.{Text}
use Rattle.p21_parse.specs.Tree.{Tree, one, reference, list, typed, Trees, none, first, count, PartTree, InstanceTree, ExchangeTree}
use Rattle.p21_parse.specs.Symbol.{Symbol}
use Rattle.p21_parse.specs.Spell.{spell_all, spell_instance, spell_file}

abbrev mutual
  -- A parameter (ISO 10303-21: parameter): a typed one has exactly one parameter.
  pub IsParameter : Tree → Type 0
  IsParameter (one kind text) = Unit {0}
  IsParameter (reference number) = Unit {0}
  IsParameter (list ts) = AreParameters ts
  IsParameter (typed word ts) = (count ts ≡ 1) × AreParameters ts

  pub AreParameters : Trees → Type 0
  AreParameters none = Unit {0}
  AreParameters (first t ts) = IsParameter t × AreParameters ts

-- a keyword with parameters or nothing (ISO 10303-21: simple record)
abbrev pub IsPart : PartTree → Type 0
IsPart p = AreParameters p.parameters

-- A simple instance has exactly one part, a complex one at least one.
abbrev pub HasParts : Bool → List PartTree → Type 0
HasParts false ps = length ps ≡ 1
HasParts true ps = 0 < length ps

-- an entity instance (ISO 10303-21: entity instance)
abbrev pub IsInstance : InstanceTree → Type 0
IsInstance i = HasParts i.complex i.parts × AllByRecursion IsPart i.parts

-- an entry of the header with a given keyword and so many parameters
abbrev pub IsNamed : List ℕ → ℕ → PartTree → Type 0
IsNamed word n p = (p.keyword ≡ word) × (count p.parameters ≡ n) × IsPart p

abbrev pub IsText : Tree → Type 0
IsText (one Text text) = Unit {0}
IsText _ = ⊥

abbrev pub AreTexts : Trees → Type 0
AreTexts none = Unit {0}
AreTexts (first t ts) = IsText t × AreTexts ts

-- a list of one or more texts, and nothing else
abbrev pub IsTextList : Trees → Type 0
IsTextList (first (list (first t ts)) none) = IsText t × AreTexts ts
IsTextList _ = ⊥

-- the entry of the header that names schemas
abbrev pub IsSchema : PartTree → Type 0
IsSchema p = (p.keyword ≡ codes "FILE_SCHEMA") × IsTextList p.parameters

-- a further entry of the header: at least one parameter
abbrev pub IsEntry : PartTree → Type 0
IsEntry p = (0 < count p.parameters) × IsPart p

-- the header (ISO 10303-21: header section): three entries in their order, and further ones
abbrev pub IsHead : List PartTree → Type 0
IsHead (a ∷ b ∷ c ∷ entries) =
    IsNamed (codes "FILE_DESCRIPTION") 2 a × IsNamed (codes "FILE_NAME") 7 b × IsSchema c × AllByRecursion IsEntry entries
IsHead _ = ⊥

-- an exchange that the grammar has
pub record IsExchange (x : ExchangeTree) : Type 0 where
  pub head : IsHead x.head
  pub items : AllByRecursion IsInstance x.items

-- The symbols are those of a whole file (ISO 10303-21: exchange file).
abbrev pub IsFile : List Symbol → Type 0
IsFile ss = (x : ExchangeTree) × IsExchange x × (ss ≡ spell_file x)

-- The symbols are those of instances, one behind the other.
abbrev pub AreInstances : List Symbol → Type 0
AreInstances ss = (items : List InstanceTree) × AllByRecursion IsInstance items × (ss ≡ spell_all spell_instance items [])
