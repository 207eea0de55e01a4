-- A machine with a stack of items reads the grammar forward, one symbol a step. No public clause names it: what a file is, Grammar and Spell say.
use Rattle.std.specs.Prelude.{ℕ, zero, suc, pred, Bool, true, false, if◌then◌else◌, nat_lt, List, [], ◌∷◌, ◌++◌, length, Option, Some, None, codes}
use Rattle.std.specs.Str.{bytes_eq}
use Rattle.p21_lex.specs.declared.token.TokenKind.TheVariants.{Text}
use Rattle.p21_parse.specs.Symbol.{Symbol, value, name, keyword, dashed, opening, closing, comma, semicolon, equals}

-- what is still to come
pub data Item : Type 0 where
  fixed : Symbol → Item  -- this word or mark
  parameter : Item  -- a parameter
  parameter_list : Item  -- parameters or nothing, and the closing parenthesis
  more_parameters : Item  -- further parameters, each behind a comma, and the closing parenthesis
  schema : Item  -- the name of a schema, a text
  more_schemas : Item  -- further names of schemas, each behind a comma, and the closing parenthesis
  part : Item  -- a keyword and its parameters
  more_parts : Item  -- further parts, and the closing parenthesis
  behind_name : Item  -- the mark behind an instance's name, and the body
  body : Item  -- a part, or parts in parentheses
  instances : Item  -- instances, and the word that ends them
  entries : Item  -- further entries of the header, and the end of the header
  entry_or_end : Item  -- what stands behind the word that ends the header, which is also a keyword

-- whether two symbols are one word or one mark
abbrev pub same : Symbol → Symbol → Bool
same (keyword v) (keyword w) = bytes_eq v w
same (dashed v) (dashed w) = bytes_eq v w
same opening opening = true
same closing closing = true
same comma comma = true
same semicolon semicolon = true
same equals equals = true
same _ _ = false

abbrev pub iso : Symbol
iso = dashed (codes "ISO-10303-21")

abbrev pub end_iso : Symbol
end_iso = dashed (codes "END-ISO-10303-21")

abbrev pub header : Symbol
header = keyword (codes "HEADER")

abbrev pub data_word : Symbol
data_word = keyword (codes "DATA")

abbrev pub endsec : Symbol
endsec = keyword (codes "ENDSEC")

-- what is to come behind a symbol that fits, and then these
abbrev pub on : Bool → List Item → Option (List Item)
on true items = Some items
on false items = None

-- what is to come behind the first symbol of a parameter, and then these
abbrev pub begun : Symbol → List Item → Option (List Item)
begun (value kind bytes) items = Some items
begun (name n) items = Some items
begun opening items = Some (parameter_list ∷ items)
begun (keyword word) items = Some (fixed opening ∷ parameter ∷ fixed closing ∷ items)
begun _ items = None

-- behind the keyword of a further entry, and behind the word that ends the header
abbrev pub entry_or : Bool → Option (List Item)
entry_or true = Some (entry_or_end ∷ [])
entry_or false = Some (fixed opening ∷ parameter ∷ more_parameters ∷ fixed semicolon ∷ entries ∷ [])

-- what an item leaves to come behind its first symbol; None where it does not begin so
abbrev pub after : Item → Symbol → Option (List Item)
after (fixed x) s = on (same x s) []
after parameter s = begun s []
after parameter_list closing = Some []
after parameter_list s = begun s (more_parameters ∷ [])
after more_parameters comma = Some (parameter ∷ more_parameters ∷ [])
after more_parameters closing = Some []
after schema (value Text bytes) = Some []
after more_schemas comma = Some (schema ∷ more_schemas ∷ [])
after more_schemas closing = Some []
after part (keyword word) = Some (fixed opening ∷ parameter_list ∷ [])
after more_parts (keyword word) = Some (fixed opening ∷ parameter_list ∷ more_parts ∷ [])
after more_parts closing = Some []
after behind_name equals = Some (body ∷ [])
after body (keyword word) = Some (fixed opening ∷ parameter_list ∷ [])
after body opening = Some (part ∷ more_parts ∷ [])
after instances (name n) = Some (behind_name ∷ fixed semicolon ∷ instances ∷ [])
after instances (keyword word) = on (bytes_eq (codes "ENDSEC") word) []
after entries (keyword word) = entry_or (bytes_eq (codes "ENDSEC") word)
after entry_or_end semicolon = Some []
after entry_or_end opening = Some (parameter ∷ more_parameters ∷ fixed semicolon ∷ entries ∷ [])
after _ _ = None

-- How many parentheses are open behind an item's first symbol. The outer one of a complex instance does not count.
abbrev pub open_in : Item → ℕ → Symbol → ℕ
open_in body n opening = n
open_in _ n opening = suc n
open_in _ n closing = pred n
open_in _ n _ = n

-- how reading ends: with everything read, at a symbol that does not fit, or at a parenthesis too many. It is said how many symbols are left.
pub data Outcome : Type 0 where
  done : ℕ → List Symbol → Outcome
  stuck : ℕ → Outcome
  deep : ℕ → Outcome

-- a step, and then the rest
abbrev pub goes_on : ℕ → Option (List Item) → ℕ → ℕ → (List Item → Outcome) → Outcome
goes_on most None n left rest = stuck left
goes_on most (Some items) n left rest = if nat_lt most n then deep left else rest items

-- Items are read from symbols, where so many parentheses are open and at most so many may be.
abbrev pub run : ℕ → ℕ → List Item → List Symbol → Outcome
run most n [] ss = done n ss
run most n (i ∷ stack) [] = stuck 0
run most n (i ∷ stack) (s ∷ ss) = goes_on most (after i s) (open_in i n s) (length (s ∷ ss)) (λ items. run most (open_in i n s) (items ++ stack) ss)

-- so many parameters more, the closing parenthesis, and then these
abbrev pub counted : ℕ → List Item → List Item
counted zero items = fixed closing ∷ items
counted (suc n) items = fixed comma ∷ parameter ∷ counted n items

-- an entry of the header with a given keyword and one parameter more than so many
abbrev pub named : List ℕ → ℕ → List Item → List Item
named word n items = fixed (keyword word) ∷ fixed opening ∷ parameter ∷ counted n (fixed semicolon ∷ items)

-- behind the instances' last word
unfoldable pub end_items : List Item
end_items = fixed semicolon ∷ fixed end_iso ∷ fixed semicolon ∷ []

-- the data section, and what is behind it
unfoldable pub data_items : List Item
data_items = fixed data_word ∷ fixed semicolon ∷ instances ∷ end_items

-- the entry of the header that names schemas, further entries, and what is behind the header
unfoldable pub schema_items : List Item
schema_items =
    fixed (keyword (codes "FILE_SCHEMA")) ∷ fixed opening ∷ fixed opening ∷ schema ∷ more_schemas ∷ fixed closing ∷ fixed semicolon ∷ entries ∷ data_items

-- a whole file
unfoldable pub file_items : List Item
file_items =
    fixed iso ∷ fixed semicolon ∷ fixed header ∷ fixed semicolon
    ∷ named (codes "FILE_DESCRIPTION") 1 (named (codes "FILE_NAME") 6 schema_items)
