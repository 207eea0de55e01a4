-- The grammar of the exchange structure (ISO 10303-21): the symbols of each tree, and then those that follow. One equation is one production.
use Rattle.std.specs.Prelude.{Bool, true, false, List, [], ◌∷◌, codes}
use Rattle.p21_parse.specs.Tree.{Tree, one, reference, list, typed, Trees, none, first, PartTree, InstanceTree, ExchangeTree}
use Rattle.p21_parse.specs.Symbol.{Symbol, value, name, keyword, dashed, opening, closing, comma, semicolon, equals}

abbrev mutual
  -- a parameter
  pub spell : Tree → List Symbol → List Symbol
  spell (one kind text) rest = value kind text ∷ rest
  spell (reference number) rest = name number ∷ rest
  spell (list ts) rest = opening ∷ spell_list ts rest
  spell (typed word ts) rest = keyword word ∷ opening ∷ spell_list ts rest

  -- parameters or nothing, behind an opening parenthesis
  pub spell_list : Trees → List Symbol → List Symbol
  spell_list none rest = closing ∷ rest
  spell_list (first t ts) rest = spell t (spell_more ts rest)

  -- further parameters
  pub spell_more : Trees → List Symbol → List Symbol
  spell_more none rest = closing ∷ rest
  spell_more (first t ts) rest = comma ∷ spell t (spell_more ts rest)

-- a keyword and its parameters
abbrev pub spell_part : PartTree → List Symbol → List Symbol
spell_part p rest = keyword p.keyword ∷ opening ∷ spell_list p.parameters rest

-- things of one sort, one behind the other
abbrev pub spell_all : {X : Type 0} → (X → List Symbol → List Symbol) → List X → List Symbol → List Symbol
spell_all each [] rest = rest
spell_all each (x ∷ xs) rest = each x (spell_all each xs rest)

-- the parts of an instance: those of a complex one stand in parentheses
abbrev pub spell_parts : Bool → List PartTree → List Symbol → List Symbol
spell_parts false ps rest = spell_all spell_part ps rest
spell_parts true ps rest = opening ∷ spell_all spell_part ps (closing ∷ rest)

-- an entity instance
abbrev pub spell_instance : InstanceTree → List Symbol → List Symbol
spell_instance i rest = name i.number ∷ equals ∷ spell_parts i.complex i.parts (semicolon ∷ rest)

-- an entry of the header
abbrev pub spell_entry : PartTree → List Symbol → List Symbol
spell_entry p rest = spell_part p (semicolon ∷ rest)

-- the whole file: the header, the data section, and nothing behind its end
abbrev pub spell_file : ExchangeTree → List Symbol
spell_file x =
    dashed (codes "ISO-10303-21") ∷ semicolon ∷ keyword (codes "HEADER") ∷ semicolon ∷ spell_all spell_entry x.head
    (keyword (codes "ENDSEC") ∷ semicolon ∷ keyword (codes "DATA") ∷ semicolon ∷ spell_all spell_instance x.items
    (keyword (codes "ENDSEC") ∷ semicolon ∷ dashed (codes "END-ISO-10303-21") ∷ semicolon ∷ []))
