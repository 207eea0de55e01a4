-- The numbers of the instances in what is spelled.
use Rattle.std.proofs.Common.{◌≡◌, ℕ, Bool, true, false, List, [], ◌∷◌, ◌++◌, map, refl, sym, ap, ◌∙◌}
use Rattle.p21_parse.specs.Tree.{Tree, one, reference, list, typed, Trees, none, first, PartTree, InstanceTree}
use Rattle.p21_parse.specs.Symbol.{Symbol, name, closing, semicolon}
use Rattle.p21_parse.specs.Spell.{spell, spell_list, spell_more, spell_all, spell_part, spell_parts, spell_entry, spell_instance}
use Rattle.p21_parse.specs.Numbers.{own_number, is_semicolon, numbers_in, is_behind}
use Rattle.p21_parse.specs.Allowed.{own_number_of}
use Rattle.p21_parse.specs.Machine.{iso, header, endsec, data_word}

mutual
  tree_numbers : (t : Tree) (rest : List Symbol) → numbers_in false (spell t rest) ≡ numbers_in false rest
  tree_numbers (one kind text) rest = refl
  tree_numbers (reference number) rest = refl
  tree_numbers (list ts) rest = list_numbers ts rest
  tree_numbers (typed word ts) rest = list_numbers ts rest

  list_numbers : (ts : Trees) (rest : List Symbol) → numbers_in false (spell_list ts rest) ≡ numbers_in false rest
  list_numbers none rest = refl
  list_numbers (first t ts) rest = tree_numbers t (spell_more ts rest) ∙ more_numbers ts rest

  more_numbers : (ts : Trees) (rest : List Symbol) → numbers_in false (spell_more ts rest) ≡ numbers_in false rest
  more_numbers none rest = refl
  more_numbers (first t ts) rest = tree_numbers t (spell_more ts rest) ∙ more_numbers ts rest

part_numbers : (p : PartTree) (rest : List Symbol) → numbers_in false (spell_part p rest) ≡ numbers_in false rest
part_numbers p rest = list_numbers p.parameters rest

all_numbers : (ps : List PartTree) (rest : List Symbol) → numbers_in false (spell_all spell_part ps rest) ≡ numbers_in false rest
all_numbers [] rest = refl
all_numbers (p ∷ ps) rest = part_numbers p (spell_all spell_part ps rest) ∙ all_numbers ps rest

pub parts_numbers : (complex : Bool) (ps : List PartTree) (rest : List Symbol) → numbers_in false (spell_parts complex ps rest) ≡ numbers_in false rest
parts_numbers false ps rest = all_numbers ps rest
parts_numbers true ps rest = all_numbers ps (closing ∷ rest)

-- An entry of the header has no number of an instance, an instance has its own.
entries_numbers : (ps : List PartTree) (rest : List Symbol) → numbers_in true (spell_all spell_entry ps rest) ≡ numbers_in true rest
entries_numbers [] rest = refl
entries_numbers (p ∷ ps) rest = list_numbers p.parameters (semicolon ∷ spell_all spell_entry ps rest) ∙ entries_numbers ps rest

pub instances_numbers : (items : List InstanceTree) (rest : List Symbol) → numbers_in true (spell_all spell_instance items rest) ≡ map own_number_of items ++ numbers_in true rest
instances_numbers [] rest = refl
instances_numbers (i ∷ items) rest =
    ap (λ (ns : List ℕ). i.number ∷ ns) (parts_numbers i.complex i.parts (semicolon ∷ spell_all spell_instance items rest) ∙ instances_numbers items rest)

-- a file up to the end of some instances, and then these symbols
abbrev pub spell_to : List PartTree → List InstanceTree → List Symbol → List Symbol
spell_to head items rest =
    iso ∷ semicolon ∷ header ∷ semicolon ∷ spell_all spell_entry head (endsec ∷ semicolon ∷ data_word ∷ semicolon ∷ spell_all spell_instance items rest)

pub file_to_numbers : (head : List PartTree) (items : List InstanceTree) (rest : List Symbol) → numbers_in false (spell_to head items rest) ≡ map own_number_of items ++ numbers_in true rest
file_to_numbers head items rest = entries_numbers head (endsec ∷ semicolon ∷ data_word ∷ semicolon ∷ spell_all spell_instance items rest) ∙ instances_numbers items rest

own_append : (b : Bool) (s : Symbol) (xs ys : List ℕ) → own_number b s (xs ++ ys) ≡ own_number b s xs ++ ys
own_append true (name n) xs ys = refl
own_append true s xs ys = refl
own_append false s xs ys = refl

pub numbers_append : (b : Bool) (ss more : List Symbol) → numbers_in b (ss ++ more) ≡ numbers_in b ss ++ numbers_in (is_behind b ss) more
numbers_append b [] more = refl
numbers_append b (s ∷ ss) more =
    ap (own_number b s) (numbers_append (is_semicolon s) ss more) ∙ own_append b s (numbers_in (is_semicolon s) ss) (numbers_in (is_behind (is_semicolon s) ss) more)

nothing_first : (xs ys : List ℕ) → xs ++ ys ≡ [] → xs ≡ []
nothing_first [] ys e = refl
nothing_first (x ∷ xs) ys e = absurd cc

-- A front of what has no numbers has none.
pub no_numbers : (b : Bool) (ss more : List Symbol) → numbers_in b (ss ++ more) ≡ [] → numbers_in b ss ≡ []
no_numbers b ss more e = nothing_first (numbers_in b ss) (numbers_in (is_behind b ss) more) (sym (numbers_append b ss more) ∙ e)

-- One symbol more: it adds its number where it is a name behind a semicolon.
pub numbers_last : (b : Bool) (ss : List Symbol) (s : Symbol) → numbers_in b (ss ++ s ∷ []) ≡ numbers_in b ss ++ own_number (is_behind b ss) s []
numbers_last b ss s = numbers_append b ss (s ∷ [])

pub behind_last : (b : Bool) (ss : List Symbol) (s : Symbol) → is_behind b (ss ++ s ∷ []) ≡ is_semicolon s
behind_last b [] s = refl
behind_last b (t ∷ ss) s = behind_last (is_semicolon t) ss s
