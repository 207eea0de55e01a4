-- In a file each symbol is a mark, or a mark follows it: so no two spellings run into one another.
use Rattle.std.proofs.Common.{Bool, true, false, List, [], ◌∷◌}
use Rattle.p21_parse.specs.Tree.{Tree, one, reference, list, typed, Trees, none, first, PartTree, InstanceTree, ExchangeTree}
use Rattle.p21_parse.specs.Symbol.{Symbol, opening, closing, comma, semicolon, equals}
use Rattle.p21_parse.specs.Spell.{spell, spell_list, spell_more, spell_part, spell_all, spell_parts, spell_instance, spell_entry, spell_file}

-- a mark stands first
abbrev pub BeginsMark : List Symbol → Type 0
BeginsMark (opening ∷ ss) = Unit {0}
BeginsMark (closing ∷ ss) = Unit {0}
BeginsMark (comma ∷ ss) = Unit {0}
BeginsMark (semicolon ∷ ss) = Unit {0}
BeginsMark (equals ∷ ss) = Unit {0}
BeginsMark _ = ⊥

-- the symbol is a mark, or a mark follows
abbrev pub Ends : Symbol → List Symbol → Type 0
Ends opening rest = Unit {0}
Ends closing rest = Unit {0}
Ends comma rest = Unit {0}
Ends semicolon rest = Unit {0}
Ends equals rest = Unit {0}
Ends _ rest = BeginsMark rest

abbrev pub Parted : List Symbol → Type 0
Parted [] = Unit {0}
Parted (s ∷ ss) = Ends s ss × Parted ss

more_begins : (ts : Trees) (rest : List Symbol) → BeginsMark (spell_more ts rest)
more_begins none rest = tt
more_begins (first t ts) rest = tt

mutual
  parted : (t : Tree) (rest : List Symbol) → BeginsMark rest → Parted rest → Parted (spell t rest)
  parted (one kind text) rest b h = (b, h)
  parted (reference number) rest b h = (b, h)
  parted (list ts) rest b h = (tt, parted_list ts rest h)
  parted (typed word ts) rest b h = (tt, (tt, parted_list ts rest h))

  parted_list : (ts : Trees) (rest : List Symbol) → Parted rest → Parted (spell_list ts rest)
  parted_list none rest h = (tt, h)
  parted_list (first t ts) rest h = parted t (spell_more ts rest) (more_begins ts rest) (parted_more ts rest h)

  parted_more : (ts : Trees) (rest : List Symbol) → Parted rest → Parted (spell_more ts rest)
  parted_more none rest h = (tt, h)
  parted_more (first t ts) rest h = (tt, parted t (spell_more ts rest) (more_begins ts rest) (parted_more ts rest h))

parted_part : (p : PartTree) (rest : List Symbol) → Parted rest → Parted (spell_part p rest)
parted_part p rest h = (tt, (tt, parted_list p.parameters rest h))

parted_all : {X : Type 0} (each : X → List Symbol → List Symbol) → ((x : X) (rest : List Symbol) → Parted rest → Parted (each x rest)) → (xs : List X) (rest : List Symbol) → Parted rest → Parted (spell_all each xs rest)
parted_all each law [] rest h = h
parted_all each law (x ∷ xs) rest h = law x (spell_all each xs rest) (parted_all each law xs rest h)

parted_entry : (p : PartTree) (rest : List Symbol) → Parted rest → Parted (spell_entry p rest)
parted_entry p rest h = parted_part p (semicolon ∷ rest) (tt, h)

parted_parts : (complex : Bool) (ps : List PartTree) (rest : List Symbol) → Parted rest → Parted (spell_parts complex ps rest)
parted_parts false ps rest h = parted_all spell_part parted_part ps rest h
parted_parts true ps rest h = (tt, parted_all spell_part parted_part ps (closing ∷ rest) (tt, h))

parted_instance : (i : InstanceTree) (rest : List Symbol) → Parted rest → Parted (spell_instance i rest)
parted_instance i rest h = (tt, (tt, parted_parts i.complex i.parts (semicolon ∷ rest) (tt, h)))

pub parted_file : (x : ExchangeTree) → Parted (spell_file x)
parted_file x =
    let items = parted_all spell_instance parted_instance x.items _ (tt, (tt, (tt, (tt, tt)))) in
    let head = parted_all spell_entry parted_entry x.head _ (tt, (tt, (tt, (tt, items)))) in
    (tt, (tt, (tt, (tt, head))))
