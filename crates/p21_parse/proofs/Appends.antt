-- What follows a tree's symbols may be longer.
use Rattle.std.proofs.Common.{◌≡◌, Bool, true, false, List, [], ◌∷◌, ◌++◌, refl, ap, ◌∙◌}
use Rattle.p21_parse.specs.Tree.{Tree, one, reference, list, typed, Trees, none, first, PartTree, InstanceTree}
use Rattle.p21_parse.specs.Symbol.{Symbol, name, keyword, opening, closing, comma, semicolon, equals}
use Rattle.p21_parse.specs.Spell.{spell, spell_list, spell_more, spell_all, spell_part, spell_parts, spell_instance}

mutual
  pub longer : (t : Tree) (r more : List Symbol) → spell t (r ++ more) ≡ spell t r ++ more
  longer (one kind text) r more = refl
  longer (reference number) r more = refl
  longer (list ts) r more = ap (λ (ss : List Symbol). opening ∷ ss) (longer_list ts r more)
  longer (typed word ts) r more = ap (λ (ss : List Symbol). keyword word ∷ opening ∷ ss) (longer_list ts r more)

  longer_list : (ts : Trees) (r more : List Symbol) → spell_list ts (r ++ more) ≡ spell_list ts r ++ more
  longer_list none r more = refl
  longer_list (first t ts) r more = ap (spell t) (longer_more ts r more) ∙ longer t (spell_more ts r) more

  longer_more : (ts : Trees) (r more : List Symbol) → spell_more ts (r ++ more) ≡ spell_more ts r ++ more
  longer_more none r more = refl
  longer_more (first t ts) r more = ap (λ (ss : List Symbol). comma ∷ ss) (ap (spell t) (longer_more ts r more) ∙ longer t (spell_more ts r) more)

pub longer_part : (p : PartTree) (r more : List Symbol) → spell_part p (r ++ more) ≡ spell_part p r ++ more
longer_part p r more = ap (λ (ss : List Symbol). keyword p.keyword ∷ opening ∷ ss) (longer_list p.parameters r more)

longer_all : {X : Type 0} (each : X → List Symbol → List Symbol) → ((x : X) (r more : List Symbol) → each x (r ++ more) ≡ each x r ++ more) → (xs : List X) (r more : List Symbol) → spell_all each xs (r ++ more) ≡ spell_all each xs r ++ more
longer_all each law [] r more = refl
longer_all each law (x ∷ xs) r more = ap (each x) (longer_all each law xs r more) ∙ law x (spell_all each xs r) more

pub longer_parts : (c : Bool) (ps : List PartTree) (r more : List Symbol) → spell_parts c ps (r ++ more) ≡ spell_parts c ps r ++ more
longer_parts false ps r more = longer_all spell_part longer_part ps r more
longer_parts true ps r more = ap (λ (ss : List Symbol). opening ∷ ss) (longer_all spell_part longer_part ps (closing ∷ r) more)

pub longer_instance : (i : InstanceTree) (r more : List Symbol) → spell_instance i (r ++ more) ≡ spell_instance i r ++ more
longer_instance i r more = ap (λ (ss : List Symbol). name i.number ∷ equals ∷ ss) (longer_parts i.complex i.parts (semicolon ∷ r) more)

pub longer_instances : (items : List InstanceTree) (r more : List Symbol) → spell_all spell_instance items (r ++ more) ≡ spell_all spell_instance items r ++ more
longer_instances items r more = longer_all spell_instance longer_instance items r more
