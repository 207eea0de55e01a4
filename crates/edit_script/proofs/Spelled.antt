-- Edits are given by their symbols, and what follows them may be longer.
use Rattle.std.proofs.Common.{◌≡◌, ℕ, ◌-◌, List, [], ◌∷◌, ◌++◌, length, refl, sym, ap, subst, ◌∙◌, length-append, arith}
use Rattle.std.specs.List.{AllByRecursion}
use Rattle.p21_lex.specs.declared.token.TokenKind.TheVariants.{Int}
use Rattle.p21_parse.specs.Symbol.{Symbol, value, semicolon}
use Rattle.p21_parse.specs.Spell.{spell_all, spell_instance}
use Rattle.p21_parse.specs.Begins.{Begins}
use Rattle.p21_parse.proofs.Appends.{longer_instances}
use Rattle.p21_parse.proofs.Unique.{same_instances}
use Rattle.edit_script.specs.Script.{EditTree, edit_word, at_word, end_word, spell_edit, IsEdit, IsScript, HasFew, AreFew, IsFewScript}

pub longer_edit : (e : EditTree) (r more : List Symbol) → spell_edit e (r ++ more) ≡ spell_edit e r ++ more
longer_edit e r more = ap (λ (ss : List Symbol). edit_word ∷ at_word ∷ value Int e.digits ∷ semicolon ∷ ss) (longer_instances e.items (end_word ∷ semicolon ∷ r) more)

pub longer_edits : (es : List EditTree) (r more : List Symbol) → spell_all spell_edit es (r ++ more) ≡ spell_all spell_edit es r ++ more
longer_edits [] r more = refl
longer_edits (e ∷ es) r more = ap (spell_edit e) (longer_edits es r more) ∙ longer_edit e (spell_all spell_edit es r) more

pub both_edits : (es fs : List EditTree) (r : List Symbol) → spell_all spell_edit (es ++ fs) r ≡ spell_all spell_edit es (spell_all spell_edit fs r)
both_edits [] fs r = refl
both_edits (e ∷ es) fs r = ap (spell_edit e) (both_edits es fs r)

pub same_edit : (x y : EditTree) (r s : List Symbol) → spell_edit x r ≡ spell_edit y s → (x ≡ y) × (r ≡ s)
same_edit x y r s e =
    let digits : x.digits ≡ y.digits = cc in
    let inner : spell_all spell_instance x.items (end_word ∷ semicolon ∷ r) ≡ spell_all spell_instance y.items (end_word ∷ semicolon ∷ s) = cc in
    let h = same_instances x.items y.items (end_word ∷ semicolon ∷ r) (end_word ∷ semicolon ∷ s) tt tt inner in
    (λ i. record { digits = digits i; items = h.0 i }, let ends = h.1 in cc)

pub all_both : {X : Type 0} (P : X → Type 0) (xs ys : List X) → AllByRecursion P xs → AllByRecursion P ys → AllByRecursion P (xs ++ ys)
all_both P [] ys h k = k
all_both P (x ∷ xs) ys h k = (h.0, all_both P xs ys h.1 k)

pub all_back : {X : Type 0} (P : X → Type 0) (xs ys : List X) → AllByRecursion P (xs ++ ys) → AllByRecursion P ys
all_back P [] ys h = h
all_back P (x ∷ xs) ys h = all_back P xs ys h.1

-- What follows these edits are the others.
pub record Peeled (es xs : List EditTree) (r : List Symbol) : Type 0 where
  pub others : List EditTree
  pub is : xs ≡ es ++ others
  pub grammar : AllByRecursion IsEdit others
  pub spells : r ≡ spell_all spell_edit others []

pub peel : (es xs : List EditTree) (r : List Symbol) → AllByRecursion IsEdit xs → spell_all spell_edit es r ≡ spell_all spell_edit xs [] → Peeled es xs r
peel [] xs r ok e = record { others = xs; is = refl; grammar = ok; spells = e }
peel (x ∷ es) [] r ok e = absurd cc
peel (x ∷ es) (y ∷ xs) r ok e =
    let h = same_edit x y (spell_all spell_edit es r) (spell_all spell_edit xs []) e in
    let p = peel es xs r ok.1 h.1 in
    record { others = p.others; is = (let head = h.0 in let tail = p.is in cc); grammar = p.grammar; spells = p.spells }

-- Scripts behind edits, and what edits leave.
module _ (es : List EditTree) (ok : AllByRecursion IsEdit es) where
  abbrev behind : List Symbol → List Symbol
  behind r = spell_all spell_edit es r

  script_behind : (ss : List Symbol) → IsScript ss → IsScript (behind ss)
  script_behind ss w = (es ++ w.0, all_both IsEdit es w.0 ok w.1, ap behind w.2 ∙ sym (both_edits es w.0 []))

  pub script_left : (ss : List Symbol) → IsScript (behind ss) → IsScript ss
  script_left ss w = let p = peel es w.0 ss w.1 w.2 in (p.others, p.grammar, p.spells)

  pub begins_behind : (front : List Symbol) → Begins IsScript front → Begins IsScript (behind front)
  begins_behind front b = (b.0, b.1, subst IsScript (longer_edits es front b.0) (script_behind (front ++ b.0) b.2))

  pub begins_left : (front : List Symbol) → Begins IsScript (behind front) → Begins IsScript front
  begins_left front b = (b.0, b.1, script_left (front ++ b.0) (subst IsScript (sym (longer_edits es front b.0)) b.2))

  module _ (most : ℕ) (few : AreFew most es) where
    few_behind : (ss : List Symbol) → IsFewScript (most - length es) ss → IsFewScript most (behind ss)
    few_behind ss w =
        let less = w.2.edits in
        let enough = few.edits in (
          es ++ w.0,
          all_both IsEdit es w.0 ok w.1,
          record { edits = omega (arith, less, enough, length-append es w.0); items = all_both HasFew es w.0 few.items w.2.items },
          ap behind w.3 ∙ sym (both_edits es w.0 []),
        )

    few_left : (ss : List Symbol) → IsFewScript most (behind ss) → IsFewScript (most - length es) ss
    few_left ss w =
        let p = peel es w.0 ss w.1 w.3 in
        let all : AreFew most (es ++ p.others) = subst (AreFew most) p.is w.2 in
        let many = all.edits in
        (p.others, p.grammar, record { edits = omega (arith, many, length-append es p.others); items = all_back HasFew es p.others all.items }, p.spells)

    pub few_begins_behind : (front : List Symbol) → Begins (IsFewScript (most - length es)) front → Begins (IsFewScript most) (behind front)
    few_begins_behind front b = (b.0, b.1, subst (IsFewScript most) (longer_edits es front b.0) (few_behind (front ++ b.0) b.2))

    pub few_begins_left : (front : List Symbol) → Begins (IsFewScript most) (behind front) → Begins (IsFewScript (most - length es)) front
    few_begins_left front b = (b.0, b.1, few_left (front ++ b.0) (subst (IsFewScript most) (sym (longer_edits es front b.0)) b.2))
