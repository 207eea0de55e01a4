-- Symbols are spelled by at most one tree, and no tree's symbols begin another's.
use Rattle.std.proofs.Common.{◌≡◌, Bool, true, false, List, [], ◌∷◌, refl, sym, ap, subst}
use Rattle.p21_parse.specs.Tree.{Tree, one, reference, list, typed, Trees, none, first, PartTree, InstanceTree, ExchangeTree}
use Rattle.p21_parse.specs.Symbol.{Symbol, closing, semicolon}
use Rattle.p21_parse.specs.Spell.{spell, spell_list, spell_more, spell_all, spell_part, spell_parts, spell_entry, spell_instance, spell_file}
use Rattle.p21_parse.specs.Machine.{endsec, data_word, end_iso}
use Rattle.p21_parse.specs.Allowed.{IsNoName}

not_closing : (t : Tree) (r s : List Symbol) → closing ∷ s ≡ spell t r → ⊥
not_closing (one kind text) r s e = absurd cc
not_closing (reference number) r s e = absurd cc
not_closing (list ts) r s e = absurd cc
not_closing (typed word ts) r s e = absurd cc

mutual
  pub same_tree : (t u : Tree) (r s : List Symbol) → spell t r ≡ spell u s → (t ≡ u) × (r ≡ s)
  same_tree (one k x) (one l y) r s e = (cc, cc)
  same_tree (reference n) (reference m) r s e = (cc, cc)
  same_tree (list ts) (list us) r s e = let inner : spell_list ts r ≡ spell_list us s = cc in let h = same_list ts us r s inner in (ap list h.0, h.1)
  same_tree (typed v ts) (typed w us) r s e =
      let inner : spell_list ts r ≡ spell_list us s = cc in
      let word : v ≡ w = cc in
      let h = same_list ts us r s inner in
      (let trees = h.0 in cc, h.1)
  same_tree t u r s e = absurd cc

  pub same_list : (ts us : Trees) (r s : List Symbol) → spell_list ts r ≡ spell_list us s → (ts ≡ us) × (r ≡ s)
  same_list none none r s e = (refl, cc)
  same_list none (first u us) r s e = absurd (not_closing u (spell_more us s) r e)
  same_list (first t ts) none r s e = absurd (not_closing t (spell_more ts r) s (sym e))
  same_list (first t ts) (first u us) r s e =
      let h = same_tree t u (spell_more ts r) (spell_more us s) e in
      let k = same_more ts us r s h.1 in
      (let head = h.0 in let tail = k.0 in cc, k.1)

  pub same_more : (ts us : Trees) (r s : List Symbol) → spell_more ts r ≡ spell_more us s → (ts ≡ us) × (r ≡ s)
  same_more none none r s e = (refl, cc)
  same_more (first t ts) (first u us) r s e =
      let inner : spell t (spell_more ts r) ≡ spell u (spell_more us s) = cc in
      let h = same_tree t u (spell_more ts r) (spell_more us s) inner in
      let k = same_more ts us r s h.1 in
      (let head = h.0 in let tail = k.0 in cc, k.1)
  same_more ts us r s e = absurd cc

pub same_part : (p q : PartTree) (r s : List Symbol) → spell_part p r ≡ spell_part q s → (p ≡ q) × (r ≡ s)
same_part p q r s e =
    let word : p.keyword ≡ q.keyword = cc in
    let inner : spell_list p.parameters r ≡ spell_list q.parameters s = cc in
    let h = same_list p.parameters q.parameters r s inner in
    (let trees = h.0 in λ i. record { keyword = word i; parameters = h.0 i }, h.1)

-- things of one sort up to an end that none of them begins with
module _ {X : Type 0} (each : X → List Symbol → List Symbol) (same : (x y : X) (r s : List Symbol) → each x r ≡ each y s → (x ≡ y) × (r ≡ s)) where
  pub same_all : (xs ys : List X) (r s : List Symbol) → ((x : X) (more : List Symbol) → r ≡ each x more → ⊥) → ((x : X) (more : List Symbol) → s ≡ each x more → ⊥)
      → spell_all each xs r ≡ spell_all each ys s → (xs ≡ ys) × (r ≡ s)
  same_all [] [] r s nr ns e = (refl, e)
  same_all [] (y ∷ ys) r s nr ns e = absurd (nr y (spell_all each ys s) e)
  same_all (x ∷ xs) [] r s nr ns e = absurd (ns x (spell_all each xs r) (sym e))
  same_all (x ∷ xs) (y ∷ ys) r s nr ns e =
      let h = same x y (spell_all each xs r) (spell_all each ys s) e in
      let k = same_all xs ys r s nr ns h.1 in
      (let head = h.0 in let tail = k.0 in cc, k.1)

pub same_parts : (c d : Bool) (ps qs : List PartTree) (r s : List Symbol) → spell_parts c ps (semicolon ∷ r) ≡ spell_parts d qs (semicolon ∷ s) → (c ≡ d) × (ps ≡ qs) × (r ≡ s)
same_parts false false ps qs r s e =
    let h = same_all spell_part same_part ps qs (semicolon ∷ r) (semicolon ∷ s) (λ x more e. absurd cc) (λ x more e. absurd cc) e in
    (refl, h.0, let ends = h.1 in cc)
same_parts true true ps qs r s e =
    let inner : spell_all spell_part ps (closing ∷ semicolon ∷ r) ≡ spell_all spell_part qs (closing ∷ semicolon ∷ s) = cc in
    let h = same_all spell_part same_part ps qs (closing ∷ semicolon ∷ r) (closing ∷ semicolon ∷ s) (λ x more e. absurd cc) (λ x more e. absurd cc) inner in
    (refl, h.0, let ends = h.1 in cc)
same_parts false true [] qs r s e = absurd cc
same_parts false true (p ∷ ps) qs r s e = absurd cc
same_parts true false ps [] r s e = absurd cc
same_parts true false ps (q ∷ qs) r s e = absurd cc

pub same_instance : (i j : InstanceTree) (r s : List Symbol) → spell_instance i r ≡ spell_instance j s → (i ≡ j) × (r ≡ s)
same_instance i j r s e =
    let number : i.number ≡ j.number = cc in
    let inner : spell_parts i.complex i.parts (semicolon ∷ r) ≡ spell_parts j.complex j.parts (semicolon ∷ s) = cc in
    let h = same_parts i.complex j.complex i.parts j.parts r s inner in
    (λ k. record { number = number k; complex = h.0 k; parts = h.1 k }, h.2)

-- Instances up to what is no name are the same.
pub same_instances : (xs ys : List InstanceTree) (r s : List Symbol) → IsNoName r → IsNoName s → spell_all spell_instance xs r ≡ spell_all spell_instance ys s → (xs ≡ ys) × (r ≡ s)
same_instances xs ys r s nr ns e =
    same_all spell_instance same_instance xs ys r s (λ i more h. subst IsNoName h nr) (λ i more h. subst IsNoName h ns) e

same_entry : (p q : PartTree) (r s : List Symbol) → spell_entry p r ≡ spell_entry q s → (p ≡ q) × (r ≡ s)
same_entry p q r s e = let h = same_part p q (semicolon ∷ r) (semicolon ∷ s) e in (h.0, let ends = h.1 in cc)

-- A text spells at most one exchange.
pub same_file : (x y : ExchangeTree) → spell_file x ≡ spell_file y → x ≡ y
same_file x y e =
    let end : List Symbol = endsec ∷ semicolon ∷ end_iso ∷ semicolon ∷ [] in
    let data_of : ExchangeTree → List Symbol = λ x. data_word ∷ semicolon ∷ spell_all spell_instance x.items end in
    let inner : spell_all spell_entry x.head (endsec ∷ semicolon ∷ data_of x) ≡ spell_all spell_entry y.head (endsec ∷ semicolon ∷ data_of y) = cc in
    let h = same_all spell_entry same_entry x.head y.head (endsec ∷ semicolon ∷ data_of x) (endsec ∷ semicolon ∷ data_of y) (λ p more e. absurd cc) (λ p more e. absurd cc) inner in
    let items : spell_all spell_instance x.items end ≡ spell_all spell_instance y.items end = let ends = h.1 in cc in
    let k = same_all spell_instance same_instance x.items y.items end end (λ p more e. absurd cc) (λ p more e. absurd cc) items in
    λ i. record { head = h.0 i; items = k.0 i }
