-- A parameter that runs to its end is spelled by a tree within the limit.
use Rattle.std.proofs.Common.{◌≡◌, ℕ, zero, suc, ◌+◌, ◌≤◌, ◌<◌, Bool, true, false, cond, nat_lt, List, [], ◌∷◌, ◌++◌, length, refl, sym, ap, subst, ◌∙◌, arith}
use Rattle.std.proofs.lemmas.Slice.Eq.{bytes_eq-Decides}
use Rattle.std.proofs.lemmas.Bool.Decides.{nat_tests}
use Rattle.p21_parse.specs.Tree.{Tree, one, reference, list, typed, Trees, none, first}
use Rattle.p21_parse.specs.Symbol.{Symbol, value, name, keyword, dashed, opening, closing, comma, semicolon, equals}
use Rattle.p21_parse.specs.Spell.{spell, spell_list, spell_more}
use Rattle.p21_parse.specs.Grammar.{IsParameter, AreParameters}
use Rattle.p21_parse.specs.Nesting.{nesting, nestings}
use Rattle.p21_parse.specs.Machine.{Item, fixed, parameter, parameter_list, more_parameters, Outcome, done, deep, same, on, goes_on, open_in, run}

pub not_above : (most n : ℕ) → nat_lt most n ≡ false → n ≤ most
not_above most n h = grind (arith, nat_tests)

pub same-is : (x s : Symbol) → same x s ≡ true → x ≡ s
same-is (keyword v) (keyword w) e = ap keyword ((bytes_eq-Decides v w).0 e)
same-is (dashed v) (dashed w) e = ap dashed ((bytes_eq-Decides v w).0 e)
same-is opening opening e = refl
same-is closing closing e = refl
same-is comma comma e = refl
same-is semicolon semicolon e = refl
same-is equals equals e = refl
same-is x s e = absurd cc

-- what is read first, and the symbols behind it, from which the rest runs on
pub record Found {X : Type 0} (Ok : X → Type 0) (each : X → List Symbol → List Symbol) (height : X → ℕ) (most n : ℕ) (stack : List Item) (ss : List Symbol) (m : ℕ) (tail : List Symbol) : Type 0 where
  pub tree : X
  pub rest : List Symbol
  pub ok : Ok tree
  pub spelled : ss ≡ each tree rest
  pub fits : n + height tree ≤ most
  pub goes : run most n stack rest ≡ done m tail
  pub shorter : length rest < length ss

-- a fixed symbol, and what runs on behind it
pub record Past (x : Symbol) (most n : ℕ) (stack : List Item) (ss : List Symbol) (m : ℕ) (tail : List Symbol) : Type 0 where
  pub rest : List Symbol
  pub is : ss ≡ x ∷ rest
  pub fits : open_in (fixed x) n x ≤ most
  pub goes : run most (open_in (fixed x) n x) stack rest ≡ done m tail

typed_spelled : (word : List ℕ) (t : Tree) (ss a b rest : List Symbol) → ss ≡ opening ∷ a → a ≡ spell t b → b ≡ closing ∷ rest → keyword word ∷ ss ≡ spell (typed word (first t none)) rest
typed_spelled word t ss a b rest e f g = ap (λ (more : List Symbol). keyword word ∷ more) (e ∙ ap (λ (more : List Symbol). opening ∷ more) (f ∙ ap (spell t) g))

module _ (most m : ℕ) (tail : List Symbol) where
  -- a step that was not too deep
  pub stepped : (n left : ℕ) (o : Outcome) → cond (nat_lt most n) (deep left) o ≡ done m tail → (n ≤ most) × (o ≡ done m tail)
  stepped n left o e = by_test (nat_lt most n) refl e
    where
      by_test : (b : Bool) → nat_lt most n ≡ b → cond b (deep left) o ≡ done m tail → (n ≤ most) × (o ≡ done m tail)
      by_test true w e = absurd cc
      by_test false w e = (not_above most n w, e)

  pub fixed_first : (x : Symbol) (n : ℕ) (stack : List Item) (ss : List Symbol) → run most n (fixed x ∷ stack) ss ≡ done m tail → Past x most n stack ss m tail
  fixed_first x n stack [] e = absurd cc
  fixed_first x n stack (s ∷ ss) e = by_test (same x s) refl e
    where
      by_test : (b : Bool) → same x s ≡ b → goes_on most (on b []) (open_in (fixed x) n s) (length (s ∷ ss)) (λ items. run most (open_in (fixed x) n s) (items ++ stack) ss) ≡ done m tail → Past x most n stack (s ∷ ss) m tail
      by_test false w e = absurd cc
      by_test true w e =
          let is : s ≡ x = sym (same-is x s w) in
          let g = stepped (open_in (fixed x) n s) (length (s ∷ ss)) (run most (open_in (fixed x) n s) stack ss) e in
          record {
            rest = ss;
            is = ap (λ (s : Symbol). s ∷ ss) is;
            fits = subst (λ (s : Symbol). open_in (fixed x) n s ≤ most) is g.0;
            goes = subst (λ (s : Symbol). run most (open_in (fixed x) n s) stack ss ≡ done m tail) is g.1;
          }

  abbrev pub Inside : (Trees → List Symbol → List Symbol) → ℕ → List Item → List Symbol → Type 0
  Inside each n stack ss = Found AreParameters each (λ ts. suc (nestings ts)) most n stack ss m tail

  -- a parameter and further ones are a list
  joined : (n : ℕ) (stack : List Item) (ss : List Symbol) (x : Found IsParameter spell nesting most (suc n) (more_parameters ∷ stack) ss m tail) → Inside spell_more n stack x.rest → Inside spell_list n stack ss
  joined n stack ss x y = record {
    tree = first x.tree y.tree;
    rest = y.rest;
    ok = (x.ok, y.ok);
    spelled = x.spelled ∙ ap (spell x.tree) y.spelled;
    fits = omega (arith, x.fits, y.fits);
    goes = y.goes;
    shorter = omega (arith, x.shorter, y.shorter);
  }

  -- so they are behind a comma
  parted : (n : ℕ) (stack : List Item) (ss : List Symbol) (x : Found IsParameter spell nesting most (suc n) (more_parameters ∷ stack) ss m tail) → Inside spell_more n stack x.rest → Inside spell_more n stack (comma ∷ ss)
  parted n stack ss x y = record {
    tree = first x.tree y.tree;
    rest = y.rest;
    ok = (x.ok, y.ok);
    spelled = ap (λ (more : List Symbol). comma ∷ more) (x.spelled ∙ ap (spell x.tree) y.spelled);
    fits = omega (arith, x.fits, y.fits);
    goes = y.goes;
    shorter = omega (arith, x.shorter, y.shorter);
  }

  mutual
    pub splits : (fuel n : ℕ) (stack : List Item) (ss : List Symbol) → length ss + length ss ≤ fuel → run most n (parameter ∷ stack) ss ≡ done m tail → Found IsParameter spell nesting most n stack ss m tail
    splits zero n stack [] h e = absurd cc
    splits zero n stack (s ∷ ss) h e = absurd (omega arith)
    splits (suc fuel) n stack [] h e = absurd cc
    splits (suc fuel) n stack (value kind bytes ∷ ss) h e =
        let g = stepped n (length (value kind bytes ∷ ss)) (run most n stack ss) e in
        record { tree = one kind bytes; rest = ss; ok = tt; spelled = refl; fits = omega arith; goes = g.1; shorter = omega arith }
    splits (suc fuel) n stack (name number ∷ ss) h e =
        let g = stepped n (length (name number ∷ ss)) (run most n stack ss) e in
        record { tree = reference number; rest = ss; ok = tt; spelled = refl; fits = omega arith; goes = g.1; shorter = omega arith }
    splits (suc fuel) n stack (opening ∷ ss) h e =
        let g = stepped (suc n) (length (opening ∷ ss)) (run most (suc n) (parameter_list ∷ stack) ss) e in
        let x = splits_list fuel n stack ss g.0 (omega arith) g.1 in
        record {
          tree = list x.tree;
          rest = x.rest;
          ok = x.ok;
          spelled = ap (λ (more : List Symbol). opening ∷ more) x.spelled;
          fits = x.fits;
          goes = x.goes;
          shorter = omega (arith, x.shorter);
        }
    splits (suc fuel) n stack (keyword word ∷ ss) h e =
        let g = stepped n (length (keyword word ∷ ss)) (run most n (fixed opening ∷ parameter ∷ fixed closing ∷ stack) ss) e in
        let a = fixed_first opening n (parameter ∷ fixed closing ∷ stack) ss g.1 in
        let longer : length ss ≡ suc (length a.rest) = ap length a.is in
        let x = splits fuel (suc n) (fixed closing ∷ stack) a.rest (omega arith) a.goes in
        let b = fixed_first closing (suc n) stack x.rest x.goes in
        let end : length x.rest ≡ suc (length b.rest) = ap length b.is in
        record {
          tree = typed word (first x.tree none);
          rest = b.rest;
          ok = (refl, (x.ok, tt));
          spelled = typed_spelled word x.tree ss a.rest x.rest b.rest a.is x.spelled b.is;
          fits = omega (arith, x.fits);
          goes = b.goes;
          shorter = omega (arith, x.shorter);
        }
    splits (suc fuel) n stack (s ∷ ss) h e = absurd cc

    pub splits_list : (fuel n : ℕ) (stack : List Item) (ss : List Symbol) → suc n ≤ most → suc (length ss + length ss) ≤ fuel → run most (suc n) (parameter_list ∷ stack) ss ≡ done m tail → Inside spell_list n stack ss
    splits_list zero n stack ss o h e = absurd (omega arith)
    splits_list (suc fuel) n stack [] o h e = absurd cc
    splits_list (suc fuel) n stack (closing ∷ ss) o h e =
        let g = stepped n (length (closing ∷ ss)) (run most n stack ss) e in
        record { tree = none; rest = ss; ok = tt; spelled = refl; fits = omega arith; goes = g.1; shorter = omega arith }
    splits_list (suc fuel) n stack (s ∷ ss) o h e =
        let x = splits fuel (suc n) (more_parameters ∷ stack) (s ∷ ss) (omega arith) e in
        joined n stack (s ∷ ss) x (splits_more fuel n stack x.rest (omega (arith, x.fits)) (omega (arith, x.shorter)) x.goes)

    pub splits_more : (fuel n : ℕ) (stack : List Item) (ss : List Symbol) → suc n ≤ most → length ss + length ss ≤ fuel → run most (suc n) (more_parameters ∷ stack) ss ≡ done m tail → Inside spell_more n stack ss
    splits_more zero n stack [] o h e = absurd cc
    splits_more zero n stack (s ∷ ss) o h e = absurd (omega arith)
    splits_more (suc fuel) n stack [] o h e = absurd cc
    splits_more (suc fuel) n stack (closing ∷ ss) o h e =
        let g = stepped n (length (closing ∷ ss)) (run most n stack ss) e in
        record { tree = none; rest = ss; ok = tt; spelled = refl; fits = omega arith; goes = g.1; shorter = omega arith }
    splits_more (suc fuel) n stack (comma ∷ ss) o h e =
        let g = stepped (suc n) (length (comma ∷ ss)) (run most (suc n) (parameter ∷ more_parameters ∷ stack) ss) e in
        let x = splits fuel (suc n) (more_parameters ∷ stack) ss (omega arith) g.1 in
        parted n stack ss x (splits_more fuel n stack x.rest (omega (arith, x.fits)) (omega (arith, x.shorter)) x.goes)
    splits_more (suc fuel) n stack (s ∷ ss) o h e = absurd cc
