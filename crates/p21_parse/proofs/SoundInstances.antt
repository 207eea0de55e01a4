-- Instances that run to their end are spelled by trees within the limit.
use Rattle.std.proofs.Common.{◌≡◌, ℕ, zero, suc, ◌+◌, ◌≤◌, Bool, true, false, List, [], ◌∷◌, ◌++◌, length, codes, refl, sym, ap, ◌∙◌, arith}
use Rattle.std.specs.List.{AllByRecursion}
use Rattle.std.specs.Str.{bytes_eq}
use Rattle.std.proofs.lemmas.Slice.Eq.{bytes_eq-Decides}
use Rattle.p21_parse.specs.Tree.{PartTree}
use Rattle.p21_parse.specs.Symbol.{Symbol, name, keyword, opening, closing, semicolon, equals}
use Rattle.p21_parse.specs.Spell.{spell_list, spell_all, spell_part, spell_parts, spell_instance}
use Rattle.p21_parse.specs.Grammar.{IsPart, HasParts, IsInstance}
use Rattle.p21_parse.specs.Nesting.{greatest, part_nesting, instance_nesting}
use Rattle.p21_parse.specs.Machine.{Item, fixed, parameter_list, part, more_parts, behind_name, body, instances, done, on, goes_on, run, endsec}
use Rattle.p21_parse.proofs.Sound.{Found, stepped, fixed_first, Inside, splits_list}

module _ (most m : ℕ) (tail : List Symbol) where
  -- what stands behind a part's keyword
  pub inner : (stack : List Item) (ss : List Symbol) → run most 0 (fixed opening ∷ parameter_list ∷ stack) ss ≡ done m tail → Inside most m tail (λ ts rest. opening ∷ spell_list ts rest) 0 stack ss
  inner stack ss e =
      let a = fixed_first most m tail opening 0 (parameter_list ∷ stack) ss e in
      let longer : length ss ≡ suc (length a.rest) = ap length a.is in
      let x = splits_list most m tail (suc (length a.rest + length a.rest)) 0 stack a.rest a.fits (omega arith) a.goes in
      record {
        tree = x.tree;
        rest = x.rest;
        ok = x.ok;
        spelled = a.is ∙ ap (λ (more : List Symbol). opening ∷ more) x.spelled;
        fits = x.fits;
        goes = x.goes;
        shorter = omega (arith, x.shorter);
      }

  -- a part, of which the keyword was read
  behind_keyword : (word : List ℕ) (stack : List Item) (ss : List Symbol) → Inside most m tail (λ ts rest. opening ∷ spell_list ts rest) 0 stack ss → Found IsPart spell_part part_nesting most 0 stack (keyword word ∷ ss) m tail
  behind_keyword word stack ss x = record {
    tree = record { keyword = word; parameters = x.tree };
    rest = x.rest;
    ok = x.ok;
    spelled = ap (λ (more : List Symbol). keyword word ∷ more) x.spelled;
    fits = x.fits;
    goes = x.goes;
    shorter = omega (arith, x.shorter);
  }

  part_first : (stack : List Item) (ss : List Symbol) → run most 0 (part ∷ stack) ss ≡ done m tail → Found IsPart spell_part part_nesting most 0 stack ss m tail
  part_first stack [] e = absurd cc
  part_first stack (keyword word ∷ ss) e =
      let g = stepped most m tail 0 (length (keyword word ∷ ss)) (run most 0 (fixed opening ∷ parameter_list ∷ stack) ss) e in
      behind_keyword word stack ss (inner stack ss g.1)
  part_first stack (s ∷ ss) e = absurd cc

  abbrev Parts : List Item → List Symbol → Type 0
  Parts stack ss = Found (AllByRecursion IsPart) (λ ps rest. spell_all spell_part ps (closing ∷ rest)) (greatest part_nesting) most 0 stack ss m tail

  -- a part and further ones
  with_part : (stack : List Item) (ss : List Symbol) (x : Found IsPart spell_part part_nesting most 0 (more_parts ∷ stack) ss m tail) → Parts stack x.rest → Parts stack ss
  with_part stack ss x y = record {
    tree = x.tree ∷ y.tree;
    rest = y.rest;
    ok = (x.ok, y.ok);
    spelled = x.spelled ∙ ap (spell_part x.tree) y.spelled;
    fits = omega (arith, x.fits, y.fits);
    goes = y.goes;
    shorter = omega (arith, x.shorter, y.shorter);
  }

  more_parts_first : (fuel : ℕ) (stack : List Item) (ss : List Symbol) → length ss ≤ fuel → run most 0 (more_parts ∷ stack) ss ≡ done m tail → Parts stack ss
  more_parts_first fuel stack [] h e = absurd cc
  more_parts_first zero stack (s ∷ ss) h e = absurd (omega arith)
  more_parts_first (suc fuel) stack (keyword word ∷ ss) h e =
      let g = stepped most m tail 0 (length (keyword word ∷ ss)) (run most 0 (fixed opening ∷ parameter_list ∷ more_parts ∷ stack) ss) e in
      let x = behind_keyword word (more_parts ∷ stack) ss (inner (more_parts ∷ stack) ss g.1) in
      with_part stack (keyword word ∷ ss) x (more_parts_first fuel stack x.rest (omega (arith, x.shorter)) x.goes)
  more_parts_first (suc fuel) stack (closing ∷ ss) h e =
      let g = stepped most m tail 0 (length (closing ∷ ss)) (run most 0 stack ss) e in
      record { tree = []; rest = ss; ok = tt; spelled = refl; fits = omega arith; goes = g.1; shorter = omega arith }
  more_parts_first (suc fuel) stack (s ∷ ss) h e = absurd cc

  -- whether the body is that of a complex instance, and its parts
  abbrev pub Body : (Bool × List PartTree → List Symbol → List Symbol) → List Item → List Symbol → Type 0
  Body each stack ss = Found (λ b. HasParts b.0 b.1 × AllByRecursion IsPart b.1) each (λ b. greatest part_nesting b.1) most 0 stack ss m tail

  simple_body : (stack : List Item) (ss : List Symbol) → Found IsPart spell_part part_nesting most 0 stack ss m tail → Body (λ b rest. spell_parts b.0 b.1 rest) stack ss
  simple_body stack ss x = record {
    tree = (false, x.tree ∷ []);
    rest = x.rest;
    ok = (refl, (x.ok, tt));
    spelled = x.spelled;
    fits = omega (arith, x.fits);
    goes = x.goes;
    shorter = x.shorter;
  }

  complex_body : (stack : List Item) (ss : List Symbol) (x : Found IsPart spell_part part_nesting most 0 (more_parts ∷ stack) ss m tail) → Parts stack x.rest → Body (λ b rest. spell_parts b.0 b.1 rest) stack (opening ∷ ss)
  complex_body stack ss x y = record {
    tree = (true, x.tree ∷ y.tree);
    rest = y.rest;
    ok = (omega arith, (x.ok, y.ok));
    spelled = ap (λ (more : List Symbol). opening ∷ more) (x.spelled ∙ ap (spell_part x.tree) y.spelled);
    fits = omega (arith, x.fits, y.fits);
    goes = y.goes;
    shorter = omega (arith, x.shorter, y.shorter);
  }

  body_first : (stack : List Item) (ss : List Symbol) → run most 0 (body ∷ stack) ss ≡ done m tail → Body (λ b rest. spell_parts b.0 b.1 rest) stack ss
  body_first stack [] e = absurd cc
  body_first stack (keyword word ∷ ss) e =
      let g = stepped most m tail 0 (length (keyword word ∷ ss)) (run most 0 (fixed opening ∷ parameter_list ∷ stack) ss) e in
      simple_body stack (keyword word ∷ ss) (behind_keyword word stack ss (inner stack ss g.1))
  body_first stack (opening ∷ ss) e =
      let g = stepped most m tail 0 (length (opening ∷ ss)) (run most 0 (part ∷ more_parts ∷ stack) ss) e in
      let x = part_first (more_parts ∷ stack) ss g.1 in
      complex_body stack ss x (more_parts_first (length x.rest) stack x.rest (omega arith) x.goes)
  body_first stack (s ∷ ss) e = absurd cc

  -- what stands behind an instance's name
  pub behind_first : (stack : List Item) (ss : List Symbol) → run most 0 (behind_name ∷ fixed semicolon ∷ stack) ss ≡ done m tail → Body (λ b rest. equals ∷ spell_parts b.0 b.1 (semicolon ∷ rest)) stack ss
  behind_first stack [] e = absurd cc
  behind_first stack (equals ∷ ss) e =
      let g = stepped most m tail 0 (length (equals ∷ ss)) (run most 0 (body ∷ fixed semicolon ∷ stack) ss) e in
      let x = body_first (fixed semicolon ∷ stack) ss g.1 in
      let a = fixed_first most m tail semicolon 0 stack x.rest x.goes in
      let end : length x.rest ≡ suc (length a.rest) = ap length a.is in
      record {
        tree = x.tree;
        rest = a.rest;
        ok = x.ok;
        spelled = ap (λ (more : List Symbol). equals ∷ more) (x.spelled ∙ ap (λ (more : List Symbol). spell_parts x.tree.0 x.tree.1 more) a.is);
        fits = x.fits;
        goes = a.goes;
        shorter = omega (arith, x.shorter);
      }
  behind_first stack (s ∷ ss) e = absurd cc

  abbrev pub Items : List Item → List Symbol → Type 0
  Items stack ss = Found (AllByRecursion IsInstance) (λ xs rest. spell_all spell_instance xs (endsec ∷ rest)) (greatest instance_nesting) most 0 stack ss m tail

  -- an instance and further ones
  with_instance : (number : ℕ) (stack : List Item) (ss : List Symbol) (x : Body (λ b rest. equals ∷ spell_parts b.0 b.1 (semicolon ∷ rest)) (instances ∷ stack) ss) → Items stack x.rest → Items stack (name number ∷ ss)
  with_instance number stack ss x y = record {
    tree = record { number = number; complex = x.tree.0; parts = x.tree.1 } ∷ y.tree;
    rest = y.rest;
    ok = (x.ok, y.ok);
    spelled = ap (λ (more : List Symbol). name number ∷ more) (x.spelled ∙ ap (λ (more : List Symbol). equals ∷ spell_parts x.tree.0 x.tree.1 (semicolon ∷ more)) y.spelled);
    fits = omega (arith, x.fits, y.fits);
    goes = y.goes;
    shorter = omega (arith, x.shorter, y.shorter);
  }

  pub instances_first : (fuel : ℕ) (stack : List Item) (ss : List Symbol) → length ss ≤ fuel → run most 0 (instances ∷ stack) ss ≡ done m tail → Items stack ss
  instances_first fuel stack [] h e = absurd cc
  instances_first zero stack (s ∷ ss) h e = absurd (omega arith)
  instances_first (suc fuel) stack (name number ∷ ss) h e =
      let g = stepped most m tail 0 (length (name number ∷ ss)) (run most 0 (behind_name ∷ fixed semicolon ∷ instances ∷ stack) ss) e in
      let x = behind_first (instances ∷ stack) ss g.1 in
      with_instance number stack ss x (instances_first fuel stack x.rest (omega (arith, x.shorter)) x.goes)
  instances_first (suc fuel) stack (keyword word ∷ ss) h e = by_test (bytes_eq (codes "ENDSEC") word) refl e
    where
      by_test : (b : Bool) → bytes_eq (codes "ENDSEC") word ≡ b → goes_on most (on b []) 0 (length (keyword word ∷ ss)) (λ items. run most 0 (items ++ stack) ss) ≡ done m tail → Items stack (keyword word ∷ ss)
      by_test false w e = absurd cc
      by_test true w e =
          let g = stepped most m tail 0 (length (keyword word ∷ ss)) (run most 0 stack ss) e in
          record { tree = []; rest = ss; ok = tt; spelled = ap (λ (w : List ℕ). keyword w ∷ ss) (sym ((bytes_eq-Decides (codes "ENDSEC") word).0 w)); fits = omega arith; goes = g.1; shorter = omega arith }
  instances_first (suc fuel) stack (s ∷ ss) h e = absurd cc
