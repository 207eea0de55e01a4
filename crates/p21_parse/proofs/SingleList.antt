-- At most one refusal of instances is right, and none where whole instances within the limits stand before something else.
use Rattle.std.proofs.Common.{◌≡◌, ℕ, ◌+◌, false, true, List, [], ◌∷◌, ◌++◌, length, map, drop, refl, sym, ap, subst, ◌∙◌, append_assoc, append-nil, length-append, arith}
use Rattle.std.specs.List.{AllByRecursion}
use Rattle.std.proofs.lemmas.List.{length-map}
use Rattle.p21_lex.specs.declared.token.Token.{Token}
use Rattle.p21_lex.specs.Reading.{IsToken}
use Rattle.p21_parse.specs.Tree.{InstanceTree}
use Rattle.p21_parse.specs.Symbol.{Symbol, name, opening, symbols}
use Rattle.p21_parse.specs.Spell.{spell_all, spell_instance}
use Rattle.p21_parse.specs.Grammar.{AreInstances}
use Rattle.p21_parse.specs.Numbers.{numbers_in, is_behind}
use Rattle.p21_parse.specs.Machine.{endsec, instances}
use Rattle.p21_parse.specs.Begins.{IsSymbol, Begins}
use Rattle.p21_parse.specs.Places.{Refusal, syntax, too_deep, too_many, duplicate, place_of}
use Rattle.p21_parse.specs.Refused.{list_numbers, IsWithinList, RefusedFrom}
use Rattle.p21_parse.specs.Allowed.{own_number_of, AreAllowed, IsNoName}
use Rattle.p21_parse.proofs.Complete.{instances_run}
use Rattle.p21_parse.proofs.Leaves.{Shallow, read_shallow}
use Rattle.p21_parse.proofs.Languages.{list_calm}
use Rattle.p21_parse.proofs.Named.{symbols_real, shallow_front}
use Rattle.p21_parse.proofs.Owned.{numbers_append, instances_numbers}
use Rattle.p21_parse.proofs.Appends.{longer_instances}
use Rattle.p21_parse.proofs.Unique.{same_instance}
use Rattle.p21_parse.proofs.Fronts.{shallow_open, Longest, broken, one_longest}

-- A front keeps the limits.
within_front : (most : ℕ) (a b : List Symbol) → IsWithinList most (a ++ b) → IsWithinList most a
within_front most a b w =
    let long : length (list_numbers (a ++ b)) ≡ length (list_numbers a) + length (numbers_in (is_behind true a) b) = ap length (numbers_append true a b) ∙ length-append (list_numbers a) (numbers_in (is_behind true a) b) in
    let few = w.few in
    record { shallow = shallow_front false 0 a b w.shallow; few = omega arith }

-- Only a name goes on behind whole instances.
goes_on_by_name : (xs ys : List InstanceTree) (s : Symbol) (more : List Symbol) → spell_all spell_instance xs (s ∷ more) ≡ spell_all spell_instance ys [] → (n : ℕ) × (s ≡ name n)
goes_on_by_name [] [] s more e = absurd cc
goes_on_by_name [] (y ∷ ys) s more e = (y.number, cc)
goes_on_by_name (x ∷ xs) [] s more e = absurd cc
goes_on_by_name (x ∷ xs) (y ∷ ys) s more e = goes_on_by_name xs ys s more (same_instance x y (spell_all spell_instance xs (s ∷ more)) (spell_all spell_instance ys []) e).1

module _ (bytes : List ℕ) (tokens : List Token) (at most : ℕ) where
  abbrev here : List Symbol
  here = symbols bytes (drop at tokens)

  -- what a refusal says of the longest front and what follows it
  abbrev Says : Refusal → List Symbol → List Symbol → Type 0
  Says (syntax place) front back = (place ≡ place_of bytes tokens (length back)) × ((s : Symbol) (more : List Symbol) → back ≡ s ∷ more → Begins AreInstances (front ++ s ∷ []) → ⊥) × (AreInstances front → ⊥)
  Says (too_deep place) front back = (more : List Symbol) × (back ≡ opening ∷ more) × (place ≡ place_of bytes tokens (length back)) × Begins AreInstances (front ++ opening ∷ [])
  Says (too_many place) front back = (n : ℕ) × (more : List Symbol) × (back ≡ name n ∷ more) × (place ≡ place_of bytes tokens (length back)) × Begins AreInstances (front ++ name n ∷ [])
  Says (duplicate n) front back = ⊥

  record Told (r : Refusal) : Type 0 where
    front : List Symbol
    back : List Symbol
    longest : Longest AreInstances (IsWithinList most) here front back
    says : Says r front back

  module _ (real : AllByRecursion IsSymbol here) where
    told : (r : Refusal) → RefusedFrom bytes tokens at most r → Told r
    told (syntax place) x =
        let s = x.1 in
        record {
          front = s.front;
          back = s.back;
          longest = record { parts = s.parts; good = (s.begins, s.within); ends = λ u more e good. s.ends u more e good.0 };
          says = (x.3 ∙ ap (place_of bytes tokens) (sym s.count), s.ends, x.2);
        }
    told (too_deep place) x =
        let d = x.1 in
        record {
          front = d.front;
          back = opening ∷ d.back;
          longest = broken AreInstances (IsWithinList most) here d.front d.back opening real d.parts d.begins d.within (λ w. let le = shallow_open false 0 (d.front ++ opening ∷ []) (omega arith) w.shallow in absurd (omega (arith, d.over)));
          says = (d.back, refl, x.2 ∙ ap (place_of bytes tokens) (sym d.count), d.begins);
        }
    told (too_many place) x =
        let m = x.1 in
        record {
          front = m.front;
          back = name m.number ∷ m.back;
          longest = broken AreInstances (IsWithinList most) here m.front m.back (name m.number) real m.parts m.begins m.within (λ w. absurd (omega (arith, m.over, w.few)));
          says = (m.number, m.back, refl, x.2 ∙ ap (place_of bytes tokens) (sym m.count), m.begins);
        }
    told (duplicate number) x = absurd x

    agree : (r q : Refusal) (front back : List Symbol) → Says r front back → Says q front back → r ≡ q
    agree (syntax p) (syntax q) front back x y = ap syntax (x.0 ∙ sym y.0)
    agree (syntax p) (too_deep q) front back x y = absurd (x.1 opening y.0 y.1 y.3)
    agree (syntax p) (too_many q) front back x y = absurd (x.1 (name y.0) y.1 y.2 y.4)
    agree (too_deep p) (syntax q) front back x y = absurd (y.1 opening x.0 x.1 x.3)
    agree (too_deep p) (too_deep q) front back x y = ap too_deep (x.2 ∙ sym y.2)
    agree (too_deep p) (too_many q) front back x y = absurd (let both : opening ∷ x.0 ≡ name y.0 ∷ y.1 = sym x.1 ∙ y.2 in cc)
    agree (too_many p) (syntax q) front back x y = absurd (y.1 (name x.0) x.1 x.2 x.4)
    agree (too_many p) (too_deep q) front back x y = absurd (let both : opening ∷ y.0 ≡ name x.0 ∷ x.1 = sym y.1 ∙ x.2 in cc)
    agree (too_many p) (too_many q) front back x y = ap too_many (x.3 ∙ sym y.3)
    agree (duplicate n) q front back x y = absurd x
    agree r (duplicate n) front back x y = absurd y

    one_refusal : (r q : Refusal) → RefusedFrom bytes tokens at most r → RefusedFrom bytes tokens at most q → r ≡ q
    one_refusal r q x y =
        let a = told r x in
        let b = told q y in
        let same = one_longest AreInstances (IsWithinList most) (within_front most) here a.front a.back b.front b.back real a.longest b.longest in
        agree r q b.front b.back (subst (λ (front : List Symbol). Says r front b.back) same.0 (subst (λ (back : List Symbol). Says r a.front back) same.1 a.says)) b.says

    module _ (xs : List InstanceTree) (rest : List Symbol) (allowed : AreAllowed most xs) (spelled : here ≡ spell_all spell_instance xs rest) (no_name : IsNoName rest) where
      whole_ends : (s : Symbol) (more : List Symbol) → rest ≡ s ∷ more → Begins AreInstances (spell_all spell_instance xs [] ++ s ∷ []) → ⊥
      whole_ends s more e b =
          let w = b.2 in
          let n = goes_on_by_name xs w.0 s b.0 (longer_instances xs [] (s ∷ b.0) ∙ sym (append_assoc (spell_all spell_instance xs []) (s ∷ []) b.0) ∙ w.2) in
          subst IsNoName (e ∙ ap (λ (s : Symbol). s ∷ more) n.1) no_name

      -- Whole instances are the longest front.
      whole_longest : Longest AreInstances (IsWithinList most) here (spell_all spell_instance xs []) rest
      whole_longest =
          let front : List Symbol = spell_all spell_instance xs [] in
          let few = allowed.few in
          let many : length (list_numbers front) ≡ length xs = ap length (instances_numbers xs [] ∙ append-nil (map own_number_of xs)) ∙ length-map xs own_number_of in
          let ended : Shallow (front ++ endsec ∷ []) = subst Shallow (longer_instances xs [] (endsec ∷ [])) (read_shallow (instances ∷ []) (spell_all spell_instance xs (endsec ∷ [])) 0 list_calm (instances_run 32 xs allowed.grammar allowed.shallow)) in
          record {
            parts = spelled ∙ longer_instances xs [] rest;
            good = (([], tt, (xs, allowed.grammar, append-nil front)), record { shallow = shallow_front false 0 front (endsec ∷ []) ended; few = omega arith });
            ends = λ s more e good. whole_ends s more e good.0;
          }

      not_refused : (r : Refusal) → RefusedFrom bytes tokens at most r → ⊥
      not_refused r y =
          let t = told r y in
          let same = one_longest AreInstances (IsWithinList most) (within_front most) here t.front t.back (spell_all spell_instance xs []) rest real t.longest whole_longest in
          by_refusal r (subst (λ (front : List Symbol). Says r front rest) same.0 (subst (λ (back : List Symbol). Says r t.front back) same.1 t.says))
        where
          by_refusal : (r : Refusal) → Says r (spell_all spell_instance xs []) rest → ⊥
          by_refusal (syntax p) s = s.2 (xs, allowed.grammar, refl)
          by_refusal (too_deep p) s = whole_ends opening s.0 s.1 s.3
          by_refusal (too_many p) s = subst IsNoName s.2 no_name
          by_refusal (duplicate n) s = s

-- At most one refusal of instances is right.
pub single_list : (bytes : List ℕ) (tokens : List Token) (at most : ℕ) (r q : Refusal) → AllByRecursion (IsToken bytes) (drop at tokens) → RefusedFrom bytes tokens at most r → RefusedFrom bytes tokens at most q → r ≡ q
single_list bytes tokens at most r q real x y = one_refusal bytes tokens at most (symbols_real bytes (drop at tokens) real) r q x y

-- None is where whole instances within the limits stand before something else.
pub none_right_list : (bytes : List ℕ) (tokens : List Token) (at most : ℕ) (items : List InstanceTree) (rest : List Symbol) (r : Refusal) → AllByRecursion (IsToken bytes) (drop at tokens)
    → AreAllowed most items → symbols bytes (drop at tokens) ≡ spell_all spell_instance items rest → IsNoName rest → RefusedFrom bytes tokens at most r → ⊥
none_right_list bytes tokens at most items rest r real allowed spelled no_name y = not_refused bytes tokens at most (symbols_real bytes (drop at tokens) real) items rest allowed spelled no_name r y
