-- At most one refusal is right, and none where the text is an allowed file.
use Rattle.std.proofs.Common.{◌≡◌, ℕ, ◌+◌, ◌≤◌, ◌<◌, false, List, [], ◌∷◌, ◌++◌, length, map, refl, sym, ap, subst, ◌∙◌, append-nil, length-append, nat_eq, arith}
use Rattle.std.specs.List.{AllByRecursion, IsDistinct}
use Rattle.std.proofs.lemmas.List.{length-map}
use Rattle.p21_lex.specs.declared.token.Token.{Token}
use Rattle.p21_lex.specs.Reading.{IsToken}
use Rattle.p21_parse.specs.Tree.{ExchangeTree}
use Rattle.p21_parse.specs.Symbol.{Symbol, name, opening, semicolon, symbols}
use Rattle.p21_parse.specs.Spell.{spell_file}
use Rattle.p21_parse.specs.Grammar.{IsFile}
use Rattle.p21_parse.specs.Numbers.{numbers_in, is_behind}
use Rattle.p21_parse.specs.Machine.{endsec, end_iso, done, run, file_items}
use Rattle.p21_parse.specs.Begins.{IsSymbol, Begins}
use Rattle.p21_parse.specs.Places.{Refusal, syntax, too_deep, too_many, duplicate, place_of}
use Rattle.p21_parse.specs.Refused.{file_numbers, IsWithin, RefusedAt}
use Rattle.p21_parse.specs.Allowed.{own_number_of, IsAllowed}
use Rattle.p21_parse.proofs.Fronts.{shallow_open, Longest, broken, one_longest}
use Rattle.p21_parse.proofs.Complete.{file_runs}
use Rattle.p21_parse.proofs.Languages.{file_shallow}
use Rattle.p21_parse.proofs.Named.{symbols_real, shallow_front}
use Rattle.p21_parse.proofs.Owned.{numbers_append, file_to_numbers}

apart_front : (x : ℕ) (xs ys : List ℕ) → AllByRecursion (λ y. nat_eq x y ≡ false) (xs ++ ys) → AllByRecursion (λ y. nat_eq x y ≡ false) xs
apart_front x [] ys h = tt
apart_front x (y ∷ xs) ys h = (h.0, apart_front x xs ys h.1)

distinct_front : (xs ys : List ℕ) → IsDistinct nat_eq (xs ++ ys) → IsDistinct nat_eq xs
unfolding IsDistinct
distinct_front [] ys h = tt
distinct_front (x ∷ xs) ys h = (apart_front x xs ys h.0, distinct_front xs ys h.1)

-- A front keeps the limits.
within_front : (a b : List Symbol) → IsWithin (a ++ b) → IsWithin a
within_front a b w =
    let numbers : file_numbers (a ++ b) ≡ file_numbers a ++ numbers_in (is_behind false a) b = numbers_append false a b in
    let long : length (file_numbers (a ++ b)) ≡ length (file_numbers a) + length (numbers_in (is_behind false a) b) = ap length numbers ∙ length-append (file_numbers a) (numbers_in (is_behind false a) b) in
    let few = w.few in
    record {
      shallow = shallow_front false 0 a b w.shallow;
      few = omega arith;
      distinct = distinct_front (file_numbers a) (numbers_in (is_behind false a) b) (subst (IsDistinct nat_eq) numbers w.distinct);
    }

module _ (bytes : List ℕ) (tokens : List Token) where
  -- what a refusal says of the longest front and what follows it
  abbrev Says : Refusal → List Symbol → List Symbol → Type 0
  Says (syntax place) front back = (place ≡ place_of bytes tokens (length back)) × ((s : Symbol) (more : List Symbol) → back ≡ s ∷ more → Begins IsFile (front ++ s ∷ []) → ⊥)
  Says (too_deep place) front back = (more : List Symbol) × (back ≡ opening ∷ more) × (place ≡ place_of bytes tokens (length back)) × Begins IsFile (front ++ opening ∷ [])
  Says (too_many place) front back =
      (n : ℕ) × (more : List Symbol) × (back ≡ name n ∷ more) × (place ≡ place_of bytes tokens (length back)) × Begins IsFile (front ++ name n ∷ []) × (200000 < length (file_numbers (front ++ name n ∷ [])))
  Says (duplicate n) front back = (more : List Symbol) × (back ≡ name n ∷ more) × Begins IsFile (front ++ name n ∷ []) × (length (file_numbers (front ++ name n ∷ [])) ≤ 200000)

  record Told (r : Refusal) : Type 0 where
    front : List Symbol
    back : List Symbol
    longest : Longest IsFile IsWithin (symbols bytes tokens) front back
    says : Says r front back

  module _ (real : AllByRecursion IsSymbol (symbols bytes tokens)) where
    told : (r : Refusal) → RefusedAt bytes tokens r → Told r
    told (syntax place) x =
        let s = x.1 in
        record {
          front = s.front;
          back = s.back;
          longest = record { parts = s.parts; good = (s.begins, s.within); ends = λ u more e good. s.ends u more e good.0 };
          says = (x.3 ∙ ap (place_of bytes tokens) (sym s.count), s.ends);
        }
    told (too_deep place) x =
        let d = x.1 in
        record {
          front = d.front;
          back = opening ∷ d.back;
          longest = broken IsFile IsWithin (symbols bytes tokens) d.front d.back opening real d.parts d.begins d.within (λ w. let le = shallow_open false 0 (d.front ++ opening ∷ []) (omega arith) w.shallow in absurd (omega (arith, d.over)));
          says = (d.back, refl, x.2 ∙ ap (place_of bytes tokens) (sym d.count), d.begins);
        }
    told (too_many place) x =
        let m = x.1 in
        record {
          front = m.front;
          back = name m.number ∷ m.back;
          longest = broken IsFile IsWithin (symbols bytes tokens) m.front m.back (name m.number) real m.parts m.begins m.within (λ w. absurd (omega (arith, m.over, w.few)));
          says = (m.number, m.back, refl, x.2 ∙ ap (place_of bytes tokens) (sym m.count), m.begins, m.over);
        }
    told (duplicate number) t = record {
      front = t.front;
      back = name number ∷ t.back;
      longest = broken IsFile IsWithin (symbols bytes tokens) t.front t.back (name number) real t.parts t.begins t.within (λ w. t.twice w.distinct);
      says = (t.back, refl, t.begins, t.few);
    }

    agree : (r q : Refusal) (front back : List Symbol) → Says r front back → Says q front back → r ≡ q
    agree (syntax p) (syntax q) front back x y = ap syntax (x.0 ∙ sym y.0)
    agree (syntax p) (too_deep q) front back x y = absurd (x.1 opening y.0 y.1 y.3)
    agree (syntax p) (too_many q) front back x y = absurd (x.1 (name y.0) y.1 y.2 y.4)
    agree (syntax p) (duplicate n) front back x y = absurd (x.1 (name n) y.0 y.1 y.2)
    agree (too_deep p) (syntax q) front back x y = absurd (y.1 opening x.0 x.1 x.3)
    agree (too_deep p) (too_deep q) front back x y = ap too_deep (x.2 ∙ sym y.2)
    agree (too_deep p) (too_many q) front back x y = absurd (let both : opening ∷ x.0 ≡ name y.0 ∷ y.1 = sym x.1 ∙ y.2 in cc)
    agree (too_deep p) (duplicate n) front back x y = absurd (let both : opening ∷ x.0 ≡ name n ∷ y.0 = sym x.1 ∙ y.1 in cc)
    agree (too_many p) (syntax q) front back x y = absurd (y.1 (name x.0) x.1 x.2 x.4)
    agree (too_many p) (too_deep q) front back x y = absurd (let both : opening ∷ y.0 ≡ name x.0 ∷ x.1 = sym y.1 ∙ x.2 in cc)
    agree (too_many p) (too_many q) front back x y = ap too_many (x.3 ∙ sym y.3)
    agree (too_many p) (duplicate n) front back x y =
        let both : name x.0 ∷ x.1 ≡ name n ∷ y.0 = sym x.2 ∙ y.1 in
        let same : x.0 ≡ n = cc in
        let over : 200000 < length (file_numbers (front ++ name n ∷ [])) = subst (λ (k : ℕ). 200000 < length (file_numbers (front ++ name k ∷ []))) same x.5 in
        absurd (omega (arith, over, y.3))
    agree (duplicate n) (syntax q) front back x y = absurd (y.1 (name n) x.0 x.1 x.2)
    agree (duplicate n) (too_deep q) front back x y = absurd (let both : opening ∷ y.0 ≡ name n ∷ x.0 = sym y.1 ∙ x.1 in cc)
    agree (duplicate n) (too_many q) front back x y =
        let both : name y.0 ∷ y.1 ≡ name n ∷ x.0 = sym y.2 ∙ x.1 in
        let same : y.0 ≡ n = cc in
        let over : 200000 < length (file_numbers (front ++ name n ∷ [])) = subst (λ (k : ℕ). 200000 < length (file_numbers (front ++ name k ∷ []))) same y.5 in
        absurd (omega (arith, over, x.3))
    agree (duplicate n) (duplicate k) front back x y = let both : name n ∷ x.0 ≡ name k ∷ y.0 = sym x.1 ∙ y.1 in let same : n ≡ k = cc in ap duplicate same

    one_refusal : (r q : Refusal) → RefusedAt bytes tokens r → RefusedAt bytes tokens q → r ≡ q
    one_refusal r q x y =
        let a = told r x in
        let b = told q y in
        let same = one_longest IsFile IsWithin within_front (symbols bytes tokens) a.front a.back b.front b.back real a.longest b.longest in
        agree r q b.front b.back (subst (λ (front : List Symbol). Says r front b.back) same.0 (subst (λ (back : List Symbol). Says r a.front back) same.1 a.says)) b.says

    -- An allowed file is its own longest front.
    allowed_longest : (x : ExchangeTree) → IsAllowed x → symbols bytes tokens ≡ spell_file x → Longest IsFile IsWithin (symbols bytes tokens) (symbols bytes tokens) []
    allowed_longest x a e =
        let end : List Symbol = endsec ∷ semicolon ∷ end_iso ∷ semicolon ∷ [] in
        let numbers : file_numbers (symbols bytes tokens) ≡ map own_number_of x.items = ap file_numbers e ∙ file_to_numbers x.head x.items end ∙ append-nil (map own_number_of x.items) in
        let many : length (file_numbers (symbols bytes tokens)) ≡ length x.items = ap length numbers ∙ length-map x.items own_number_of in
        let few = a.few in
        record {
          parts = sym (append-nil (symbols bytes tokens));
          good = (
            ([], tt, subst IsFile (sym (append-nil (symbols bytes tokens))) (x, a.grammar, e)),
            record {
              shallow = file_shallow (symbols bytes tokens) 0 (subst (λ (ss : List Symbol). run 32 0 file_items ss ≡ done 0 []) (sym e) (file_runs 32 x a.grammar a.shallow));
              few = omega arith;
              distinct = subst (IsDistinct nat_eq) (sym numbers) a.distinct;
            },
          );
          ends = λ s more here good. absurd cc;
        }

    not_refused : (x : ExchangeTree) (r : Refusal) → IsAllowed x → symbols bytes tokens ≡ spell_file x → RefusedAt bytes tokens r → ⊥
    not_refused x r a e y =
        let t = told r y in
        let same = one_longest IsFile IsWithin within_front (symbols bytes tokens) t.front t.back (symbols bytes tokens) [] real t.longest (allowed_longest x a e) in
        by_refusal r t.front y (subst (λ (back : List Symbol). Says r t.front back) same.1 t.says)
      where
        by_refusal : (r : Refusal) (front : List Symbol) → RefusedAt bytes tokens r → Says r front [] → ⊥
        by_refusal (syntax p) front y s = y.2 (x, a.grammar, e)
        by_refusal (too_deep p) front y s = let none = s.1 in absurd cc
        by_refusal (too_many p) front y s = let none = s.2 in absurd cc
        by_refusal (duplicate n) front y s = let none = s.1 in absurd cc

-- At most one refusal is right.
pub single : (bytes : List ℕ) (tokens : List Token) (r q : Refusal) → AllByRecursion (IsToken bytes) tokens → RefusedAt bytes tokens r → RefusedAt bytes tokens q → r ≡ q
single bytes tokens r q real x y = one_refusal bytes tokens (symbols_real bytes tokens real) r q x y

-- None is where the text is an allowed file.
pub none_right : (bytes : List ℕ) (tokens : List Token) (x : ExchangeTree) (r : Refusal) → AllByRecursion (IsToken bytes) tokens → IsAllowed x → symbols bytes tokens ≡ spell_file x → RefusedAt bytes tokens r → ⊥
none_right bytes tokens x r real a e y = not_refused bytes tokens (symbols_real bytes tokens real) x r a e y
