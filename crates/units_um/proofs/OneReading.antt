-- A text is read as the one number that it spells.
use Rattle.std.proofs.Common.{◌≡◌, ℕ, ◌<◌, eqb, ltb, ◌&&◌, List, [], ◌∷◌, ◌++◌, length, Option, Some, None, refl, sym, ap, subst, ◌∙◌, arith}
use Rattle.std.specs.Option.{option_and_then}
use Rattle.std.proofs.lemmas.Bool.{eqb-true, ltb-true, lt-ltb}
use Rattle.std.proofs.lemmas.List.{append-nil, nil_from_length}
use Rattle.units_um.specs.declared.number.Sign.{Sign}
use Rattle.units_um.specs.Number.{Exponent, Fraction, Number, AreDigits, IsExponent, IsFraction, sign_text, exponent_text, fraction_text, spelling, Spells}
use Rattle.units_um.specs.Reading.{sign_at, digits_at, exponent_of, fraction_of, number_of, reading}
use Rattle.units_um.proofs.Digits.{digit_in}
use Rattle.units_um.proofs.Parts.{both_pass, guard_some, bind_some, sign_again, sign_takes, digits_again, digits_take}

abbrev some : {A : Type 0} → A → Option A
some x = Some x

some_is : {A : Type 0} (x y : A) → some x ≡ some y → x ≡ y
some_is x y e = cc

-- a sign before digits
sign_before : (s : Sign) (ds rest : List ℕ) → AreDigits ds → 0 < length ds → sign_at (sign_text s ++ (ds ++ rest)) ≡ (s, ds ++ rest)
sign_before s [] rest all some = absurd (omega arith)
sign_before s (d ∷ ds) rest all some = sign_again s d (ds ++ rest) (digit_in (d ∷ ds) 0 all (omega arith))

-- ---- exponents

exponent_again : (e : Exponent) → AreDigits e.digits → 0 < length e.digits → exponent_of (sign_text e.sign ++ e.digits) ≡ Some e
unfolding exponent_of
exponent_again e all some =
    let whole = append-nil e.digits in
    let sign : sign_at (sign_text e.sign ++ e.digits) ≡ (e.sign, e.digits) = rw whole at (sign_before e.sign e.digits [] all some) in
    let digits : digits_at e.digits ≡ (e.digits, []) = rw whole at (digits_again e.digits [] all refl) in
    rw (sign, digits, lt-ltb 0 (length e.digits) some) refl

exponent_takes : (bs : List ℕ) (e : Exponent) → exponent_of bs ≡ Some e → IsExponent (Some e) × (bs ≡ sign_text e.sign ++ e.digits)
unfolding exponent_of
exponent_takes bs e is =
    let s = sign_at bs in
    let d = digits_at s.1 in
    let made : Exponent = record { sign = s.0; digits = d.0 } in
    let g = guard_some (ltb 0 (length d.0) && eqb (length d.1) 0) (Some made) e is in
    let tests = both_pass (ltb 0 (length d.0)) (eqb (length d.1) 0) g.0 in
    let taken = digits_take s.1 in
    let nothing : d.1 ≡ [] = nil_from_length d.1 (eqb-true _ _ tests.1) in
    let all : d.0 ≡ s.1 = sym (append-nil d.0) ∙ ap (λ (x : List ℕ). d.0 ++ x) (sym nothing) ∙ taken.1 in
    let bytes : bs ≡ sign_text s.0 ++ d.0 = sym (sign_takes bs) ∙ ap (λ (x : List ℕ). sign_text s.0 ++ x) (sym all) in
    subst (λ (x : Exponent). IsExponent (Some x) × (bs ≡ sign_text x.sign ++ x.digits)) (some_is made e g.1) ((taken.0, ltb-true _ _ tests.0), bytes)

-- ---- what stands behind the digits that follow a point

fraction_again : (ds : List ℕ) (e : Option Exponent) → IsExponent e → fraction_of ds (exponent_text e) ≡ Some (record { digits = ds; exponent = e })
unfolding fraction_of
fraction_again ds None is = refl
fraction_again ds (Some e) is = rw (exponent_again e is.0 is.1) refl

fraction_takes : (ds bs : List ℕ) (f : Fraction) → fraction_of ds bs ≡ Some f → (f.digits ≡ ds) × IsExponent f.exponent × (bs ≡ exponent_text f.exponent)
unfolding fraction_of
fraction_takes ds [] f is =
    let made : Fraction = record { digits = ds; exponent = None } in
    subst (λ (x : Fraction). (x.digits ≡ ds) × IsExponent x.exponent × ([] ≡ exponent_text x.exponent)) (some_is made f is) (refl, tt, refl)
fraction_takes ds (b ∷ bs) f is =
    let with = λ (e : Exponent). some (record { digits = ds; exponent = Some e }) in
    let g = guard_some (eqb b 69) (option_and_then with (exponent_of bs)) f is in
    let s = bind_some (exponent_of bs) with f g.1 in
    let taken = exponent_takes bs s.0 s.1 in
    let made : Fraction = record { digits = ds; exponent = Some s.0 } in
    let bytes : (b ∷ bs) ≡ exponent_text (Some s.0) = ap (λ (x : ℕ). x ∷ bs) (eqb-true b 69 g.0) ∙ ap (λ (x : List ℕ). 69 ∷ x) taken.1 in
    subst (λ (x : Fraction). (x.digits ≡ ds) × IsExponent x.exponent × ((b ∷ bs) ≡ exponent_text x.exponent)) (some_is made f s.2) (refl, taken.0, bytes)

-- ---- what stands behind the first digits

no_digit : (e : Option Exponent) (ds : List ℕ) → AreDigits ds → digits_at (ds ++ exponent_text e) ≡ (ds, exponent_text e)
no_digit None ds all = digits_again ds [] all refl
no_digit (Some e) ds all = digits_again ds (exponent_text (Some e)) all refl

number_again : (s : Sign) (w : List ℕ) (f : Option Fraction) → IsFraction f → number_of s w (fraction_text f) ≡ Some (record { sign = s; whole = w; fraction = f })
unfolding number_of
number_again s w None is = refl
number_again s w (Some f) is = rw (no_digit f.exponent f.digits is.0, fraction_again f.digits f.exponent is.1) refl

number_takes : (s : Sign) (w bs : List ℕ) (n : Number) → number_of s w bs ≡ Some n → (n.sign ≡ s) × (n.whole ≡ w) × IsFraction n.fraction × (bs ≡ fraction_text n.fraction)
unfolding number_of
number_takes s w [] n is =
    let made : Number = record { sign = s; whole = w; fraction = None } in
    subst (λ (x : Number). (x.sign ≡ s) × (x.whole ≡ w) × IsFraction x.fraction × ([] ≡ fraction_text x.fraction)) (some_is made n is) (refl, refl, tt, refl)
number_takes s w (b ∷ bs) n is =
    let d = digits_at bs in
    let with = λ (f : Fraction). some (record { sign = s; whole = w; fraction = Some f }) in
    let g = guard_some (eqb b 46) (option_and_then with (fraction_of d.0 d.1)) n is in
    let t = bind_some (fraction_of d.0 d.1) with n g.1 in
    let f = t.0 in
    let taken = fraction_takes d.0 d.1 f t.1 in
    let front = digits_take bs in
    let made : Number = record { sign = s; whole = w; fraction = Some f } in
    let form : AreDigits f.digits = subst AreDigits (sym taken.0) front.0 in
    let rest : bs ≡ f.digits ++ exponent_text f.exponent = rw (taken.0, ← taken.2) (sym front.1) in
    let bytes : (b ∷ bs) ≡ fraction_text (Some f) = ap (λ (x : ℕ). x ∷ bs) (eqb-true b 46 g.0) ∙ ap (λ (x : List ℕ). 46 ∷ x) rest in
    subst (λ (x : Number). (x.sign ≡ s) × (x.whole ≡ w) × IsFraction x.fraction × ((b ∷ bs) ≡ fraction_text x.fraction)) (some_is made n t.2) (refl, refl, (form, taken.1), bytes)

-- ---- whole texts

fraction_starts : (f : Option Fraction) (ds : List ℕ) → AreDigits ds → digits_at (ds ++ fraction_text f) ≡ (ds, fraction_text f)
fraction_starts None ds all = digits_again ds [] all refl
fraction_starts (Some f) ds all = digits_again ds (fraction_text (Some f)) all refl

-- what spells a number is read as that number
pub read_again : (text : List ℕ) (n : Number) → Spells text n → reading text ≡ Some n
unfolding reading
read_again text n spells =
    let form = spells.form in
    rw (spells.bytes, sign_before n.sign n.whole (fraction_text n.fraction) form.0 form.1, fraction_starts n.fraction n.whole form.0, lt-ltb 0 (length n.whole) form.1)
    (number_again n.sign n.whole n.fraction form.2)

-- what is read is spelled so
pub read_takes : (text : List ℕ) (n : Number) → reading text ≡ Some n → Spells text n
unfolding reading
read_takes text n is =
    let s = sign_at text in
    let d = digits_at s.1 in
    let g = guard_some (ltb 0 (length d.0)) (number_of s.0 d.0 d.1) n is in
    let taken = number_takes s.0 d.0 d.1 n g.1 in
    let front = digits_take s.1 in
    let whole : AreDigits n.whole = subst AreDigits (sym taken.1) front.0 in
    let long : 0 < length n.whole = rw taken.1 (ltb-true _ _ g.0) in
    let bytes : text ≡ spelling n = rw (taken.0, taken.1, ← taken.3) (rw front.1 (sym (sign_takes text))) in
    record { form = (whole, long, taken.2); bytes = bytes }

-- a text is not two numbers
pub same_number : (text : List ℕ) (m n : Number) → Spells text m → Spells text n → m ≡ n
same_number text m n first second = some_is m n (sym (read_again text m first) ∙ read_again text n second)
