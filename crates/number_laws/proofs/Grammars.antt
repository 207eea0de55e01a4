-- A token of a number and a number that is read are the same text.
use Rattle.std.proofs.Common.{◌≡◌, ℕ, ◌<◌, ◌≤◌, Bool, true, false, ◌&&◌, ◌||◌, eqb, List, [], ◌∷◌, ◌++◌, length, Option, Some, None, Err, ◌↔◌, refl, sym, ap, subst, ◌∙◌, ◌⊎◌, inl, inr, append_assoc, length-append, arith}
use Rattle.std.specs.List.{filter, count_by}
use Rattle.std.specs.Str.{all_ascii_digits}
use Rattle.std.specs.Char.{is_ascii_digit}
use Rattle.std.proofs.lemmas.Bool.{eqb-true, and_parts}
use Rattle.std.proofs.lemmas.List.{append-nil}
use Rattle.std.proofs.lemmas.List.Elements.{filter-append}
use Rattle.std.proofs.lemmas.List.Sums.{length-filter}
use Rattle.p21_lex.specs.Class.{is_digit, Each}
use Rattle.p21_lex.specs.Reading.{IsDigits, IsInt, IsReal, IsExponent, Spells}
use Rattle.p21_lex.specs.declared.token.TokenKind.TheVariants as kinds
use Rattle.units_um.specs.declared.number.Sign.{Sign}
use Rattle.units_um.specs.declared.number.Sign.TheVariants.{Unsigned, Plus, Minus}
use Rattle.units_um.specs.declared.fault.UnitErr.TheVariants.{NotNumber}
use Rattle.units_um.specs.Number.{Number, Fraction, Exponent, AreDigits, IsExponent as IsExponentOf, sign_text, exponent_text, Spells as SpellsNumber}
use Rattle.units_um.specs.Thousandths.{IsShort, digits_behind, exponent_in, exponent_digits, digit_count, thousandths_of}
use Rattle.units_um.proofs.Answering.{not_number_where}

-- ---- digits

both : (a b : Bool) → a ≡ true → b ≡ true → (a && b) ≡ true
both true true p q = refl
both true false p q = q
both false b p q = p

pub digits_each : (ds : List ℕ) → AreDigits ds → Each is_digit ds
digits_each [] h = tt
digits_each (d ∷ ds) h = let p = and_parts (is_ascii_digit d) (all_ascii_digits ds) h in (p.0, digits_each ds p.1)

each_digits : (ds : List ℕ) → Each is_digit ds → AreDigits ds
each_digits [] h = refl
each_digits (d ∷ ds) h = both (is_ascii_digit d) (all_ascii_digits ds) h.0 (each_digits ds h.1)

digits_filled : (ds : List ℕ) → IsDigits ds → Each is_digit ds × (0 < length ds)
digits_filled [] h = absurd h
digits_filled (d ∷ ds) h = (h, omega arith)

-- ---- a sign and digits

record SignedDigits (text : List ℕ) : Type 0 where
  sign : Sign
  digits : List ℕ
  parts : text ≡ sign_text sign ++ digits
  are : AreDigits digits
  some : 0 < length digits

sign_cases : (p m : Bool) → (p || m) ≡ true → (p ≡ true) ⊎ (m ≡ true)
sign_cases true m h = inl refl
sign_cases false m h = inr h

signed_read : (text : List ℕ) → IsInt text → SignedDigits text
signed_read [] h = absurd h
signed_read (b ∷ bs) (inl h) = record { sign = Unsigned; digits = b ∷ bs; parts = refl; are = each_digits (b ∷ bs) h; some = omega arith }
signed_read (b ∷ bs) (inr h) = by (sign_cases (eqb b 43) (eqb b 45) h.0) (digits_filled bs h.1)
  where
    by : (eqb b 43 ≡ true) ⊎ (eqb b 45 ≡ true) → Each is_digit bs × (0 < length bs) → SignedDigits (b ∷ bs)
    by (inl plus) f = record { sign = Plus; digits = bs; parts = ap (λ (x : ℕ). x ∷ bs) (eqb-true b 43 plus); are = each_digits bs f.0; some = f.1 }
    by (inr minus) f = record { sign = Minus; digits = bs; parts = ap (λ (x : ℕ). x ∷ bs) (eqb-true b 45 minus); are = each_digits bs f.0; some = f.1 }

signed_int : (s : Sign) (ds : List ℕ) → AreDigits ds → 0 < length ds → IsInt (sign_text s ++ ds)
signed_int s [] are some = absurd (omega arith)
signed_int Unsigned (d ∷ ds) are some = inl (digits_each (d ∷ ds) are)
signed_int Plus (d ∷ ds) are some = inr (refl, digits_each (d ∷ ds) are)
signed_int Minus (d ∷ ds) are some = inr (refl, digits_each (d ∷ ds) are)

-- ---- an exponent

exponent_read : (text : List ℕ) → IsExponent text → (e : Option Exponent) × IsExponentOf e × (text ≡ exponent_text e)
exponent_read [] h = (None, tt, refl)
exponent_read (b ∷ bs) h =
    let s = signed_read bs h.1 in
    (Some (record { sign = s.sign; digits = s.digits }), (s.are, s.some), ap (λ (x : ℕ). x ∷ bs) h.0 ∙ ap (λ (xs : List ℕ). 69 ∷ xs) s.parts)

exponent_is : (e : Option Exponent) → IsExponentOf e → IsExponent (exponent_text e)
exponent_is None h = tt
exponent_is (Some e) h = (refl, signed_int e.sign e.digits h.0 h.1)

-- ---- the digits of a text are those of its number

filter_digits : (ds : List ℕ) → Each is_digit ds → filter is_digit ds ≡ ds
filter_digits [] h = refl
filter_digits (d ∷ ds) h = rw h.0 (ap (λ (xs : List ℕ). d ∷ xs) (filter_digits ds h.1))

filter_sign : (s : Sign) (rest : List ℕ) → filter is_digit (sign_text s ++ rest) ≡ filter is_digit rest
filter_sign Unsigned rest = refl
filter_sign Plus rest = refl
filter_sign Minus rest = refl

filter_front : (ds rest : List ℕ) → AreDigits ds → filter is_digit (ds ++ rest) ≡ ds ++ filter is_digit rest
filter_front ds rest are = filter-append is_digit ds rest ∙ ap (λ (xs : List ℕ). xs ++ filter is_digit rest) (filter_digits ds (digits_each ds are))

filter_exponent : (e : Option Exponent) → IsExponentOf e → filter is_digit (exponent_text e) ≡ exponent_digits e
filter_exponent None h = refl
filter_exponent (Some e) h = filter_sign e.sign e.digits ∙ filter_digits e.digits (digits_each e.digits h.0)

filter_number : (n : Number) (text : List ℕ) → (f : Option Fraction) → n.fraction ≡ f → SpellsNumber text n → filter is_digit text ≡ n.whole ++ (digits_behind f ++ exponent_digits (exponent_in f))
filter_number n text None is h =
    let bytes : text ≡ sign_text n.sign ++ (n.whole ++ []) = rw is at h.bytes in
    ap (filter is_digit) bytes ∙ filter_sign n.sign (n.whole ++ []) ∙ filter_front n.whole [] h.form.0
filter_number n text (Some f) is h =
    let form = rw is at h.form.2 in
    let bytes : text ≡ sign_text n.sign ++ (n.whole ++ 46 ∷ (f.digits ++ exponent_text f.exponent)) = rw is at h.bytes in
    ap (filter is_digit) bytes ∙ filter_sign n.sign (n.whole ++ 46 ∷ (f.digits ++ exponent_text f.exponent)) ∙ filter_front n.whole (46 ∷ (f.digits ++ exponent_text f.exponent)) h.form.0
    ∙ ap (λ (xs : List ℕ). n.whole ++ xs) (filter_front f.digits (exponent_text f.exponent) form.0 ∙ ap (λ (xs : List ℕ). f.digits ++ xs) (filter_exponent f.exponent form.1))

pub same_digits : (text : List ℕ) (n : Number) → SpellsNumber text n → filter is_digit text ≡ n.whole ++ (digits_behind n.fraction ++ exponent_digits (exponent_in n.fraction))
same_digits text n h = filter_number n text n.fraction refl h

pub same_count : (text : List ℕ) (n : Number) → SpellsNumber text n → count_by is_digit text ≡ digit_count n
same_count text n h =
    let behind = digits_behind n.fraction in
    let last = exponent_digits (exponent_in n.fraction) in
    omega (arith, length-filter is_digit text, ap length (same_digits text n h), length-append n.whole (behind ++ last), length-append behind last)

-- ---- a token is a number

short : (text : List ℕ) (n : Number) → SpellsNumber text n → count_by is_digit text ≤ 38 → IsShort text n
short text n h few = record { spells = h; digits = omega (arith, few, same_count text n h) }

int_number : (text : List ℕ) → Spells kinds.Int text → (n : Number) × IsShort text n × (n.fraction ≡ None)
int_number text h =
    let s = signed_read text h.0 in
    let n : Number = record { sign = s.sign; whole = s.digits; fraction = None } in
    let bytes : text ≡ sign_text s.sign ++ (s.digits ++ []) = s.parts ∙ ap (λ (xs : List ℕ). sign_text s.sign ++ xs) (sym (append-nil s.digits)) in
    (n, short text n (record { form = (s.are, s.some, tt); bytes = bytes }) h.1, refl)

real_number : (text : List ℕ) → Spells kinds.Real text → (n : Number) × (f : Fraction) × IsShort text n × (n.fraction ≡ Some f)
real_number text h =
    let r = h.0 in
    let s = signed_read r.whole r.is_whole in
    let e = exponent_read r.exponent r.is_exponent in
    let f : Fraction = record { digits = r.fraction; exponent = e.0 } in
    let n : Number = record { sign = s.sign; whole = s.digits; fraction = Some f } in
    let bytes : text ≡ sign_text s.sign ++ (s.digits ++ 46 ∷ (r.fraction ++ exponent_text e.0)) =
    r.parts ∙ ap (λ (xs : List ℕ). xs ++ 46 ∷ (r.fraction ++ r.exponent)) s.parts ∙ append_assoc (sign_text s.sign) s.digits (46 ∷ (r.fraction ++ r.exponent))
    ∙ ap (λ (xs : List ℕ). sign_text s.sign ++ (s.digits ++ 46 ∷ (r.fraction ++ xs))) e.2 in
    (n, f, short text n (record { form = (s.are, s.some, (each_digits r.fraction r.is_fraction, e.1)); bytes = bytes }) h.1, refl)

-- ---- a number is a token

number_int : (text : List ℕ) (n : Number) → IsShort text n → n.fraction ≡ None → Spells kinds.Int text
number_int text n h is =
    let bytes : text ≡ sign_text n.sign ++ (n.whole ++ []) = rw is at h.spells.bytes in
    let parts : text ≡ sign_text n.sign ++ n.whole = bytes ∙ ap (λ (xs : List ℕ). sign_text n.sign ++ xs) (append-nil n.whole) in
    (subst IsInt (sym parts) (signed_int n.sign n.whole h.spells.form.0 h.spells.form.1), omega (arith, h.digits, same_count text n h.spells))

number_real : (text : List ℕ) (n : Number) (f : Fraction) → IsShort text n → n.fraction ≡ Some f → Spells kinds.Real text
number_real text n f h is =
    let form = rw is at h.spells.form.2 in
    let bytes : text ≡ sign_text n.sign ++ (n.whole ++ 46 ∷ (f.digits ++ exponent_text f.exponent)) = rw is at h.spells.bytes in
    let parts : text ≡ (sign_text n.sign ++ n.whole) ++ 46 ∷ (f.digits ++ exponent_text f.exponent) = bytes ∙ sym (append_assoc (sign_text n.sign) n.whole (46 ∷ (f.digits ++ exponent_text f.exponent))) in
    let real : IsReal text = record {
      whole = sign_text n.sign ++ n.whole;
      fraction = f.digits;
      exponent = exponent_text f.exponent;
      parts = parts;
      is_whole = signed_int n.sign n.whole h.spells.form.0 h.spells.form.1;
      is_fraction = digits_each f.digits form.0;
      is_exponent = exponent_is f.exponent form.1;
    } in
    (real, omega (arith, h.digits, same_count text n h.spells))

pub int_is : (text : List ℕ) → Spells kinds.Int text ↔ ((n : Number) × IsShort text n × (n.fraction ≡ None))
int_is text = (int_number text, λ h. number_int text h.0 h.1 h.2)

pub real_is : (text : List ℕ) → Spells kinds.Real text ↔ ((n : Number) × (f : Fraction) × IsShort text n × (n.fraction ≡ Some f))
real_is text = (real_number text, λ h. number_real text h.0 h.1 h.2 h.3)

-- ---- what is refused

either : (text : List ℕ) (n : Number) (f : Option Fraction) → n.fraction ≡ f → IsShort text n → Spells kinds.Int text ⊎ Spells kinds.Real text
either text n None is h = inl (number_int text n h is)
either text n (Some f) is h = inr (number_real text n f h is)

pub refused_is : (text : List ℕ) → (thousandths_of text ≡ Err NotNumber) ↔ ((Spells kinds.Int text ⊎ Spells kinds.Real text) → ⊥)
refused_is text = (from, to)
  where
    none : (thousandths_of text ≡ Err NotNumber) ↔ ((n : Number) → IsShort text n → ⊥)
    none = not_number_where text (thousandths_of text) refl

    from : thousandths_of text ≡ Err NotNumber → (Spells kinds.Int text ⊎ Spells kinds.Real text) → ⊥
    from e (inl h) = let n = int_number text h in none.0 e n.0 n.1
    from e (inr h) = let n = real_number text h in none.0 e n.0 n.2

    to : ((Spells kinds.Int text ⊎ Spells kinds.Real text) → ⊥) → thousandths_of text ≡ Err NotNumber
    to no_token = none.1 (λ n h. no_token (either text n n.fraction refl h))
