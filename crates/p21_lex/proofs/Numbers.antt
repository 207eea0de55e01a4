-- Numbers: what is found has the form of an integer or a real, and what has the form is found again.
use Rattle.std.proofs.Common.{◌≡◌, ℕ, zero, suc, ◌+◌, ◌<◌, ◌≤◌, Bool, true, false, cond, eqb, ltb, ◌||◌, ◌&&◌, List, [], ◌∷◌, ◌++◌, length, take, drop, Result, Ok, Err, refl, sym, ap, subst, ◌∙◌, ◌⊎◌, inl, inr, append_assoc, arith}
use Rattle.std.specs.Prelude.{count_by}
use Rattle.std.specs.List.{list_any}
use Rattle.std.proofs.lemmas.Bool.{eqb-true, eqb-false, ltb-false, ltb-true, lt-ltb, eq-eqb, ne_eqb, le-ltb}
use Rattle.std.proofs.lemmas.Bool.Decides.{nat_tests}
use Rattle.std.proofs.lemmas.List.{drop-drop, drop_at, take_at, length-append, length-drop}
use Rattle.p21_lex.specs.declared.error.LexErr.{LexErr}
use Rattle.p21_lex.specs.declared.error.LexErr.TheVariants.{BadByte, NumberTooLong}
use Rattle.p21_lex.specs.declared.token.TokenKind.{TokenKind}
use Rattle.p21_lex.specs.declared.token.TokenKind.TheVariants as kinds
use Rattle.p21_lex.specs.declared.piece.Piece.{Piece}
use Rattle.p21_lex.specs.declared.piece.Piece.TheVariants.{Gap, Spelling}
use Rattle.p21_lex.specs.Class.{is_digit, is_sign, Each, NotFirst}
use Rattle.p21_lex.specs.Number.{digits_len, int_len, exponent_len, fraction_len}
use Rattle.p21_lex.specs.Front.{number}
use Rattle.p21_lex.specs.Reading.{IsDigits, IsInt, IsExponent, IsReal, IsShort, begins_int, begins_exponent, Spells, Stops, IsGap}
use Rattle.p21_lex.proofs.Runs.{one_more, run_is, run_ends, run_within, no_run, runs, NotFirst-within, take_within}

pub IsDigits-from : (xs : List ℕ) → (length xs ≡ 0 → ⊥) → Each is_digit xs → IsDigits xs
IsDigits-from [] some h = absurd (some refl)
IsDigits-from (x ∷ xs) some h = h

pub digits_each : (xs : List ℕ) → IsDigits xs → Each is_digit xs
digits_each [] h = absurd h
digits_each (x ∷ xs) h = h

digits_some : (xs : List ℕ) → IsDigits xs → 0 < length xs
digits_some [] h = absurd h
digits_some (x ∷ xs) h = omega arith

int_from_digits : (xs : List ℕ) → IsDigits xs → IsInt xs
int_from_digits [] h = absurd h
int_from_digits (x ∷ xs) h = inl h

-- the digits at the front, where there are some
pub digits_found : (bytes : List ℕ) → (digits_len bytes ≡ 0 → ⊥) → IsDigits (take (digits_len bytes) bytes)
digits_found bytes some =
    let len : length (take (digits_len bytes) bytes) ≡ digits_len bytes = take_within (digits_len bytes) bytes (run_within is_digit bytes) in
    IsDigits-from (take (digits_len bytes) bytes) (λ e. some (sym len ∙ e)) (run_is is_digit bytes)

pub digits_none : (bytes : List ℕ) → digits_len bytes ≡ 0 → NotFirst is_digit bytes
digits_none bytes none = let ends : NotFirst is_digit (drop (digits_len bytes) bytes) = run_ends is_digit bytes in subst (λ (n : ℕ). NotFirst is_digit (drop n bytes)) none ends

pub sign_is_no_digit : (b : ℕ) → is_sign b ≡ true → is_digit b ≡ false
sign_is_no_digit b h = grind (arith, nat_tests)

digit_is_no_sign : (b : ℕ) → is_digit b ≡ true → is_sign b ≡ false
digit_is_no_sign b h = grind (arith, nat_tests)

-- ---- integers

int_signed : (b : ℕ) (bs : List ℕ) → is_sign b ≡ true → int_len (b ∷ bs) ≡ cond (eqb (digits_len bs) 0) 0 (1 + digits_len bs)
unfolding int_len
int_signed b bs sign = rw sign refl

plain_sum : (n : ℕ) → cond (eqb n 0) 0 (0 + n) ≡ n
plain_sum n = grind (arith, nat_tests)

int_plain : (b : ℕ) (bs : List ℕ) → is_sign b ≡ false → int_len (b ∷ bs) ≡ digits_len (b ∷ bs)
unfolding int_len
int_plain b bs plain = rw plain (plain_sum (digits_len (b ∷ bs)))

int_nothing : int_len [] ≡ 0
unfolding int_len
int_nothing = refl

-- so many bytes at the front are an integer, and no digit follows
pub record IntFound (bytes : List ℕ) (n : ℕ) : Type 0 where
  pub is : IsInt (take n bytes)
  pub ends : NotFirst is_digit (drop n bytes)
  pub within : n ≤ length bytes

signed_found : (b : ℕ) (bs : List ℕ) (z : Bool) → is_sign b ≡ true → eqb (digits_len bs) 0 ≡ z → (cond z 0 (1 + digits_len bs) ≡ 0 → ⊥) → IntFound (b ∷ bs) (cond z 0 (1 + digits_len bs))
signed_found b bs true sign ez some = absurd (some refl)
signed_found b bs false sign ez some =
    let digits : IsDigits (take (digits_len bs) bs) = digits_found bs (eqb-false (digits_len bs) 0 ez) in
    rw one_more (record { is = inr (sign, digits); ends = run_ends is_digit bs; within = omega (arith, run_within is_digit bs) })

int_step : (b : ℕ) (bs : List ℕ) (x : Bool) → is_sign b ≡ x → (int_len (b ∷ bs) ≡ 0 → ⊥) → IntFound (b ∷ bs) (int_len (b ∷ bs))
int_step b bs true sign some =
    let is = int_signed b bs sign in
    subst (λ (n : ℕ). IntFound (b ∷ bs) n) (sym is) (signed_found b bs (eqb (digits_len bs) 0) sign refl (λ e. some (is ∙ e)))
int_step b bs false plain some =
    let is = int_plain b bs plain in
    let digits : IsDigits (take (digits_len (b ∷ bs)) (b ∷ bs)) = digits_found (b ∷ bs) (λ e. some (is ∙ e)) in
    subst (λ (n : ℕ). IntFound (b ∷ bs) n) (sym is) (record { is = int_from_digits (take (digits_len (b ∷ bs)) (b ∷ bs)) digits; ends = run_ends is_digit (b ∷ bs); within = run_within is_digit (b ∷ bs) })

pub int_found : (bytes : List ℕ) → (int_len bytes ≡ 0 → ⊥) → IntFound bytes (int_len bytes)
int_found [] some = absurd (some int_nothing)
int_found (b ∷ bs) some = int_step b bs (is_sign b) refl some

some_cond : (n k : ℕ) → 0 < n → cond (eqb n 0) 0 k ≡ k
some_cond n k h = grind (arith, nat_tests)

pub int_again : (text rest : List ℕ) → IsInt text → NotFirst is_digit rest → int_len (text ++ rest) ≡ length text
int_again [] rest h stop = absurd h
int_again (b ∷ bs) rest (inl digits) stop = int_plain b (bs ++ rest) (digit_is_no_sign b digits.0) ∙ runs is_digit (b ∷ bs) rest digits stop
int_again (b ∷ bs) rest (inr h) stop =
    let run : digits_len (bs ++ rest) ≡ length bs = runs is_digit bs rest (digits_each bs h.1) stop in
    int_signed b (bs ++ rest) h.0 ∙ ap (λ (n : ℕ). cond (eqb n 0) 0 (1 + n)) run ∙ some_cond (length bs) (1 + length bs) (digits_some bs h.1) ∙ one_more (length bs)

-- no integer at the front
none_cond : (n : ℕ) → cond (eqb n 0) 0 (1 + n) ≡ 0 → n ≡ 0
none_cond n h = grind (arith, nat_tests)

pub begins_none : (b : ℕ) (bs : List ℕ) → is_digit b ≡ false → (is_sign b ≡ true → NotFirst is_digit bs) → begins_int (b ∷ bs) ≡ false
begins_none b [] plain behind = plain
begins_none b (c ∷ cs) plain behind = by_sign (is_sign b) refl
  where
    by_sign : (x : Bool) → is_sign b ≡ x → begins_int (b ∷ c ∷ cs) ≡ false
    by_sign true e = rw (plain, e, behind e) refl
    by_sign false e = rw (plain, e) refl

none_step : (b : ℕ) (bs : List ℕ) (x : Bool) → is_sign b ≡ x → int_len (b ∷ bs) ≡ 0 → begins_int (b ∷ bs) ≡ false
none_step b bs true sign none =
    let no_digits : digits_len bs ≡ 0 = none_cond (digits_len bs) (sym (int_signed b bs sign) ∙ none) in
    begins_none b bs (sign_is_no_digit b sign) (λ _. digits_none bs no_digits)
none_step b bs false plain none = begins_none b bs (digits_none (b ∷ bs) (sym (int_plain b bs plain) ∙ none)) (λ sign. absurd cc)

pub int_none : (bytes : List ℕ) → int_len bytes ≡ 0 → begins_int bytes ≡ false
int_none [] none = refl
int_none (b ∷ bs) none = none_step b bs (is_sign b) refl none

pub begins_none_back : (b : ℕ) (bs : List ℕ) → begins_int (b ∷ bs) ≡ false → (is_digit b ≡ false) × (is_sign b ≡ true → NotFirst is_digit bs)
begins_none_back b [] h = (h, λ _. tt)
begins_none_back b (c ∷ cs) h = (parts (is_digit b) (is_sign b) (is_digit c) h)
  where
    parts : (x y z : Bool) → (x || (y && z)) ≡ false → (x ≡ false) × (y ≡ true → z ≡ false)
    parts true y z e = absurd cc
    parts false true z e = (refl, λ _. e)
    parts false false z e = (refl, λ f. absurd cc)

none_back_step : (b : ℕ) (bs : List ℕ) (x : Bool) → is_sign b ≡ x → begins_int (b ∷ bs) ≡ false → int_len (b ∷ bs) ≡ 0
none_back_step b bs true sign h =
    let none : digits_len bs ≡ 0 = no_run is_digit bs ((begins_none_back b bs h).1 sign) in
    int_signed b bs sign ∙ ap (λ (n : ℕ). cond (eqb n 0) 0 (1 + n)) none
none_back_step b bs false plain h = int_plain b bs plain ∙ no_run is_digit (b ∷ bs) (begins_none_back b bs h).0

pub int_none_again : (bytes : List ℕ) → begins_int bytes ≡ false → int_len bytes ≡ 0
int_none_again [] h = int_nothing
int_none_again (b ∷ bs) h = none_back_step b bs (is_sign b) refl h

-- ---- exponents

-- whether an E stands anywhere
abbrev pub has_e : List ℕ → Bool
has_e bytes = list_any (λ b. eqb b 69) bytes

pub record ExponentFound (bytes : List ℕ) (n : ℕ) : Type 0 where
  pub is : IsExponent (take n bytes)
  pub ends : NotFirst is_digit bytes → NotFirst is_digit (drop n bytes)
  pub last : has_e (take n bytes) ≡ false → begins_exponent (drop n bytes) ≡ false
  pub within : n ≤ length bytes

no_exponent : (bytes : List ℕ) → begins_exponent bytes ≡ false → ExponentFound bytes 0
no_exponent bytes none = record { is = tt; ends = λ h. h; last = λ _. none; within = omega arith }

exponent_step : (b : ℕ) (bs : List ℕ) (x y : Bool) → eqb b 69 ≡ x → eqb (int_len bs) 0 ≡ y → ExponentFound (b ∷ bs) (cond x (cond y 0 (1 + int_len bs)) 0)
exponent_step b bs true true ex ey = no_exponent (b ∷ bs) (rw (ex, int_none bs (eqb-true (int_len bs) 0 ey)) refl)
exponent_step b bs true false ex ey =
    let found = int_found bs (eqb-false (int_len bs) 0 ey) in
    rw one_more (record { is = (eqb-true b 69 ex, found.is); ends = λ _. found.ends; last = λ none. absurd (e_stands (eqb b 69) (has_e (take (int_len bs) bs)) ex none); within = omega (arith, found.within) })
  where
    e_stands : (x y : Bool) → x ≡ true → (x || y) ≡ false → ⊥
    e_stands true y e f = absurd cc
    e_stands false y e f = absurd cc
exponent_step b bs false y ex ey = no_exponent (b ∷ bs) (rw ex refl)

pub exponent_found : (bytes : List ℕ) → ExponentFound bytes (exponent_len bytes)
unfolding exponent_len
exponent_found [] = no_exponent [] refl
exponent_found (b ∷ bs) = exponent_step b bs (eqb b 69) (eqb (int_len bs) 0) refl refl

exponent_nothing : (rest : List ℕ) → begins_exponent rest ≡ false → exponent_len rest ≡ 0
unfolding exponent_len
exponent_nothing [] none = refl
exponent_nothing (b ∷ bs) none = by_e (eqb b 69) refl none
  where
    by_e : (x : Bool) → eqb b 69 ≡ x → (x && begins_int bs) ≡ false → cond x (cond (eqb (int_len bs) 0) 0 (1 + int_len bs)) 0 ≡ 0
    by_e true ex none = rw (int_none_again bs none) refl
    by_e false ex none = refl

IsInt-some : (xs : List ℕ) → IsInt xs → 0 < length xs
IsInt-some [] h = absurd h
IsInt-some (x ∷ xs) h = omega arith

exponent_whole : (b : ℕ) (bs rest : List ℕ) → b ≡ 69 → IsInt bs → NotFirst is_digit rest → exponent_len (b ∷ (bs ++ rest)) ≡ suc (length bs)
unfolding exponent_len
exponent_whole b bs rest is int stop =
    let yes_e : eqb b 69 ≡ true = eq-eqb b 69 is in
    rw (yes_e, int_again bs rest int stop) (some_cond (length bs) (1 + length bs) (IsInt-some bs int) ∙ one_more (length bs))

pub exponent_again : (text rest : List ℕ) → IsExponent text → NotFirst is_digit rest → (text ≡ [] → begins_exponent rest ≡ false) → exponent_len (text ++ rest) ≡ length text
exponent_again [] rest h stop none = exponent_nothing rest (none refl)
exponent_again (b ∷ bs) rest h stop none = exponent_whole b bs rest h.0 h.1 stop

-- ---- fractions

abbrev nothing : List ℕ
nothing = []

take_nothing : (n : ℕ) → nothing ≡ take n nothing
take_nothing zero = refl
take_nothing (suc n) = refl

pub take-add : (m n : ℕ) (xs : List ℕ) → take (m + n) xs ≡ take m xs ++ take n (drop m xs)
take-add zero n xs = let e : 0 + n ≡ n = omega arith in rw e refl
take-add (suc m) n [] = let e : suc m + n ≡ suc (m + n) = omega arith in rw e (take_nothing n)
take-add (suc m) n (x ∷ xs) = let e : suc m + n ≡ suc (m + n) = omega arith in rw e (ap (λ (ys : List ℕ). x ∷ ys) (take-add m n xs))

any_right : (xs ys : List ℕ) → has_e (xs ++ ys) ≡ false → has_e ys ≡ false
any_right [] ys h = h
any_right (x ∷ xs) ys h = any_right xs ys (behind (eqb x 69) (has_e (xs ++ ys)) h)
  where
    behind : (x y : Bool) → (x || y) ≡ false → y ≡ false
    behind true y e = absurd cc
    behind false y e = e

-- so many bytes, some, are a point, digits and an exponent
pub record FractionFound (bytes : List ℕ) (n : ℕ) : Type 0 where
  pub fraction : List ℕ
  pub exponent : List ℕ
  pub parts : take n bytes ≡ 46 ∷ (fraction ++ exponent)
  pub is_fraction : Each is_digit fraction
  pub is_exponent : IsExponent exponent
  pub ends : NotFirst is_digit (drop n bytes)
  pub last : has_e (take n bytes) ≡ false → begins_exponent (drop n bytes) ≡ false
  pub within : n ≤ length bytes

fraction_step : (b : ℕ) (bs : List ℕ) (x : Bool) → eqb b 46 ≡ x → (cond x (1 + digits_len bs + exponent_len (drop (digits_len bs) bs)) 0 ≡ 0 → ⊥)
    → FractionFound (b ∷ bs) (cond x (1 + digits_len bs + exponent_len (drop (digits_len bs) bs)) 0)
fraction_step b bs true ex some =
    let d = digits_len bs in
    let e = exponent_len (drop d bs) in
    let found = exponent_found (drop d bs) in
    let len : 1 + d + e ≡ suc (d + e) = omega arith in
    let point : b ≡ 46 = eqb-true b 46 ex in
    let parts : b ∷ take (d + e) bs ≡ 46 ∷ (take d bs ++ take e (drop d bs)) = rw point (ap (λ (ys : List ℕ). 46 ∷ ys) (take-add d e bs)) in
    let behind : drop e (drop d bs) ≡ drop (d + e) bs = drop-drop e d bs in
    rw len (record {
      fraction = take d bs;
      exponent = take e (drop d bs);
      parts = parts;
      is_fraction = run_is is_digit bs;
      is_exponent = found.is;
      ends = subst (λ (r : List ℕ). NotFirst is_digit r) behind (found.ends (run_ends is_digit bs));
      last = λ none. subst (λ (r : List ℕ). begins_exponent r ≡ false) behind (found.last (any_right (46 ∷ take d bs) (take e (drop d bs)) (sym (ap has_e parts) ∙ none)));
      within = omega (arith, found.within, run_within is_digit bs, length-drop d bs);
    })
fraction_step b bs false ex some = absurd (some refl)

fraction_cons : (b : ℕ) (bs : List ℕ) → fraction_len (b ∷ bs) ≡ cond (eqb b 46) (1 + digits_len bs + exponent_len (drop (digits_len bs) bs)) 0
unfolding fraction_len
fraction_cons b bs = refl

pub fraction_found : (bytes : List ℕ) → (fraction_len bytes ≡ 0 → ⊥) → FractionFound bytes (fraction_len bytes)
unfolding fraction_len
fraction_found [] some = absurd (some refl)
fraction_found (b ∷ bs) some = fraction_step b bs (eqb b 46) refl some

pub fraction_none : (bytes : List ℕ) → fraction_len bytes ≡ 0 → NotFirst (λ b. eqb b 46) bytes
unfolding fraction_len
fraction_none [] none = tt
fraction_none (b ∷ bs) none = by_point (eqb b 46) (digits_len bs) (exponent_len (drop (digits_len bs) bs)) none
  where
    by_point : (x : Bool) (d e : ℕ) → cond x (1 + d + e) 0 ≡ 0 → x ≡ false
    by_point true d e h = absurd (omega arith)
    by_point false d e h = refl

fraction_nothing : (bytes : List ℕ) → NotFirst (λ b. eqb b 46) bytes → fraction_len bytes ≡ 0
unfolding fraction_len
fraction_nothing [] h = refl
fraction_nothing (b ∷ bs) h = rw h refl

exponent_stops : (exponent rest : List ℕ) → IsExponent exponent → NotFirst is_digit rest → NotFirst is_digit (exponent ++ rest)
exponent_stops [] rest h stop = stop
exponent_stops (b ∷ bs) rest h stop = rw h.0 refl

fraction_at_point : (bs : List ℕ) → fraction_len (46 ∷ bs) ≡ 1 + digits_len bs + exponent_len (drop (digits_len bs) bs)
unfolding fraction_len
fraction_at_point bs = refl

pub fraction_again : (fraction exponent rest : List ℕ) → Each is_digit fraction → IsExponent exponent → NotFirst is_digit rest → (exponent ≡ [] → begins_exponent rest ≡ false)
    → fraction_len (46 ∷ (fraction ++ (exponent ++ rest))) ≡ suc (length fraction + length exponent)
fraction_again fraction exponent rest digits power stop none =
    let run : digits_len (fraction ++ (exponent ++ rest)) ≡ length fraction = runs is_digit fraction (exponent ++ rest) digits (exponent_stops exponent rest power stop) in
    let behind : drop (length fraction) (fraction ++ (exponent ++ rest)) ≡ exponent ++ rest = drop_at fraction (exponent ++ rest) (length fraction) refl in
    fraction_at_point (fraction ++ (exponent ++ rest)) ∙ rw (run, behind, exponent_again exponent rest power stop none) (omega arith)

-- ---- whole numbers

-- no E but in an exponent
each_no_e : (xs : List ℕ) → Each is_digit xs → has_e xs ≡ false
each_no_e [] h = refl
each_no_e (x ∷ xs) h = rw (no_e x h.0) (each_no_e xs h.1)
  where
    no_e : (x : ℕ) → is_digit x ≡ true → eqb x 69 ≡ false
    no_e x h = grind (arith, nat_tests)

int_no_e : (xs : List ℕ) → IsInt xs → has_e xs ≡ false
int_no_e [] h = absurd h
int_no_e (x ∷ xs) (inl h) = each_no_e (x ∷ xs) h
int_no_e (x ∷ xs) (inr h) = rw (sign_no_e x h.0) (each_no_e xs (digits_each xs h.1))
  where
    sign_no_e : (x : ℕ) → is_sign x ≡ true → eqb x 69 ≡ false
    sign_no_e x h = grind (arith, nat_tests)

has_e-append : (xs ys : List ℕ) → has_e xs ≡ false → has_e (xs ++ ys) ≡ has_e ys
has_e-append [] ys h = refl
has_e-append (x ∷ xs) ys h = by_first (eqb x 69) (has_e xs) (has_e (xs ++ ys)) (has_e ys) h (has_e-append xs ys)
  where
    by_first : (x y z w : Bool) → (x || y) ≡ false → (y ≡ false → z ≡ w) → (x || z) ≡ w
    by_first true y z w e f = absurd cc
    by_first false y z w e f = f e

abbrev pub answered : Piece → Result Piece LexErr
answered p = Ok p

abbrev pub refused : LexErr → Result Piece LexErr
refused e = Err e

pub answer_is : (p q : Piece) → answered p ≡ answered q → p ≡ q
answer_is p q e = cc

pub refused_not : (e : LexErr) (p : Piece) → refused e ≡ answered p → ⊥
refused_not e p h = cc

number_step : (at w f c : ℕ) (piece : Piece) (x y : Bool) (k : TokenKind) → eqb w 0 ≡ x → ltb 38 c ≡ y
    → cond x (refused (BadByte at)) (cond y (refused (NumberTooLong at)) (answered (Spelling k (w + f)))) ≡ answered piece
    → (w ≡ 0 → ⊥) × (c ≤ 38) × (Spelling k (w + f) ≡ piece)
number_step at w f c piece true y k ex ey e = absurd (refused_not (BadByte at) piece e)
number_step at w f c piece false true k ex ey e = absurd (refused_not (NumberTooLong at) piece e)
number_step at w f c piece false false k ex ey e = (eqb-false w 0 ex, ltb-false 38 c ey, answer_is (Spelling k (w + f)) piece e)

-- what a token found at the front is
pub record TokenFound (kind : TokenKind) (bytes : List ℕ) (len : ℕ) : Type 0 where
  pub spelled : Spells kind (take len bytes)
  pub stopped : Stops kind (take len bytes) (drop len bytes)
  pub within : len ≤ length bytes

-- what a gap found at the front is
pub record GapFound (bytes : List ℕ) (len : ℕ) : Type 0 where
  pub gap : IsGap (take len bytes)
  pub within : len ≤ length bytes
  pub filled : 0 < len

-- what a piece found at the front is
abbrev pub Found : List ℕ → Piece → Type 0
Found bytes (Gap len) = GapFound bytes len
Found bytes (Spelling kind len) = TokenFound kind bytes len

neither : (rest : List ℕ) → NotFirst is_digit rest → NotFirst (λ b. eqb b 46) rest → NotFirst (λ b. is_digit b || eqb b 46) rest
neither [] h k = tt
neither (b ∷ bs) h k = rw (h, k) refl

-- so many bytes have the form of a number, an integer or a real, and it stops there
abbrev pub NumberForm : Bool → List ℕ → ℕ → Type 0
NumberForm true bytes n = IsInt (take n bytes) × Stops kinds.Int (take n bytes) (drop n bytes) × (n ≤ length bytes)
NumberForm false bytes n = IsReal (take n bytes) × Stops kinds.Real (take n bytes) (drop n bytes) × (n ≤ length bytes)

pub number_form : (bytes : List ℕ) (w f : ℕ) (z : Bool) → eqb f 0 ≡ z → IntFound bytes w → f ≡ fraction_len (drop w bytes) → NumberForm z bytes (w + f)
number_form bytes w f true ez whole is =
    let none : f ≡ 0 = eqb-true f 0 ez in
    let len : w + f ≡ w = omega arith in
    rw len (whole.is, neither (drop w bytes) whole.ends (fraction_none (drop w bytes) (sym is ∙ none)), whole.within)
number_form bytes w f false ez whole is =
    let some : f ≡ 0 → ⊥ = eqb-false f 0 ez in
    let found : FractionFound (drop w bytes) f = subst (λ (n : ℕ). FractionFound (drop w bytes) n) (sym is) (fraction_found (drop w bytes) (λ e. some (is ∙ e))) in
    let halves : take (w + f) bytes ≡ take w bytes ++ take f (drop w bytes) = take-add w f bytes in
    let behind : drop f (drop w bytes) ≡ drop (w + f) bytes = drop-drop f w bytes in
    let real : IsReal (take (w + f) bytes) = record {
      whole = take w bytes;
      fraction = found.fraction;
      exponent = found.exponent;
      parts = halves ∙ ap (λ (ys : List ℕ). take w bytes ++ ys) found.parts;
      is_whole = whole.is;
      is_fraction = found.is_fraction;
      is_exponent = found.is_exponent;
    } in
    let last : has_e (take (w + f) bytes) ≡ false → begins_exponent (drop (w + f) bytes) ≡ false =
    λ none. subst (λ (r : List ℕ). begins_exponent r ≡ false) behind (found.last (any_right (take w bytes) (take f (drop w bytes)) (sym (ap has_e halves) ∙ none))) in
    (real, (subst (λ (r : List ℕ). NotFirst is_digit r) behind found.ends, last), omega (arith, found.within, whole.within, length-drop w bytes))

number_kind : (bytes : List ℕ) (len : ℕ) (z : Bool) → NumberForm z bytes len → count_by is_digit (take len bytes) ≤ 38 → TokenFound (cond z kinds.Int kinds.Real) bytes len
number_kind bytes len true form short = record { spelled = (form.0, short); stopped = form.1; within = form.2 }
number_kind bytes len false form short = record { spelled = (form.0, short); stopped = form.1; within = form.2 }

pub number_found : (at : ℕ) (bytes : List ℕ) (piece : Piece) → number at bytes ≡ answered piece → Found bytes piece
unfolding number
number_found at bytes piece e =
    let w = int_len bytes in
    let f = fraction_len (drop w bytes) in
    let c = count_by is_digit (take (w + f) bytes) in
    let k = cond (eqb f 0) kinds.Int kinds.Real in
    let s = number_step at w f c piece (eqb w 0) (ltb 38 c) k refl refl e in
    subst (λ (p : Piece). Found bytes p) s.2 (number_kind bytes (w + f) (eqb f 0) (number_form bytes w f (eqb f 0) refl (int_found bytes s.0) refl) s.1)

-- the parts of a number in front of a rest
pub record NumberParts (kind : TokenKind) (text rest : List ℕ) : Type 0 where
  pub whole : ℕ
  pub fraction : ℕ
  pub is_whole : int_len (text ++ rest) ≡ whole
  pub is_fraction : fraction_len (drop whole (text ++ rest)) ≡ fraction
  pub some : eqb whole 0 ≡ false
  pub front : take (whole + fraction) (text ++ rest) ≡ text
  pub len : whole + fraction ≡ length text
  pub is_kind : cond (eqb fraction 0) kinds.Int kinds.Real ≡ kind

filled : (n : ℕ) → 0 < n → eqb n 0 ≡ false
filled n h = ne_eqb n 0 (λ (e : n ≡ 0). omega arith)

pub int_parts : (text rest : List ℕ) → IsInt text → Stops kinds.Int text rest → NumberParts kinds.Int text rest
int_parts text rest int stopped =
    let behind : drop (length text) (text ++ rest) ≡ rest = drop_at text rest (length text) refl in
    let len : length text + 0 ≡ length text = omega arith in
    record {
      whole = length text;
      fraction = 0;
      is_whole = int_again text rest int (NotFirst-within (λ b. is_digit b || eqb b 46) is_digit rest (λ b h. grind (arith, nat_tests)) stopped);
      is_fraction = rw behind (fraction_nothing rest (NotFirst-within (λ b. is_digit b || eqb b 46) (λ b. eqb b 46) rest (λ b h. grind (arith, nat_tests)) stopped));
      some = filled (length text) (IsInt-some text int);
      front = rw len (take_at text rest (length text) refl);
      len = len;
      is_kind = refl;
    }

real_parts_of : (whole fraction exponent rest : List ℕ) → IsInt whole → Each is_digit fraction → IsExponent exponent → NotFirst is_digit rest
    → (exponent ≡ [] → begins_exponent rest ≡ false) → NumberParts kinds.Real (whole ++ 46 ∷ (fraction ++ exponent)) rest
real_parts_of whole fraction exponent rest int digits power stop none =
    let text = whole ++ 46 ∷ (fraction ++ exponent) in
    let regrouped : text ++ rest ≡ whole ++ 46 ∷ (fraction ++ (exponent ++ rest)) = simp append_assoc in
    let behind : drop (length whole) (text ++ rest) ≡ 46 ∷ (fraction ++ (exponent ++ rest)) = rw regrouped (drop_at whole (46 ∷ (fraction ++ (exponent ++ rest))) (length whole) refl) in
    let k = suc (length fraction + length exponent) in
    let len : length text ≡ length whole + k = omega (arith, length-append whole (46 ∷ (fraction ++ exponent)), length-append fraction exponent) in
    let point : eqb k 0 ≡ false = filled k (omega arith) in
    record {
      whole = length whole;
      fraction = k;
      is_whole = rw regrouped (int_again whole (46 ∷ (fraction ++ (exponent ++ rest))) int refl);
      is_fraction = rw behind (fraction_again fraction exponent rest digits power stop none);
      some = filled (length whole) (IsInt-some whole int);
      front = rw (← len) (take_at text rest (length text) refl);
      len = sym len;
      is_kind = rw point refl;
    }

pub real_parts : (text rest : List ℕ) → IsReal text → Stops kinds.Real text rest → NumberParts kinds.Real text rest
real_parts text rest r stopped =
    let none : r.exponent ≡ [] → begins_exponent rest ≡ false = λ e. stopped.1 (ap has_e r.parts ∙ has_e-append r.whole (46 ∷ (r.fraction ++ r.exponent)) (int_no_e r.whole r.is_whole) ∙ has_e-append (46 ∷ r.fraction) r.exponent (each_no_e r.fraction r.is_fraction) ∙ ap has_e e) in
    subst (λ (t : List ℕ). NumberParts kinds.Real t rest) (sym r.parts) (real_parts_of r.whole r.fraction r.exponent rest r.is_whole r.is_fraction r.is_exponent stopped.0 none)

pub number_again : (at : ℕ) (kind : TokenKind) (text rest : List ℕ) → NumberParts kind text rest → IsShort text → number at (text ++ rest) ≡ answered (Spelling kind (length text))
unfolding number
number_again at kind text rest p short =
    let few : ltb 38 (count_by is_digit text) ≡ false = le-ltb 38 (count_by is_digit text) short in
    rw (p.is_whole, p.is_fraction, p.some, p.front, few, p.is_kind, p.len) refl

pub number_long : (at : ℕ) (kind : TokenKind) (text rest : List ℕ) → NumberParts kind text rest → 38 < count_by is_digit text → number at (text ++ rest) ≡ refused (NumberTooLong at)
unfolding number
number_long at kind text rest p long =
    let many : ltb 38 (count_by is_digit text) ≡ true = lt-ltb 38 (count_by is_digit text) long in
    rw (p.is_whole, p.is_fraction, p.some, p.front, many) refl

pub int_number : (at : ℕ) (text rest : List ℕ) → Spells kinds.Int text → Stops kinds.Int text rest → number at (text ++ rest) ≡ answered (Spelling kinds.Int (length text))
int_number at text rest spelled stopped = number_again at kinds.Int text rest (int_parts text rest spelled.0 stopped) spelled.1

pub real_number : (at : ℕ) (text rest : List ℕ) → Spells kinds.Real text → Stops kinds.Real text rest → number at (text ++ rest) ≡ answered (Spelling kinds.Real (length text))
real_number at text rest spelled stopped = number_again at kinds.Real text rest (real_parts text rest spelled.0 stopped) spelled.1

-- ---- refusals

pub refused_is : (d e : LexErr) → refused d ≡ refused e → d ≡ e
refused_is d e h = cc

pub answered_not : (p : Piece) (e : LexErr) → answered p ≡ refused e → ⊥
answered_not p e h = cc

-- why a number is refused: there is none, or it is too long
pub number_refused : (at : ℕ) (bytes : List ℕ) (e : LexErr) → number at bytes ≡ refused e
    → ((int_len bytes ≡ 0) × (BadByte at ≡ e)) ⊎ ((z : Bool) × (len : ℕ) × NumberForm z bytes len × (38 < count_by is_digit (take len bytes)) × (NumberTooLong at ≡ e))
unfolding number
number_refused at bytes e h =
    let w = int_len bytes in
    let f = fraction_len (drop w bytes) in
    why w f (count_by is_digit (take (w + f) bytes)) (eqb w 0) (ltb 38 (count_by is_digit (take (w + f) bytes))) (cond (eqb f 0) kinds.Int kinds.Real) refl refl refl refl refl h
  where
    why : (w f c : ℕ) (x y : Bool) (k : TokenKind) → int_len bytes ≡ w → fraction_len (drop w bytes) ≡ f → count_by is_digit (take (w + f) bytes) ≡ c → eqb w 0 ≡ x → ltb 38 c ≡ y
        → cond x (refused (BadByte at)) (cond y (refused (NumberTooLong at)) (answered (Spelling k (w + f)))) ≡ refused e
        → ((int_len bytes ≡ 0) × (BadByte at ≡ e)) ⊎ ((z : Bool) × (len : ℕ) × NumberForm z bytes len × (38 < count_by is_digit (take len bytes)) × (NumberTooLong at ≡ e))
    why w f c true y k is_w is_f is_c ex ey h = inl (is_w ∙ eqb-true w 0 ex, refused_is (BadByte at) e h)
    why w f c false true k is_w is_f is_c ex ey h =
        let whole : IntFound bytes w = subst (λ (n : ℕ). IntFound bytes n) is_w (int_found bytes (λ none. eqb-false w 0 ex (sym is_w ∙ none))) in
        let long : 38 < count_by is_digit (take (w + f) bytes) = omega (arith, ltb-true 38 c ey, is_c) in
        inr (eqb f 0, w + f, number_form bytes w f (eqb f 0) refl whole (sym is_f), long, refused_is (NumberTooLong at) e h)
    why w f c false false k is_w is_f is_c ex ey h = absurd (answered_not (Spelling k (w + f)) e h)

-- where no integer begins, there is no number
pub number_none : (at : ℕ) (bytes : List ℕ) → int_len bytes ≡ 0 → number at bytes ≡ refused (BadByte at)
unfolding number
number_none at bytes none = let zero_is : eqb (int_len bytes) 0 ≡ true = eq-eqb (int_len bytes) 0 none in rw zero_is refl
