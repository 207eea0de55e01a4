-- Which parameters and instances of the large case can be written.
use Rattle.std.proofs.Common.{◌≡◌, ℕ, suc, ◌<◌, ◌≤◌, ◌^◌, nat_le, Bool, true, false, not, ◌==◌, ◌&&◌, List, [], ◌∷◌, ◌++◌, length, map, refl, sym, ap, subst, IsTrue, inl, inr, append-nil, length-append, arith}
use Rattle.std.specs.Prelude.{decimal}
use Rattle.std.specs.List.{AllByRecursion}
use Rattle.std.specs.Str.Parse.{AllDigits}
use Rattle.std.proofs.lemmas.Bool.Decides.{nat_tests}
use Rattle.std.proofs.lemmas.Fmt.{decimal_is_IsNumeral, length-decimal-le}
use Rattle.std.proofs.lemmas.List.Sums.{count_by-le-length}
use Rattle.std.proofs.lemmas.Str.Parse.{digit_from_value}
use Rattle.p21_lex.specs.declared.token.TokenKind.TheVariants as kinds
use Rattle.p21_lex.specs.Class.{is_digit, is_upper, is_plain, is_legal, Each}
use Rattle.p21_lex.specs.Reading.{IsDigits, IsInt, IsInside, Spells}
use Rattle.p21_parse.specs.Tree.{Tree, reference, trees, listed, PartTree}
use Rattle.p21_parse.specs.Symbol.{value, name, keyword, opening}
use Rattle.p21_parse.specs.Begins.{IsSymbol}
use Rattle.p21_parse.specs.Built.{Fits, IsValidPart, IsValid}
use Rattle.p21_parse.proofs.Fit.{all_fit, part_valid, instance_valid}
use Rattle.p21_parse.proofs.Spellings.{some_token}
use Rattle.p21_print.proofs.Trees.{listed-trees}
use Rattle.big_case.specs.Parameters.{text, real, whole, minus, unset, list_of, references, instance}

and_true : (a b : Bool) → a && b ≡ true → (a ≡ true) × (b ≡ true)
and_true true b e = (refl, e)
and_true false b e = absurd cc

not_true : (a : Bool) → not a ≡ true → a ≡ false
not_true true e = absurd cc
not_true false e = refl

-- whether each byte is of a class
abbrev pub each : (ℕ → Bool) → List ℕ → Bool
each class [] = true
each class (b ∷ bs) = class b && each class bs

each_of : (class : ℕ → Bool) (bs : List ℕ) → each class bs ≡ true → Each class bs
each_of class [] e = tt
each_of class (b ∷ bs) e = let both = and_true (class b) (each class bs) e in (both.0, each_of class bs both.1)

-- ---- keywords and texts

abbrev pub is_keyword : List ℕ → Bool
is_keyword [] = false
is_keyword (b ∷ bs) = is_upper b && each is_plain bs

keyword_real : (w : List ℕ) → is_keyword w ≡ true → IsSymbol (keyword w)
keyword_real [] e = absurd cc
keyword_real (b ∷ bs) e = let both = and_true (is_upper b) (each is_plain bs) e in some_token (keyword (b ∷ bs)) (inl (both.0, each_of is_plain bs both.1))

abbrev pub is_quiet : ℕ → Bool
is_quiet b = not (b == 39) && is_legal b

inside_of : (bs : List ℕ) → each is_quiet bs ≡ true → IsInside bs
inside_of [] e = tt
inside_of (b ∷ []) e =
    let both = and_true (is_quiet b) true e in
    let quiet = and_true (not (b == 39)) (is_legal b) both.0 in
    (not_true (b == 39) quiet.0, quiet.1)
inside_of (b ∷ c ∷ bs) e =
    let both = and_true (is_quiet b) (each is_quiet (c ∷ bs)) e in
    let quiet = and_true (not (b == 39)) (is_legal b) both.0 in
    inr (not_true (b == 39) quiet.0, quiet.1, inside_of (c ∷ bs) both.1)

pub text_fits : (most : ℕ) (bs : List ℕ) → each is_quiet bs ≡ true → Fits most (text bs)
text_fits most bs e = record { grammar = tt; shallow = omega arith; spelled = (some_token (value kinds.Text bs) (inside_of bs e), tt) }

-- ---- numbers

digit_is : (c : ℕ) → (48 ≤ c) × (c ≤ 57) → IsTrue (is_digit c)
digit_is c h = grind (arith, nat_tests)

digits_each : (ds : List ℕ) → AllDigits 10 ds → Each is_digit ds
digits_each [] h = tt
digits_each (c ∷ cs) h = (digit_is c (digit_from_value c h.0), digits_each cs h.1)

digits_are : (ds : List ℕ) → 0 < length ds → AllDigits 10 ds → IsDigits ds
digits_are [] some h = absurd (omega arith)
digits_are (c ∷ cs) some h = digits_each (c ∷ cs) h

decimal_digits : (n : ℕ) → n < 2 ^ 64 → IsDigits (decimal n)
decimal_digits n h = let d = decimal_is_IsNumeral n h in digits_are (decimal n) d.0.0 d.0.1

int_of : (ds : List ℕ) → IsDigits ds → IsInt ds
int_of [] h = absurd h
int_of (d ∷ ds) h = inl h

real_spelled : (w f : List ℕ) → IsInt w → Each is_digit f → length (w ++ 46 ∷ f) ≤ 38 → Spells kinds.Real (w ++ 46 ∷ f)
real_spelled w f int digits short =
    let count = count_by-le-length is_digit (w ++ 46 ∷ f) in (
      record {
        whole = w;
        fraction = f;
        exponent = [];
        parts = ap (λ (tail : List ℕ). w ++ 46 ∷ tail) (sym (append-nil f));
        is_whole = int;
        is_fraction = digits;
        is_exponent = tt;
      },
      omega arith,
    )

real_fits : (most : ℕ) (w f : List ℕ) → IsInt w → Each is_digit f → length (w ++ 46 ∷ f) ≤ 38 → Fits most (real (w ++ 46 ∷ f))
real_fits most w f int digits short =
    record { grammar = tt; shallow = omega arith; spelled = (some_token (value kinds.Real (w ++ 46 ∷ f)) (real_spelled w f int digits short), tt) }

at_most : (n : ℕ) → nat_le n 38 ≡ true → n ≤ 38
at_most n e = grind (arith, nat_tests)

abbrev pub is_digits : List ℕ → Bool
is_digits [] = false
is_digits (d ∷ ds) = each is_digit (d ∷ ds)

digits_of : (ds : List ℕ) → is_digits ds ≡ true → IsInt ds
digits_of [] e = absurd cc
digits_of (d ∷ ds) e = inl (each_of is_digit (d ∷ ds) e)

-- a real that is written out, by its digits before and behind the point
pub written_fits : (most : ℕ) (w f : List ℕ) → is_digits w ≡ true → each is_digit f ≡ true → nat_le (length (w ++ 46 ∷ f)) 38 ≡ true → Fits most (real (w ++ 46 ∷ f))
written_fits most w f e g short = real_fits most w f (digits_of w e) (each_of is_digit f g) (at_most (length (w ++ 46 ∷ f)) short)

pub whole_fits : (most n : ℕ) → n < 1000 → Fits most (whole n)
whole_fits most n lt =
    let few = length-decimal-le 3 n (omega arith) (omega arith) (omega arith) in
    let long = length-append (decimal n) (46 ∷ []) in
    real_fits most (decimal n) [] (int_of (decimal n) (decimal_digits n (omega arith))) tt (omega arith)

pub minus_fits : (most n : ℕ) → n < 1000 → Fits most (minus n)
minus_fits most n lt =
    let few = length-decimal-le 3 n (omega arith) (omega arith) (omega arith) in
    let long = length-append (decimal n) (46 ∷ []) in
    real_fits most (45 ∷ decimal n) [] (inr (refl, decimal_digits n (omega arith))) tt (omega arith)

-- ---- references, lists and nothing

-- the number is that of an instance
abbrev pub IsOwn : ℕ → Type 0
IsOwn n = (1 ≤ n) × (n ≤ 2147483647)

pub reference_fits : (most n : ℕ) → IsOwn n → Fits most (reference n)
reference_fits most n h = record { grammar = tt; shallow = omega arith; spelled = (some_token (name n) h, tt) }

pub unset_fits : (most : ℕ) → Fits most unset
unset_fits most = record { grammar = tt; shallow = omega arith; spelled = (some_token (value kinds.Dollar []) refl, tt) }

listed_fit : (most : ℕ) (ts : List Tree) → AllByRecursion (Fits most) ts → AllByRecursion (Fits most) (listed (trees ts))
listed_fit most ts h = subst (AllByRecursion (Fits most)) (sym (listed-trees ts)) h

pub list_fits : (most : ℕ) (ts : List Tree) → AllByRecursion (Fits most) ts → Fits (suc most) (list_of ts)
list_fits most ts h =
    let a = all_fit most (trees ts) (listed_fit most ts h) in
    let low = a.shallow in
    record { grammar = a.grammar; shallow = omega arith; spelled = (some_token opening tt, a.spelled) }

all_references : (most : ℕ) (ns : List ℕ) → AllByRecursion IsOwn ns → AllByRecursion (Fits most) (map reference ns)
all_references most [] h = tt
all_references most (n ∷ ns) h = (reference_fits most n h.0, all_references most ns h.1)

pub references_fit : (most : ℕ) (ns : List ℕ) → AllByRecursion IsOwn ns → Fits (suc most) (references ns)
references_fit most ns h = list_fits most (map reference ns) (all_references most ns h)

-- ---- instances

pub valid : (n : ℕ) (w : List ℕ) (ts : List Tree) → IsOwn n → is_keyword w ≡ true → AllByRecursion (Fits 31) ts → IsValid (instance n w ts)
valid n w ts own word fit =
    let p : PartTree = record { keyword = w; parameters = trees ts } in
    let part : IsValidPart p = (part_valid p true (keyword_real w word) (λ _. listed_fit 31 ts fit, λ _. refl)).0 refl in
    (instance_valid (instance n w ts) true (some_token (name n) own) refl (λ _. (part, tt), λ _. refl)).0 refl
