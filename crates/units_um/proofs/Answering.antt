-- When each answer comes.
use Rattle.std.proofs.Common.{◌≡◌, ℕ, zero, suc, ◌<◌, ◌≤◌, List, Option, Some, None, Result, Ok, Err, ◌↔◌, refl, sym, ap, ◌∙◌, arith, inl, inr}
use Rattle.std.specs.Prelude.{IfOk, ℤ, pos, neg_ℤ, nat_abs}
use Rattle.std.proofs.lemmas.Bool.{cases_lt, lt-ltb, le-ltb}
use Rattle.units_um.specs.declared.fault.UnitErr.{UnitErr}
use Rattle.units_um.specs.declared.fault.UnitErr.TheVariants.{NotNumber, OutOfRange}
use Rattle.units_um.specs.declared.number.Sign.{Sign}
use Rattle.units_um.specs.declared.number.Sign.TheVariants.{Unsigned, Plus, Minus}
use Rattle.units_um.specs.Number.{Number}
use Rattle.units_um.specs.Reading.{reading}
use Rattle.units_um.specs.declared.value.TheConstants.{MAX_DIGITS}
use Rattle.nc_base.specs.declared.numbers.TheConstants.{MAX_THOUSANDTHS}
use Rattle.units_um.specs.Thousandths.{IsShort, digit_count, size, signed, with_sign, rounded, in_range, value_of, thousandths_of}
use Rattle.units_um.proofs.OneReading.{read_again, read_takes}
use Rattle.units_um.proofs.Scale.{past_limit, within_limit}

abbrev Answer : Type 0
Answer = Result ℤ UnitErr

abbrev some : Number → Option Number
some n = Some n

-- ---- sizes

size_negated : (x : ℕ) → nat_abs (neg_ℤ (pos x)) ≡ x
size_negated zero = refl
size_negated (suc x) = refl

size_signed : (s : Sign) (x : ℕ) → nat_abs (signed s x) ≡ x
size_signed Minus x = size_negated x
size_signed Plus x = refl
size_signed Unsigned x = refl

abbrev Sized : Type 0
Sized = Result ℕ UnitErr

abbrev fails : UnitErr → Sized
fails e = Err e

abbrev gives : ℕ → Sized
gives x = Ok x

-- a size is within the limit where it is given
pub given_within : (x y : ℕ) → gives y ≡ in_range x → y ≤ MAX_THOUSANDTHS
given_within x y e =
    elim (cases_lt MAX_THOUSANDTHS x) [
      | inl lt ↦ absurd (let past : fails OutOfRange ≡ in_range x = past_limit x lt in cc)
      | inr le ↦ (let same : gives x ≡ in_range x = within_limit x le in let is : y ≡ x = cc in rw is le)
    ]

-- ---- what a text gives

pub gives_none : (text : List ℕ) → None ≡ reading text → Err NotNumber ≡ thousandths_of text
unfolding value_of
gives_none text none = rw (← none) refl

pub gives_long : (text : List ℕ) (n : Number) → some n ≡ reading text → MAX_DIGITS < digit_count n → Err NotNumber ≡ thousandths_of text
unfolding value_of
gives_long text n read long = rw (← read, lt-ltb MAX_DIGITS (digit_count n) long) refl

pub gives_short : (text : List ℕ) (n : Number) (r : Sized) → some n ≡ reading text → digit_count n ≤ MAX_DIGITS → r ≡ in_range (size n) → with_sign n.sign r ≡ thousandths_of text
unfolding value_of
gives_short text n r read short is = rw (← read, le-ltb MAX_DIGITS (digit_count n) short, is) refl

gives_within : (text : List ℕ) (n : Number) → IsShort text n → size n ≤ MAX_THOUSANDTHS → Ok (rounded n) ≡ thousandths_of text
gives_within text n short le = gives_short text n (Ok (size n)) (sym (read_again text n short.spells)) short.digits (within_limit (size n) le)

gives_past : (text : List ℕ) (n : Number) → IsShort text n → MAX_THOUSANDTHS < size n → Err OutOfRange ≡ thousandths_of text
gives_past text n short lt = gives_short text n (Err OutOfRange) (sym (read_again text n short.spells)) short.digits (past_limit (size n) lt)

-- a text either is no number of few enough digits, or is one that is within the limit or past it
pub data Case (text : List ℕ) : Type 0 where
  never : ((n : Number) → IsShort text n → ⊥) → Err NotNumber ≡ thousandths_of text → Case text
  within : (n : Number) → IsShort text n → size n ≤ MAX_THOUSANDTHS → Case text
  past : (n : Number) → IsShort text n → MAX_THOUSANDTHS < size n → Case text

case_read : (text : List ℕ) (o : Option Number) → o ≡ reading text → Case text
case_read text None e =
    never (λ n short. let again : reading text ≡ some n = read_again text n short.spells in absurd cc) (gives_none text e)
case_read text (Some n) e =
    let spells = read_takes text n (sym e) in
    elim (cases_lt MAX_DIGITS (digit_count n)) [
      | inl long ↦ never (λ m short.
          let again : reading text ≡ some m = read_again text m short.spells in
          let same : n ≡ m = cc in
          let digits : digit_count n ≤ MAX_DIGITS = rw same short.digits in
          absurd (omega arith)) (gives_long text n e long)
      | inr few ↦
          let short : IsShort text n = record { spells = spells; digits = few } in
          elim (cases_lt MAX_THOUSANDTHS (size n)) [ inl lt ↦ past n short lt | inr le ↦ within n short le ]
    ]

case_of : (text : List ℕ) → Case text
case_of text = case_read text (reading text) refl

-- ---- the clauses

abbrev IsValue : List ℕ → ℤ → Type 0
IsValue text x = (n : Number) × IsShort text n × (rounded n ≡ x) × (nat_abs x ≤ MAX_THOUSANDTHS)

abbrev IsPast : List ℕ → Type 0
IsPast text = (n : Number) × IsShort text n × (MAX_THOUSANDTHS < nat_abs (rounded n))

abbrev answers : ℤ → Answer
answers x = Ok x

abbrev refuses : UnitErr → Answer
refuses e = Err e

pub ok_where : (text : List ℕ) (r : Answer) → r ≡ thousandths_of text → (x : ℤ) → (r ≡ Ok x) ↔ IsValue text x
ok_where text r is x = (from (case_of text), to)
  where
    from : Case text → r ≡ answers x → IsValue text x
    from (never none given) e = absurd (let other : refuses NotNumber ≡ thousandths_of text = given in cc)
    from (within n short le) e =
        let other : answers (rounded n) ≡ thousandths_of text = gives_within text n short le in
        let same : rounded n ≡ x = cc in
        (n, short, same, rw (← same, size_signed n.sign (size n)) le)
    from (past n short lt) e = absurd (let other : refuses OutOfRange ≡ thousandths_of text = gives_past text n short lt in cc)

    to : IsValue text x → r ≡ answers x
    to (n, short, same, le) =
        let small : size n ≤ MAX_THOUSANDTHS = rw (size_signed n.sign (size n)) at (rw (← same) at le) in
        let other : answers (rounded n) ≡ thousandths_of text = gives_within text n short small in
        is ∙ sym other ∙ ap answers same

pub not_number_where : (text : List ℕ) (r : Answer) → r ≡ thousandths_of text → (r ≡ Err NotNumber) ↔ ((n : Number) → IsShort text n → ⊥)
not_number_where text r is = (from (case_of text), to (case_of text))
  where
    from : Case text → r ≡ refuses NotNumber → (n : Number) → IsShort text n → ⊥
    from (never none given) e = none
    from (within n short le) e = absurd (let other : answers (rounded n) ≡ thousandths_of text = gives_within text n short le in cc)
    from (past n short lt) e = absurd (let other : refuses OutOfRange ≡ thousandths_of text = gives_past text n short lt in cc)

    to : Case text → ((n : Number) → IsShort text n → ⊥) → r ≡ refuses NotNumber
    to (never none given) empty = is ∙ sym given
    to (within n short le) empty = absurd (empty n short)
    to (past n short lt) empty = absurd (empty n short)

pub out_of_range_where : (text : List ℕ) (r : Answer) → r ≡ thousandths_of text → (r ≡ Err OutOfRange) ↔ IsPast text
out_of_range_where text r is = (from (case_of text), to)
  where
    from : Case text → r ≡ refuses OutOfRange → IsPast text
    from (never none given) e = absurd (let other : refuses NotNumber ≡ thousandths_of text = given in cc)
    from (within n short le) e = absurd (let other : answers (rounded n) ≡ thousandths_of text = gives_within text n short le in cc)
    from (past n short lt) e = (n, short, rw (size_signed n.sign (size n)) lt)

    to : IsPast text → r ≡ refuses OutOfRange
    to (n, short, lt) =
        let far : MAX_THOUSANDTHS < size n = rw (size_signed n.sign (size n)) at lt in
        is ∙ sym (gives_past text n short far)

pub ok_within : (text : List ℕ) (r : Answer) → r ≡ thousandths_of text → IfOk r (λ x. nat_abs x ≤ MAX_THOUSANDTHS)
ok_within text (Ok x) is = ((ok_where text (answers x) is x).0 refl).3
ok_within text (Err e) is = tt
