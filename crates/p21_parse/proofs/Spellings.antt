-- What the symbols of tokens are.
use Rattle.std.proofs.Common.{◌≡◌, ℕ, ◌+◌, ◌-◌, ◌<◌, ◌≤◌, Bool, true, false, cond, ◌==◌, ◌||◌, List, [], ◌∷◌, ◌++◌, length, take, drop, get_or, refl, sym, ap, subst, ◌∙◌, inl, inr, ◌⊎◌, ◌↔◌, IsTrue, arith, length-append}
use Rattle.std.proofs.lemmas.Bool.Decides.{nat_tests}
use Rattle.std.proofs.lemmas.Fmt.{decimal_is_IsNumeral}
use Rattle.std.proofs.lemmas.List.Sums.{sum_by-append, sum_by-cons}
use Rattle.std.proofs.lemmas.Str.Parse.{digit_at}
use Rattle.std.specs.Int.{IsInRange}
use Rattle.std.proofs.Math.Seq.{take-append_seam}
use Rattle.std.proofs.lemmas.List.{take_all}
use Rattle.std.specs.Fmt.{decimal}
use Rattle.std.specs.Prelude.{count_by, nat_le}
use Rattle.std.specs.Str.Parse.{AllDigits, digits_value}
use Rattle.p21_lex.specs.declared.token.TokenKind.{TokenKind}
use Rattle.p21_lex.specs.declared.token.TokenKind.TheVariants.{Word, UserWord, Name, Int, Real, Text, Enumeration, Binary, Open, Close, Comma, Semicolon, Equals, Dollar, Star}
use Rattle.p21_lex.specs.Class.{is_digit, is_upper, is_plain, is_word, is_hex, Each}
use Rattle.p21_lex.specs.Reading.{IsKeyword, IsDigits, IsInt, IsExponent, IsReal, IsInside, IsBetween, Spells}
use Rattle.p21_parse.specs.Symbol.{Symbol, value, name, keyword, dashed, opening, closing, comma, semicolon, equals, inside, has_hyphen, symbol}
use Rattle.p21_parse.specs.Begins.{IsSymbol}

-- what the bytes of a value are, without the marks round them
abbrev pub IsValueText : TokenKind → List ℕ → Type 0
IsValueText Int v = Spells Int v
IsValueText Real v = Spells Real v
IsValueText Text v = IsInside v
IsValueText Enumeration v = IsKeyword is_plain v
IsValueText Binary v = Each is_hex v
IsValueText Dollar v = v ≡ []
IsValueText Star v = v ≡ []
IsValueText _ v = ⊥

-- what a symbol is that some token has
abbrev pub IsWellSpelled : Symbol → Type 0
IsWellSpelled (value kind v) = IsValueText kind v
IsWellSpelled (name n) = (1 ≤ n) × (n ≤ 2147483647)
IsWellSpelled (keyword w) = IsKeyword is_plain w ⊎ ((word : List ℕ) × (w ≡ 33 ∷ word) × IsKeyword is_plain word)
IsWellSpelled (dashed w) = IsKeyword is_word w × (has_hyphen w ≡ true)
IsWellSpelled _ = Unit {0}

-- ---- words

plain_word : (b : ℕ) → is_word b ≡ true → (b == 45) ≡ false → is_plain b ≡ true
plain_word b w h = by (is_plain b) (b == 45) w h
  where
    by : (p d : Bool) → (p || d) ≡ true → d ≡ false → p ≡ true
    by true d w h = refl
    by false true w h = absurd cc
    by false false w h = absurd cc

word_plain : (b : ℕ) → is_plain b ≡ true → is_word b ≡ true
word_plain b p = ap (λ (x : Bool). x || (b == 45)) p

or_false : (a b : Bool) → (a || b) ≡ false → (a ≡ false) × (b ≡ false)
or_false true b e = absurd cc
or_false false b e = (refl, e)

each_plain : (bs : List ℕ) → Each is_word bs → has_hyphen bs ≡ false → Each is_plain bs
each_plain [] h e = tt
each_plain (b ∷ bs) h e = let both = or_false (b == 45) (has_hyphen bs) e in (plain_word b h.0 both.0, each_plain bs h.1 both.1)

each_word : (bs : List ℕ) → Each is_plain bs → Each is_word bs
each_word [] h = tt
each_word (b ∷ bs) h = (word_plain b h.0, each_word bs h.1)

no_hyphen : (b : ℕ) → is_plain b ≡ true → (b == 45) ≡ false
no_hyphen b p = grind (arith, nat_tests)

none_hyphen : (bs : List ℕ) → Each is_plain bs → has_hyphen bs ≡ false
none_hyphen [] h = refl
none_hyphen (b ∷ bs) h = let first = no_hyphen b h.0 in ap (λ (x : Bool). x || has_hyphen bs) first ∙ none_hyphen bs h.1

upper_plain : (b : ℕ) → is_upper b ≡ true → is_plain b ≡ true
upper_plain b h = ap (λ (x : Bool). x || is_digit b) h

good_word : (text : List ℕ) (dash : Bool) → has_hyphen text ≡ dash → IsKeyword is_word text → IsWellSpelled (cond dash (dashed text) (keyword text))
good_word text true e h = (h, e)
good_word [] false e h = absurd h
good_word (b ∷ bs) false e h = let both = or_false (b == 45) (has_hyphen bs) e in inl (h.0, each_plain bs h.1 both.1)

-- ---- marks

pub inside_marks : (b : ℕ) (v : List ℕ) → inside (b ∷ (v ++ b ∷ [])) ≡ v
inside_marks b v =
    let long : length (b ∷ (v ++ b ∷ [])) - 1 - 1 ≡ length v = omega (arith, length-append v (b ∷ [])) in
    ap (λ (n : ℕ). take n (v ++ b ∷ [])) long ∙ take-append_seam v (b ∷ [])

between : (b : ℕ) (P : List ℕ → Type 0) (text : List ℕ) → IsBetween b P text → P (inside text)
between b P text h = subst P (sym (ap inside h.1 ∙ inside_marks b h.0)) h.2

-- ---- names

digit_is : (d : ℕ) → IsInRange 48 57 d → is_digit d ≡ true
digit_is d h =
    let low : 48 ≤ d = h.0 in
    let high : d ≤ 57 = h.1 in
    grind (arith, nat_tests)

digits_each : (ds : List ℕ) → AllDigits 10 ds → Each is_digit ds
digits_each [] h = tt
digits_each (d ∷ ds) h = (digit_is d (digit_at (d ∷ ds) 0 h (omega arith)), digits_each ds h.1)

digits_filled : (ds : List ℕ) → 0 < length ds → Each is_digit ds → IsDigits ds
digits_filled [] some h = absurd (omega arith)
digits_filled (d ∷ ds) some h = h

name_real : (n : ℕ) → 1 ≤ n → n ≤ 2147483647 → IsSymbol (name n)
name_real n low high =
    let d = decimal_is_IsNumeral n (omega arith) in
    let value : digits_value 10 (decimal n) ≡ n = d.1 in (
      Name,
      35 ∷ decimal n,
      (decimal n, refl, digits_filled (decimal n) d.0.0 (digits_each (decimal n) d.0.1), subst (λ (k : ℕ). 1 ≤ k) (sym value) low, subst (λ (k : ℕ). k ≤ 2147483647) (sym value) high),
      ap name value,
    )

-- ---- numbers

cons_count : (d : ℕ) (ds : List ℕ) → count_by is_digit (d ∷ ds) ≡ cond (is_digit d) 1 0 + count_by is_digit ds
cons_count d ds = sum_by-cons (λ (x : ℕ). cond (is_digit x) 1 0) d ds

no_fewer : (d : ℕ) (ds : List ℕ) → count_by is_digit ds ≤ count_by is_digit (d ∷ ds)
no_fewer d ds = omega (arith, cons_count d ds)

each_count : (ds : List ℕ) → Each is_digit ds → length ds ≤ count_by is_digit ds
each_count [] h = omega arith
each_count (d ∷ ds) h =
    let rest = each_count ds h.1 in
    let value : Bool → ℕ = λ b. cond b 1 0 in
    let one : value (is_digit d) ≡ 1 = ap value h.0 in
    let more : count_by is_digit (d ∷ ds) ≡ cond (is_digit d) 1 0 + count_by is_digit ds = cons_count d ds in
    omega (arith, one, more)

digits_count : (ds : List ℕ) → IsDigits ds → length ds ≤ count_by is_digit ds
digits_count [] h = absurd h
digits_count (d ∷ ds) h = each_count (d ∷ ds) h

int_count : (v : List ℕ) → IsInt v → length v ≤ count_by is_digit v + 1
int_count [] h = absurd h
int_count (b ∷ bs) (inl h) = let all = each_count (b ∷ bs) h in omega arith
int_count (b ∷ bs) (inr h) = let rest = digits_count bs h.1 in let more = no_fewer b bs in omega arith

exponent_count : (v : List ℕ) → IsExponent v → length v ≤ count_by is_digit v + 2
exponent_count [] h = omega arith
exponent_count (b ∷ bs) h = let rest = int_count bs h.1 in let more = no_fewer b bs in omega arith

real_count : (v : List ℕ) → IsReal v → length v ≤ count_by is_digit v + 4
real_count v h =
    let tail : List ℕ = h.fraction ++ h.exponent in
    let long : length v ≡ length h.whole + (1 + length tail) = ap length h.parts ∙ length-append h.whole (46 ∷ tail) ∙ omega arith in
    let inner : length tail ≡ length h.fraction + length h.exponent = length-append h.fraction h.exponent in
    let count : count_by is_digit v ≡ count_by is_digit h.whole + count_by is_digit (46 ∷ tail)
    = ap (count_by is_digit) h.parts ∙ sum_by-append (λ (x : ℕ). cond (is_digit x) 1 0) h.whole (46 ∷ tail) in
    let inner_count : count_by is_digit tail ≡ count_by is_digit h.fraction + count_by is_digit h.exponent
    = sum_by-append (λ (x : ℕ). cond (is_digit x) 1 0) h.fraction h.exponent in
    let point = no_fewer 46 tail in
    let a = int_count h.whole h.is_whole in
    let b = each_count h.fraction h.is_fraction in
    let e = exponent_count h.exponent h.is_exponent in
    omega arith

number_short : (kind : TokenKind) (text : List ℕ) → (kind ≡ Int) ⊎ (kind ≡ Real) → Spells kind text → length text ≤ 42
number_short kind text (inl e) h = let s : Spells Int text = subst (λ (k : TokenKind). Spells k text) e h in let c = int_count text s.0 in omega (arith, s.1)
number_short kind text (inr e) h = let s : Spells Real text = subst (λ (k : TokenKind). Spells k text) e h in let c = real_count text s.0 in omega (arith, s.1)

-- ---- what some token has is so spelled, and the other way round

good : (k : TokenKind) (text : List ℕ) → Spells k text → IsWellSpelled (symbol k text)
good Word text h = good_word text (has_hyphen text) refl h
good UserWord text h = inr h
good Name text h = (h.3, h.4)
good Int text h = h
good Real text h = h
good Text text h = between 39 IsInside text h
good Enumeration text h = between 46 (IsKeyword is_plain) text h
good Binary text h = between 34 (Each is_hex) text h
good Open text h = tt
good Close text h = tt
good Comma text h = tt
good Semicolon text h = tt
good Equals text h = tt
good Dollar text h = refl
good Star text h = refl

pub well_spelled : (s : Symbol) → IsSymbol s → IsWellSpelled s
well_spelled s x = subst IsWellSpelled x.3 (good x.0 x.1 x.2)

plain_keyword : (w : List ℕ) → IsKeyword is_plain w → IsSymbol (keyword w)
plain_keyword [] h = absurd h
plain_keyword (b ∷ bs) h =
    let plain : Each is_plain (b ∷ bs) = (upper_plain b h.0, h.1) in
    (Word, b ∷ bs, (h.0, each_word bs h.1), ap (λ (x : Bool). cond x (dashed (b ∷ bs)) (keyword (b ∷ bs))) (none_hyphen (b ∷ bs) plain))

pub some_token : (s : Symbol) → IsWellSpelled s → IsSymbol s
some_token (value Int v) h = (Int, v, h, refl)
some_token (value Real v) h = (Real, v, h, refl)
some_token (value Text v) h = (Text, 39 ∷ (v ++ 39 ∷ []), (v, refl, h), ap (value Text) (inside_marks 39 v))
some_token (value Enumeration v) h = (Enumeration, 46 ∷ (v ++ 46 ∷ []), (v, refl, h), ap (value Enumeration) (inside_marks 46 v))
some_token (value Binary v) h = (Binary, 34 ∷ (v ++ 34 ∷ []), (v, refl, h), ap (value Binary) (inside_marks 34 v))
some_token (value Dollar v) h = (Dollar, 36 ∷ [], refl, ap (value Dollar) (sym h))
some_token (value Star v) h = (Star, 42 ∷ [], refl, ap (value Star) (sym h))
some_token (value Word v) h = absurd h
some_token (value UserWord v) h = absurd h
some_token (value Name v) h = absurd h
some_token (value Open v) h = absurd h
some_token (value Close v) h = absurd h
some_token (value Comma v) h = absurd h
some_token (value Semicolon v) h = absurd h
some_token (value Equals v) h = absurd h
some_token (name n) h = name_real n h.0 h.1
some_token (keyword w) (inl h) = plain_keyword w h
some_token (keyword w) (inr h) = (UserWord, w, h, refl)
some_token (dashed w) h = (Word, w, h.0, ap (λ (x : Bool). cond x (dashed w) (keyword w)) h.1)
some_token opening h = (Open, 40 ∷ [], refl, refl)
some_token closing h = (Close, 41 ∷ [], refl, refl)
some_token comma h = (Comma, 44 ∷ [], refl, refl)
some_token semicolon h = (Semicolon, 59 ∷ [], refl, refl)
some_token equals h = (Equals, 61 ∷ [], refl, refl)

-- ---- what the program asks

pub spelled_iff : (s : Symbol) → IsSymbol s ↔ IsWellSpelled s
spelled_iff s = (well_spelled s, some_token s)

number_iff : (kind : TokenKind) (text : List ℕ) → (kind ≡ Int) ⊎ (kind ≡ Real) → IsSymbol (value kind text) ↔ Spells kind text
number_iff kind text (inl e) = subst (λ (k : TokenKind). IsSymbol (value k text) ↔ Spells k text) (sym e) (spelled_iff (value Int text))
number_iff kind text (inr e) = subst (λ (k : TokenKind). IsSymbol (value k text) ↔ Spells k text) (sym e) (spelled_iff (value Real text))

pub number_told : (kind : TokenKind) (text : List ℕ) (r : Bool) → (kind ≡ Int) ⊎ (kind ≡ Real) → IsTrue r ↔ Spells kind text → IsTrue r ↔ IsSymbol (value kind text)
number_told kind text r k h = let iff = number_iff kind text k in (λ t. iff.1 (h.0 t), λ s. h.1 (iff.0 s))

pub number_too_long : (kind : TokenKind) (text : List ℕ) → (kind ≡ Int) ⊎ (kind ≡ Real) → 42 < length text → IsSymbol (value kind text) → ⊥
number_too_long kind text k lt s = let short = number_short kind text k ((number_iff kind text k).0 s) in absurd (omega arith)

pub told_same : (s : Symbol) (r : Bool) → IsTrue r ↔ IsWellSpelled s → IsTrue r ↔ IsSymbol s
told_same s r h = (λ t. some_token s (h.0 t), λ x. h.1 (well_spelled s x))

-- a user's keyword begins with its mark, and a word with a letter
pub user_told : (word : List ℕ) (r : Bool) → IsTrue r ↔ IsKeyword is_plain word → IsTrue r ↔ IsSymbol (keyword (33 ∷ word))
user_told word r h = (λ t. some_token (keyword (33 ∷ word)) (inr (word, refl, h.0 t)), λ x. h.1 (by (well_spelled (keyword (33 ∷ word)) x)))
  where
    by : IsWellSpelled (keyword (33 ∷ word)) → IsKeyword is_plain word
    by (inl k) = let no : false ≡ true = k.0 in absurd cc
    by (inr k) = let same : k.0 ≡ word = let e : 33 ∷ word ≡ 33 ∷ k.0 = k.1 in cc in subst (IsKeyword is_plain) same k.2

pub word_told : (text : List ℕ) (r : Bool) → ((word : List ℕ) → text ≡ 33 ∷ word → ⊥) → IsTrue r ↔ IsKeyword is_plain text → IsTrue r ↔ IsSymbol (keyword text)
word_told text r other h = (λ t. some_token (keyword text) (inl (h.0 t)), λ x. h.1 (by (well_spelled (keyword text) x)))
  where
    by : IsWellSpelled (keyword text) → IsKeyword is_plain text
    by (inl k) = k
    by (inr k) = absurd (other k.0 k.1)

-- ---- by the bytes at the front

pub marked_told : (text : List ℕ) (r : Bool) → 1 ≤ length text → get_or text 0 0 ≡ 33 → IsTrue r ↔ IsKeyword is_plain (take (length text - 1) (drop 1 text)) → IsTrue r ↔ IsSymbol (keyword text)
marked_told [] r some first h = absurd (omega arith)
marked_told (b ∷ bs) r some first h =
    let all : take (length (b ∷ bs) - 1) bs ≡ bs = take_all (length (b ∷ bs) - 1) bs (omega arith) in
    subst (λ (c : ℕ). IsTrue r ↔ IsSymbol (keyword (c ∷ bs))) (sym first) (user_told bs r (subst (λ (w : List ℕ). IsTrue r ↔ IsKeyword is_plain w) all h))

pub unmarked_told : (text : List ℕ) (r : Bool) → 1 ≤ length text → (get_or text 0 0 ≡ 33 → ⊥) → IsTrue r ↔ IsKeyword is_plain text → IsTrue r ↔ IsSymbol (keyword text)
unmarked_told text r some other h = word_told text r (λ word e. other (ap (λ (bs : List ℕ). get_or bs 0 0) e)) h

pub name_told : (n : ℕ) → 1 ≤ n → IsTrue (nat_le n 2147483647) ↔ IsSymbol (name n)
name_told n low = (λ t. some_token (name n) (low, above t), λ x. below ((well_spelled (name n) x).1))
  where
    above : nat_le n 2147483647 ≡ true → n ≤ 2147483647
    above t = grind (arith, nat_tests)

    below : n ≤ 2147483647 → nat_le n 2147483647 ≡ true
    below h = grind (arith, nat_tests)

pub text_empty : (bytes rest : List ℕ) → length rest < 1 → IsInside bytes ↔ IsInside rest → IsTrue true ↔ IsSymbol (value Text bytes)
text_empty bytes [] none h = (λ t. some_token (value Text bytes) (h.1 tt), λ x. refl)
text_empty bytes (b ∷ rest) none h = absurd (omega arith)
