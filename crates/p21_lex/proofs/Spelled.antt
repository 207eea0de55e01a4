-- What has the form of a kind, and doesn't go on, is found at the front of a text.
use Rattle.std.proofs.Common.{◌≡◌, ℕ, suc, ◌+◌, ◌≤◌, true, false, eqb, leb, ◌||◌, List, [], ◌∷◌, ◌++◌, length, take, get_or, refl, sym, ap, subst, ◌∙◌, inl, inr, append_assoc, arith}
use Rattle.std.specs.List.{prefix_len}
use Rattle.std.specs.Str.Parse.{digits_value}
use Rattle.std.proofs.lemmas.Bool.{ne_eqb, le-leb}
use Rattle.std.proofs.lemmas.Bool.Decides.{nat_tests}
use Rattle.std.proofs.lemmas.List.{take_at, length-append, get_or_at}
use Rattle.p21_lex.specs.declared.token.TokenKind.{TokenKind}
use Rattle.p21_lex.specs.declared.token.TokenKind.TheVariants.{Word, UserWord, Name, Int, Real, Text, Enumeration, Binary, Open, Close, Comma, Semicolon, Equals, Dollar, Star}
use Rattle.p21_lex.specs.declared.piece.Piece.TheVariants.{Gap, Spelling}
use Rattle.p21_lex.specs.Class.{is_digit, is_sign, is_upper, is_plain, is_word, is_hex, is_blank, Each, NotFirst}
use Rattle.p21_lex.specs.Number.{digits_len, name_value}
use Rattle.p21_lex.specs.Scan.{text_end, binary_end, comment_end}
use Rattle.p21_lex.specs.Front.{number, name, user_word, enumeration, closed, commented, comment, mark, front}
use Rattle.p21_lex.specs.Reading.{IsKeyword, IsDigits, IsInt, IsReal, IsInside, IsComment, IsGap, Spells, Stops}
use Rattle.p21_lex.proofs.Runs.{one_more, runs}
use Rattle.p21_lex.proofs.Texts.{text_again, binary_again, comment_again}
use Rattle.p21_lex.proofs.Numbers.{digits_each, answered, int_number, real_number}

-- the front is this token
abbrev pub IsFront : TokenKind → List ℕ → List ℕ → Type 0
IsFront kind text rest = (at : ℕ) → front at (text ++ rest) ≡ answered (Spelling kind (length text))

-- ---- words

front_upper : (at b : ℕ) (bs : List ℕ) → is_upper b ≡ true → front at (b ∷ bs) ≡ answered (Spelling Word (1 + prefix_len is_word bs))
unfolding front
front_upper at b bs upper = let solid : is_blank b ≡ false = grind (arith, nat_tests) in rw (solid, upper) refl

word_again : (text rest : List ℕ) → Spells Word text → Stops Word text rest → IsFront Word text rest
word_again [] rest spelled stopped at = absurd spelled
word_again (b ∷ bs) rest spelled stopped at =
    front_upper at b (bs ++ rest) spelled.0 ∙ ap (λ (n : ℕ). answered (Spelling Word (1 + n))) (runs is_word bs rest spelled.1 stopped) ∙ ap (λ (n : ℕ). answered (Spelling Word n)) (one_more (length bs))

pub front_user : (at : ℕ) (bs : List ℕ) → front at (33 ∷ bs) ≡ user_word at bs
unfolding front
front_user at bs = refl

user_word_at : (at b : ℕ) (bs : List ℕ) → is_upper b ≡ true → user_word at (b ∷ bs) ≡ answered (Spelling UserWord (2 + prefix_len is_plain bs))
unfolding user_word
user_word_at at b bs upper = rw upper refl

user_word_again : (word rest : List ℕ) → IsKeyword is_plain word → NotFirst is_plain rest → IsFront UserWord (33 ∷ word) rest
user_word_again [] rest h stop at = absurd h
user_word_again (b ∷ bs) rest h stop at =
    let len : 2 + length bs ≡ suc (suc (length bs)) = omega arith in
    front_user at (b ∷ (bs ++ rest)) ∙ user_word_at at b (bs ++ rest) h.0 ∙ ap (λ (n : ℕ). answered (Spelling UserWord (2 + n))) (runs is_plain bs rest h.1 stop) ∙ ap (λ (n : ℕ). answered (Spelling UserWord n)) len

-- ---- names

pub front_name : (at : ℕ) (bs : List ℕ) → front at (35 ∷ bs) ≡ name at bs
unfolding front
front_name at bs = refl

pub digits_filled : (xs : List ℕ) → IsDigits xs → eqb (length xs) 0 ≡ false
digits_filled [] h = absurd h
digits_filled (x ∷ xs) h = ne_eqb (suc (length xs)) 0 (λ (e : suc (length xs) ≡ 0). omega arith)

name_from : (at : ℕ) (bytes digits : List ℕ) → digits_len bytes ≡ length digits → take (length digits) bytes ≡ digits → eqb (length digits) 0 ≡ false
    → 1 ≤ digits_value 10 digits → digits_value 10 digits ≤ 2147483647 → name at bytes ≡ answered (Spelling Name (1 + length digits))
unfolding name
name_from at bytes digits run front some low high =
    let l : leb 1 (digits_value 10 digits) ≡ true = le-leb 1 (digits_value 10 digits) low in
    let h : leb (digits_value 10 digits) 2147483647 ≡ true = le-leb (digits_value 10 digits) 2147483647 high in
    rw (run, front, some, l, h) refl

name_again : (digits rest : List ℕ) → IsDigits digits → 1 ≤ name_value (35 ∷ digits) → name_value (35 ∷ digits) ≤ 2147483647 → NotFirst is_digit rest → IsFront Name (35 ∷ digits) rest
name_again digits rest h low high stop at =
    front_name at (digits ++ rest) ∙ name_from at (digits ++ rest) digits (runs is_digit digits rest (digits_each digits h) stop) (take_at digits rest (length digits) refl) (digits_filled digits h) low high
    ∙ ap (λ (n : ℕ). answered (Spelling Name n)) (one_more (length digits))

-- ---- numbers

pub front_number : (at b : ℕ) (bs : List ℕ) → (is_sign b || is_digit b) ≡ true → front at (b ∷ bs) ≡ number at (b ∷ bs)
unfolding front
front_number at b bs begins =
    let solid : is_blank b ≡ false = grind (arith, nat_tests) in
    let lower : is_upper b ≡ false = grind (arith, nat_tests) in
    rw (solid, lower, begins) refl

pub int_begins : (xs rest : List ℕ) (at : ℕ) → IsInt xs → front at (xs ++ rest) ≡ number at (xs ++ rest)
int_begins [] rest at h = absurd h
int_begins (b ∷ bs) rest at (inl h) = front_number at b (bs ++ rest) (digit_begins b h.0)
  where
    digit_begins : (b : ℕ) → is_digit b ≡ true → (is_sign b || is_digit b) ≡ true
    digit_begins b h = grind (arith, nat_tests)
int_begins (b ∷ bs) rest at (inr h) = front_number at b (bs ++ rest) (sign_begins b h.0)
  where
    sign_begins : (b : ℕ) → is_sign b ≡ true → (is_sign b || is_digit b) ≡ true
    sign_begins b h = rw h refl

int_front : (text rest : List ℕ) → Spells Int text → Stops Int text rest → IsFront Int text rest
int_front text rest spelled stopped at = int_begins text rest at spelled.0 ∙ int_number at text rest spelled stopped

pub real_begins : (text rest : List ℕ) (at : ℕ) → IsReal text → front at (text ++ rest) ≡ number at (text ++ rest)
real_begins text rest at r =
    let tail : List ℕ = 46 ∷ (r.fraction ++ r.exponent) in
    let regrouped : text ++ rest ≡ r.whole ++ (tail ++ rest) = ap (λ (t : List ℕ). t ++ rest) r.parts ∙ append_assoc r.whole tail rest in
    ap (front at) regrouped ∙ int_begins r.whole (tail ++ rest) at r.is_whole ∙ sym (ap (number at) regrouped)

real_front : (text rest : List ℕ) → Spells Real text → Stops Real text rest → IsFront Real text rest
real_front text rest spelled stopped at = real_begins text rest at spelled.0 ∙ real_number at text rest spelled stopped

-- ---- what is closed

regroup_mark : (inside rest : List ℕ) (byte : ℕ) → (inside ++ byte ∷ []) ++ rest ≡ inside ++ byte ∷ rest
regroup_mark inside rest byte = append_assoc inside (byte ∷ []) rest

length_mark : (inside : List ℕ) (byte : ℕ) → suc (length inside) ≡ length (inside ++ byte ∷ [])
length_mark inside byte = omega (arith, length-append inside (byte ∷ []))

pub front_text : (at : ℕ) (bs : List ℕ) → front at (39 ∷ bs) ≡ closed Text at (text_end bs)
unfolding front
front_text at bs = refl

text_front : (inside rest : List ℕ) → IsInside inside → NotFirst (λ b. eqb b 39) rest → IsFront Text (39 ∷ (inside ++ 39 ∷ [])) rest
text_front inside rest h stop at =
    front_text at ((inside ++ 39 ∷ []) ++ rest) ∙ ap (λ (t : List ℕ). closed Text at (text_end t)) (regroup_mark inside rest 39) ∙ ap (closed Text at) (text_again inside rest h stop)
    ∙ ap (λ (n : ℕ). answered (Spelling Text n)) (one_more (suc (length inside)) ∙ ap suc (length_mark inside 39))

pub front_binary : (at : ℕ) (bs : List ℕ) → front at (34 ∷ bs) ≡ closed Binary at (binary_end bs)
unfolding front
front_binary at bs = refl

binary_front : (inside rest : List ℕ) → Each is_hex inside → IsFront Binary (34 ∷ (inside ++ 34 ∷ [])) rest
binary_front inside rest h at =
    front_binary at ((inside ++ 34 ∷ []) ++ rest) ∙ ap (λ (t : List ℕ). closed Binary at (binary_end t)) (regroup_mark inside rest 34) ∙ ap (closed Binary at) (binary_again inside rest h)
    ∙ ap (λ (n : ℕ). answered (Spelling Binary n)) (one_more (suc (length inside)) ∙ ap suc (length_mark inside 34))

pub front_enumeration : (at : ℕ) (bs : List ℕ) → front at (46 ∷ bs) ≡ enumeration at bs
unfolding front
front_enumeration at bs = refl

pub enumeration_at : (at b n : ℕ) (bs : List ℕ) → is_upper b ≡ true → prefix_len is_plain bs ≡ n → get_or bs n 0 ≡ 46 → enumeration at (b ∷ bs) ≡ answered (Spelling Enumeration (3 + n))
unfolding enumeration
enumeration_at at b n bs upper run point = rw (upper, run, point) refl

enumeration_front : (inside rest : List ℕ) → IsKeyword is_plain inside → IsFront Enumeration (46 ∷ (inside ++ 46 ∷ [])) rest
enumeration_front [] rest h at = absurd h
enumeration_front (b ∷ bs) rest h at =
    let run : prefix_len is_plain (bs ++ 46 ∷ rest) ≡ length bs = runs is_plain bs (46 ∷ rest) h.1 refl in
    let len : 3 + length bs ≡ suc (suc (length (bs ++ 46 ∷ []))) = omega (arith, length_mark bs 46) in
    front_enumeration at (b ∷ ((bs ++ 46 ∷ []) ++ rest)) ∙ ap (λ (t : List ℕ). enumeration at (b ∷ t)) (regroup_mark bs rest 46)
    ∙ enumeration_at at b (length bs) (bs ++ 46 ∷ rest) h.0 run (get_or_at bs 46 rest 0 (length bs) refl) ∙ ap (λ (n : ℕ). answered (Spelling Enumeration n)) len

-- ---- marks

front_open : (at : ℕ) (bs : List ℕ) → front at (40 ∷ bs) ≡ answered (Spelling Open 1)
unfolding front mark
front_open at bs = refl

front_close : (at : ℕ) (bs : List ℕ) → front at (41 ∷ bs) ≡ answered (Spelling Close 1)
unfolding front mark
front_close at bs = refl

front_comma : (at : ℕ) (bs : List ℕ) → front at (44 ∷ bs) ≡ answered (Spelling Comma 1)
unfolding front mark
front_comma at bs = refl

front_semicolon : (at : ℕ) (bs : List ℕ) → front at (59 ∷ bs) ≡ answered (Spelling Semicolon 1)
unfolding front mark
front_semicolon at bs = refl

front_equals : (at : ℕ) (bs : List ℕ) → front at (61 ∷ bs) ≡ answered (Spelling Equals 1)
unfolding front mark
front_equals at bs = refl

front_dollar : (at : ℕ) (bs : List ℕ) → front at (36 ∷ bs) ≡ answered (Spelling Dollar 1)
unfolding front mark
front_dollar at bs = refl

front_star : (at : ℕ) (bs : List ℕ) → front at (42 ∷ bs) ≡ answered (Spelling Star 1)
unfolding front mark
front_star at bs = refl

mark_front : (kind : TokenKind) (text rest : List ℕ) (byte : ℕ) → text ≡ byte ∷ [] → ((at : ℕ) (bs : List ℕ) → front at (byte ∷ bs) ≡ answered (Spelling kind 1)) → IsFront kind text rest
mark_front kind text rest byte is here at = subst (λ (t : List ℕ). front at (t ++ rest) ≡ answered (Spelling kind (length t))) (sym is) (here at rest)

-- ---- every kind

-- the same of an equal text
at_text : (kind : TokenKind) (text other rest : List ℕ) → text ≡ other → IsFront kind other rest → IsFront kind text rest
at_text kind text other rest is here = subst (λ (t : List ℕ). IsFront kind t rest) (sym is) here

pub spelled_front : (kind : TokenKind) (text rest : List ℕ) → Spells kind text → Stops kind text rest → IsFront kind text rest
spelled_front Word text rest h stop = word_again text rest h stop
spelled_front UserWord text rest h stop = at_text UserWord text (33 ∷ h.0) rest h.1 (user_word_again h.0 rest h.2 stop)
spelled_front Name text rest h stop =
    let low : 1 ≤ name_value (35 ∷ h.0) = subst (λ (t : List ℕ). 1 ≤ name_value t) h.1 h.3 in
    let high : name_value (35 ∷ h.0) ≤ 2147483647 = subst (λ (t : List ℕ). name_value t ≤ 2147483647) h.1 h.4 in
    at_text Name text (35 ∷ h.0) rest h.1 (name_again h.0 rest h.2 low high stop)
spelled_front Int text rest h stop = int_front text rest h stop
spelled_front Real text rest h stop = real_front text rest h stop
spelled_front Text text rest h stop = at_text Text text (39 ∷ (h.0 ++ 39 ∷ [])) rest h.1 (text_front h.0 rest h.2 stop)
spelled_front Enumeration text rest h stop = at_text Enumeration text (46 ∷ (h.0 ++ 46 ∷ [])) rest h.1 (enumeration_front h.0 rest h.2)
spelled_front Binary text rest h stop = at_text Binary text (34 ∷ (h.0 ++ 34 ∷ [])) rest h.1 (binary_front h.0 rest h.2)
spelled_front Open text rest h stop = mark_front Open text rest 40 h front_open
spelled_front Close text rest h stop = mark_front Close text rest 41 h front_close
spelled_front Comma text rest h stop = mark_front Comma text rest 44 h front_comma
spelled_front Semicolon text rest h stop = mark_front Semicolon text rest 59 h front_semicolon
spelled_front Equals text rest h stop = mark_front Equals text rest 61 h front_equals
spelled_front Dollar text rest h stop = mark_front Dollar text rest 36 h front_dollar
spelled_front Star text rest h stop = mark_front Star text rest 42 h front_star

-- ---- gaps

abbrev pub IsGapFront : List ℕ → List ℕ → Type 0
IsGapFront gap rest = (at : ℕ) → front at (gap ++ rest) ≡ answered (Gap (length gap))

front_blank : (at b : ℕ) (bs : List ℕ) → is_blank b ≡ true → front at (b ∷ bs) ≡ answered (Gap 1)
unfolding front
front_blank at b bs blank = rw blank refl

pub front_comment : (at : ℕ) (bs : List ℕ) → front at (47 ∷ 42 ∷ bs) ≡ commented at (comment_end bs)
unfolding front comment
front_comment at bs = refl

comment_front : (gap rest : List ℕ) → IsComment gap → IsGapFront gap rest
comment_front gap rest h at =
    let inside = h.0 in
    let regrouped : (inside ++ 42 ∷ 47 ∷ []) ++ rest ≡ inside ++ 42 ∷ 47 ∷ rest = append_assoc inside (42 ∷ 47 ∷ []) rest in
    let len : 2 + suc (suc (length inside)) ≡ suc (suc (length (inside ++ 42 ∷ 47 ∷ []))) = omega (arith, length-append inside (42 ∷ 47 ∷ [])) in
    let here : front at ((47 ∷ 42 ∷ (inside ++ 42 ∷ 47 ∷ [])) ++ rest) ≡ answered (Gap (length (47 ∷ 42 ∷ (inside ++ 42 ∷ 47 ∷ [])))) =
    front_comment at ((inside ++ 42 ∷ 47 ∷ []) ++ rest) ∙ ap (λ (t : List ℕ). commented at (comment_end t)) regrouped ∙ ap (commented at) (comment_again inside rest h.2) ∙ ap (λ (n : ℕ). answered (Gap n)) len in
    subst (λ (t : List ℕ). front at (t ++ rest) ≡ answered (Gap (length t))) (sym h.1) here

pub gap_front : (gap rest : List ℕ) → IsGap gap → IsGapFront gap rest
gap_front gap rest (inl h) at = subst (λ (t : List ℕ). front at (t ++ rest) ≡ answered (Gap (length t))) (sym h.1) (front_blank at h.0 rest h.2)
gap_front gap rest (inr h) at = comment_front gap rest h at
