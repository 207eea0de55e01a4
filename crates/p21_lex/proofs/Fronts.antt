-- The front of a text: what is found there has the form of its kind, and what has the form is found there.
use Rattle.std.proofs.Common.{◌≡◌, ℕ, suc, ◌+◌, ◌<◌, ◌≤◌, Bool, true, false, cond, eqb, leb, ◌||◌, ◌&&◌, List, [], ◌∷◌, ◌++◌, length, take, drop, get_or, Option, Some, None, Result, Ok, Err, refl, sym, ap, subst, ◌∙◌, ◌⊎◌, inl, inr, arith}
use Rattle.std.specs.List.{prefix_len}
use Rattle.std.specs.Str.Parse.{digits_value}
use Rattle.std.proofs.lemmas.Bool.{eqb-true, eqb-false, leb-true, and_parts, cases_lt}
use Rattle.std.proofs.lemmas.List.{take_more, get_or_past}
use Rattle.p21_lex.specs.declared.error.LexErr.{LexErr}
use Rattle.p21_lex.specs.declared.error.LexErr.TheVariants.{BadByte, BadName, OpenString, OpenComment}
use Rattle.p21_lex.specs.declared.token.TokenKind.{TokenKind}
use Rattle.p21_lex.specs.declared.token.TokenKind.TheVariants as kinds
use Rattle.p21_lex.specs.declared.piece.Piece.{Piece}
use Rattle.p21_lex.specs.declared.piece.Piece.TheVariants.{Gap, Spelling}
use Rattle.p21_lex.specs.declared.scan.Unclosed.{Unclosed}
use Rattle.p21_lex.specs.declared.scan.Unclosed.TheVariants.{Cut, Bad}
use Rattle.p21_lex.specs.Class.{is_digit, is_sign, is_upper, is_plain, is_word, is_blank}
use Rattle.p21_lex.specs.Number.{digits_len}
use Rattle.p21_lex.specs.Scan.{text_end, binary_end, comment_end}
use Rattle.p21_lex.specs.Front.{number, name, user_word, enumeration, closed, commented, comment, mark, marked, front}
use Rattle.p21_lex.specs.Reading.{Spells, Stops}
use Rattle.p21_lex.proofs.Runs.{one_more, run_is, run_ends, run_within}
use Rattle.p21_lex.proofs.Texts.{text_closes, binary_closes, comment_closes}
use Rattle.p21_lex.proofs.Numbers.{digits_found, answered, refused, answer_is, refused_not, TokenFound, GapFound, Found, number_found}

-- which of two answers a test chose
pub chosen : (t : Bool) (x y r : Result Piece LexErr) (P : Type 0) → cond t x y ≡ r → (t ≡ true → x ≡ r → P) → (t ≡ false → y ≡ r → P) → P
chosen true x y r P e yes_is no_is = yes_is refl e
chosen false x y r P e yes_is no_is = no_is refl e

-- a token of a byte and n more
found_at : (kind : TokenKind) (b : ℕ) (bs : List ℕ) (n : ℕ) (piece : Piece) → Spells kind (b ∷ take n bs) → Stops kind (b ∷ take n bs) (drop n bs) → n ≤ length bs
    → answered (Spelling kind (1 + n)) ≡ answered piece → Found (b ∷ bs) piece
found_at kind b bs n piece spelled stopped within e =
    let here : TokenFound kind (b ∷ bs) (1 + n) = rw one_more (record { spelled = spelled; stopped = stopped; within = omega arith }) in
    subst (λ (p : Piece). Found (b ∷ bs) p) (answer_is (Spelling kind (1 + n)) piece e) here

-- ---- words

word_found : (b : ℕ) (bs : List ℕ) (piece : Piece) → is_upper b ≡ true → answered (Spelling kinds.Word (1 + prefix_len is_word bs)) ≡ answered piece → Found (b ∷ bs) piece
word_found b bs piece upper e = found_at kinds.Word b bs (prefix_len is_word bs) piece (upper, run_is is_word bs) (run_ends is_word bs) (run_within is_word bs) e

user_word_found : (at : ℕ) (bs : List ℕ) (piece : Piece) → user_word at bs ≡ answered piece → Found (33 ∷ bs) piece
unfolding user_word
user_word_found at [] piece e = absurd (refused_not (BadByte at) piece e)
user_word_found at (b ∷ bs) piece e =
    let n = prefix_len is_plain bs in
    chosen (is_upper b) (answered (Spelling kinds.UserWord (2 + n))) (refused (BadByte at)) (answered piece) (Found (33 ∷ b ∷ bs) piece) e
    (λ upper is.
    let len : 2 + n ≡ 1 + suc n = omega arith in
    found_at kinds.UserWord 33 (b ∷ bs) (suc n) piece (b ∷ take n bs, refl, (upper, run_is is_plain bs)) (run_ends is_plain bs) (omega (arith, run_within is_plain bs)) (ap (λ (k : ℕ). answered (Spelling kinds.UserWord k)) (sym len) ∙ is))
    (λ lower is. absurd (refused_not (BadByte at) piece is))

-- ---- names

in_range : (v : ℕ) → (leb 1 v && leb v 2147483647) ≡ true → (1 ≤ v) × (v ≤ 2147483647)
in_range v h = let p = and_parts (leb 1 v) (leb v 2147483647) h in (leb-true 1 v p.0, leb-true v 2147483647 p.1)

name_found : (at : ℕ) (bs : List ℕ) (piece : Piece) → name at bs ≡ answered piece → Found (35 ∷ bs) piece
unfolding name
name_found at bs piece e =
    let n = digits_len bs in
    let v = digits_value 10 (take n bs) in
    chosen (eqb n 0) (refused (BadByte at)) (cond (leb 1 v && leb v 2147483647) (answered (Spelling kinds.Name (1 + n))) (refused (BadName at))) (answered piece) (Found (35 ∷ bs) piece) e
    (λ none is. absurd (refused_not (BadByte at) piece is))
    (λ some is. chosen (leb 1 v && leb v 2147483647) (answered (Spelling kinds.Name (1 + n))) (refused (BadName at)) (answered piece) (Found (35 ∷ bs) piece) is
    (λ good has.
    let range = in_range v good in
    found_at kinds.Name 35 bs n piece (take n bs, refl, digits_found bs (eqb-false n 0 some), range.0, range.1) (run_ends is_digit bs) (run_within is_digit bs) has)
    (λ bad has. absurd (refused_not (BadName at) piece has)))

-- ---- enumerations

pub point_within : (bs : List ℕ) (n : ℕ) → eqb (get_or bs n 0) 46 ≡ true → n < length bs
point_within bs n h = by_place (cases_lt n (length bs))
  where
    past : length bs ≤ n → ⊥
    past le = let zero_there : get_or bs n 0 ≡ 0 = get_or_past bs n 0 le in let point : get_or bs n 0 ≡ 46 = eqb-true (get_or bs n 0) 46 h in omega arith

    by_place : (n < length bs) ⊎ (length bs ≤ n) → n < length bs
    by_place (inl lt) = lt
    by_place (inr le) = absurd (past le)

enumeration_found : (at : ℕ) (bs : List ℕ) (piece : Piece) → enumeration at bs ≡ answered piece → Found (46 ∷ bs) piece
unfolding enumeration
enumeration_found at [] piece e = absurd (refused_not (BadByte at) piece e)
enumeration_found at (b ∷ bs) piece e =
    let n = prefix_len is_plain bs in
    let test = is_upper b && eqb (get_or bs n 0) 46 in
    chosen test (answered (Spelling kinds.Enumeration (3 + n))) (refused (BadByte at)) (answered piece) (Found (46 ∷ b ∷ bs) piece) e
    (λ passed is.
    let p = and_parts (is_upper b) (eqb (get_or bs n 0) 46) passed in
    let lt : n < length bs = point_within bs n p.1 in
    let one : n + 1 ≡ suc n = omega arith in
    let point : get_or bs n 0 ≡ 46 = eqb-true (get_or bs n 0) 46 p.1 in
    let parts : take (suc n) bs ≡ take n bs ++ 46 ∷ [] = rw (← one, ← point) (take_more bs n 0 lt) in
    let len : 3 + n ≡ 1 + suc (suc n) = omega arith in
    found_at kinds.Enumeration 46 (b ∷ bs) (suc (suc n)) piece (b ∷ take n bs, ap (λ (ys : List ℕ). 46 ∷ b ∷ ys) parts, (p.0, run_is is_plain bs)) tt (omega arith) (ap (λ (k : ℕ). answered (Spelling kinds.Enumeration k)) (sym len) ∙ is))
    (λ failed is. absurd (refused_not (BadByte at) piece is))

-- ---- texts and binaries

text_found : (at : ℕ) (bs : List ℕ) (piece : Piece) (r : Result ℕ Unclosed) → text_end bs ≡ r → closed kinds.Text at r ≡ answered piece → Found (39 ∷ bs) piece
text_found at bs piece (Ok n) has e =
    let c = text_closes bs n has in
    found_at kinds.Text 39 bs n piece (c.0.inside, ap (λ (ys : List ℕ). 39 ∷ ys) c.0.parts, c.0.passes) c.1 c.0.within e
text_found at bs piece (Err Cut) has e = absurd (refused_not (OpenString at) piece e)
text_found at bs piece (Err (Bad k)) has e = absurd (refused_not (BadByte (at + 1 + k)) piece e)

binary_found : (at : ℕ) (bs : List ℕ) (piece : Piece) (r : Result ℕ Unclosed) → binary_end bs ≡ r → closed kinds.Binary at r ≡ answered piece → Found (34 ∷ bs) piece
binary_found at bs piece (Ok n) has e =
    let c = binary_closes bs n has in
    found_at kinds.Binary 34 bs n piece (c.inside, ap (λ (ys : List ℕ). 34 ∷ ys) c.parts, c.passes) tt c.within e
binary_found at bs piece (Err Cut) has e = absurd (refused_not (OpenString at) piece e)
binary_found at bs piece (Err (Bad k)) has e = absurd (refused_not (BadByte (at + 1 + k)) piece e)

-- ---- gaps

gap_at : (bytes : List ℕ) (n : ℕ) (piece : Piece) → GapFound bytes n → answered (Gap n) ≡ answered piece → Found bytes piece
gap_at bytes n piece here e = subst (λ (p : Piece). Found bytes p) (answer_is (Gap n) piece e) here

blank_found : (b : ℕ) (bs : List ℕ) (piece : Piece) → is_blank b ≡ true → answered (Gap 1) ≡ answered piece → Found (b ∷ bs) piece
blank_found b bs piece blank e = gap_at (b ∷ bs) 1 piece (record { gap = inl (b, refl, blank); within = omega arith; filled = omega arith }) e

commented_found : (at : ℕ) (bs : List ℕ) (piece : Piece) (r : Result ℕ Unclosed) → comment_end bs ≡ r → commented at r ≡ answered piece → Found (47 ∷ 42 ∷ bs) piece
commented_found at bs piece (Ok n) has e =
    let c = comment_closes bs n has in
    let len : 2 + n ≡ suc (suc n) = omega arith in
    let here : GapFound (47 ∷ 42 ∷ bs) (2 + n) = rw len (record {
      gap = inr (c.inside, ap (λ (ys : List ℕ). 47 ∷ 42 ∷ ys) c.parts, c.passes);
      within = omega (arith, c.within);
      filled = omega arith;
    }) in
    gap_at (47 ∷ 42 ∷ bs) (2 + n) piece here e
commented_found at bs piece (Err Cut) has e = absurd (refused_not (OpenComment at) piece e)
commented_found at bs piece (Err (Bad k)) has e = absurd (refused_not (BadByte (at + 2 + k)) piece e)

comment_found : (at : ℕ) (bs : List ℕ) (piece : Piece) → comment at bs ≡ answered piece → Found (47 ∷ bs) piece
unfolding comment
comment_found at [] piece e = absurd (refused_not (BadByte at) piece e)
comment_found at (b ∷ bs) piece e =
    chosen (eqb b 42) (commented at (comment_end bs)) (refused (BadByte at)) (answered piece) (Found (47 ∷ b ∷ bs) piece) e
    (λ star is. subst (λ (x : ℕ). Found (47 ∷ x ∷ bs) piece) (sym (eqb-true b 42 star)) (commented_found at bs piece (comment_end bs) refl is))
    (λ other is. absurd (refused_not (BadByte at) piece is))

-- ---- marks

-- a mark spells its kind, whatever follows
abbrev IsMark : TokenKind → ℕ → Type 0
IsMark kind b = Spells kind (b ∷ []) × ((rest : List ℕ) → Stops kind (b ∷ []) rest)

abbrev some_kind : TokenKind → Option TokenKind
some_kind k = Some k

abbrev no_kind : Option TokenKind
no_kind = None

kind_chosen : (t : Bool) (k kind : TokenKind) (y : Option TokenKind) (P : Type 0) → cond t (Some k) y ≡ some_kind kind → (t ≡ true → k ≡ kind → P) → (y ≡ some_kind kind → P) → P
kind_chosen true k kind y P e yes_is no_is = yes_is refl (same k kind e)
  where
    same : (k l : TokenKind) → some_kind k ≡ some_kind l → k ≡ l
    same k l e = cc
kind_chosen false k kind y P e yes_is no_is = no_is e

mark_of : (byte : ℕ) (k kind : TokenKind) (b : ℕ) → IsMark k byte → eqb b byte ≡ true → k ≡ kind → IsMark kind b
mark_of byte k kind b here is same = subst (λ (x : TokenKind). IsMark x b) same (subst (λ (x : ℕ). IsMark k x) (sym (eqb-true b byte is)) here)

mark_is : (b : ℕ) (kind : TokenKind) → mark b ≡ some_kind kind → IsMark kind b
unfolding mark
mark_is b kind e =
    kind_chosen (eqb b 40) kinds.Open kind _ (IsMark kind b) e (mark_of 40 kinds.Open kind b (refl, λ _. tt)) (λ e.
    kind_chosen (eqb b 41) kinds.Close kind _ (IsMark kind b) e (mark_of 41 kinds.Close kind b (refl, λ _. tt)) (λ e.
    kind_chosen (eqb b 44) kinds.Comma kind _ (IsMark kind b) e (mark_of 44 kinds.Comma kind b (refl, λ _. tt)) (λ e.
    kind_chosen (eqb b 59) kinds.Semicolon kind _ (IsMark kind b) e (mark_of 59 kinds.Semicolon kind b (refl, λ _. tt)) (λ e.
    kind_chosen (eqb b 61) kinds.Equals kind _ (IsMark kind b) e (mark_of 61 kinds.Equals kind b (refl, λ _. tt)) (λ e.
    kind_chosen (eqb b 36) kinds.Dollar kind _ (IsMark kind b) e (mark_of 36 kinds.Dollar kind b (refl, λ _. tt)) (λ e.
    kind_chosen (eqb b 42) kinds.Star kind _ (IsMark kind b) e (mark_of 42 kinds.Star kind b (refl, λ _. tt)) (λ e. absurd (none_some e))))))))
  where
    none_some : no_kind ≡ some_kind kind → ⊥
    none_some e = cc

marked_found : (at b : ℕ) (bs : List ℕ) (piece : Piece) (m : Option TokenKind) → mark b ≡ m → marked at m ≡ answered piece → Found (b ∷ bs) piece
marked_found at b bs piece (Some kind) has e =
    let here = mark_is b kind has in
    found_at kind b bs 0 piece here.0 (here.1 bs) (omega arith) e
marked_found at b bs piece None has e = absurd (refused_not (BadByte at) piece e)

-- ---- the front

at_byte : (byte b : ℕ) (bs : List ℕ) (piece : Piece) → eqb b byte ≡ true → Found (byte ∷ bs) piece → Found (b ∷ bs) piece
at_byte byte b bs piece is here = subst (λ (x : ℕ). Found (x ∷ bs) piece) (sym (eqb-true b byte is)) here

pub front_found : (at b : ℕ) (bs : List ℕ) (piece : Piece) → front at (b ∷ bs) ≡ answered piece → Found (b ∷ bs) piece
unfolding front
front_found at b bs piece e =
    let P : Type 0 = Found (b ∷ bs) piece in
    chosen (is_blank b) (answered (Gap 1)) _ (answered piece) P e (blank_found b bs piece) (λ _ e.
    chosen (is_upper b) (answered (Spelling kinds.Word (1 + prefix_len is_word bs))) _ (answered piece) P e (word_found b bs piece) (λ _ e.
    chosen (is_sign b || is_digit b) (number at (b ∷ bs)) _ (answered piece) P e (λ _ e. number_found at (b ∷ bs) piece e) (λ _ e.
    chosen (eqb b 33) (user_word at bs) _ (answered piece) P e (λ is e. at_byte 33 b bs piece is (user_word_found at bs piece e)) (λ _ e.
    chosen (eqb b 35) (name at bs) _ (answered piece) P e (λ is e. at_byte 35 b bs piece is (name_found at bs piece e)) (λ _ e.
    chosen (eqb b 39) (closed kinds.Text at (text_end bs)) _ (answered piece) P e (λ is e. at_byte 39 b bs piece is (text_found at bs piece (text_end bs) refl e)) (λ _ e.
    chosen (eqb b 46) (enumeration at bs) _ (answered piece) P e (λ is e. at_byte 46 b bs piece is (enumeration_found at bs piece e)) (λ _ e.
    chosen (eqb b 34) (closed kinds.Binary at (binary_end bs)) _ (answered piece) P e (λ is e. at_byte 34 b bs piece is (binary_found at bs piece (binary_end bs) refl e)) (λ _ e.
    chosen (eqb b 47) (comment at bs) _ (answered piece) P e (λ is e. at_byte 47 b bs piece is (comment_found at bs piece e)) (λ _ e.
    marked_found at b bs piece (mark b) refl e)))))))))
