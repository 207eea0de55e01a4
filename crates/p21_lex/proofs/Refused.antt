-- The front of a text that is refused: the cause, both ways.
use Rattle.std.proofs.Common.{◌≡◌, ℕ, ◌+◌, ◌<◌, Bool, true, false, cond, eqb, leb, ◌||◌, ◌&&◌, List, [], ◌∷◌, ◌++◌, length, take, drop, get_or, Option, Some, None, Result, Ok, Err, refl, sym, ap, subst, ◌∙◌, ◌⊎◌, inl, inr, arith}
use Rattle.std.specs.Prelude.{IsTrue, count_by}
use Rattle.std.specs.List.{prefix_len}
use Rattle.std.specs.Str.Parse.{digits_value}
use Rattle.std.proofs.lemmas.Bool.{eqb-true, eqb-false, leb-false, lt-leb, and_parts, and_cases}
use Rattle.std.proofs.lemmas.Bool.Decides.{nat_tests}
use Rattle.std.proofs.lemmas.List.{take-append-drop, take_at, drop_more, get_or_at}
use Rattle.p21_lex.specs.declared.error.LexErr.{LexErr}
use Rattle.p21_lex.specs.declared.error.LexErr.TheVariants.{BadByte, BadName, OpenString, OpenComment, NumberTooLong, NoMemory}
use Rattle.p21_lex.specs.declared.token.TokenKind.{TokenKind}
use Rattle.p21_lex.specs.declared.token.TokenKind.TheVariants as kinds
use Rattle.p21_lex.specs.declared.piece.Piece.TheVariants.{Gap, Spelling}
use Rattle.p21_lex.specs.declared.scan.Unclosed.{Unclosed}
use Rattle.p21_lex.specs.declared.scan.Unclosed.TheVariants.{Cut, Bad}
use Rattle.p21_lex.specs.Class.{is_digit, is_sign, is_upper, is_plain, is_word, is_hex, is_blank, is_legal, Each, NotFirst}
use Rattle.p21_lex.specs.Number.{digits_len, int_len}
use Rattle.p21_lex.specs.Scan.{text_end, binary_end, comment_end}
use Rattle.p21_lex.specs.Front.{number, name, user_word, enumeration, closed, commented, comment, mark, marked, front}
use Rattle.p21_lex.specs.Reading.{IsKeyword, IsInside, IsCommentInside}
use Rattle.p21_lex.specs.Refusal.{may_begin, IsNothing, IsSpoilt, IsFault}
use Rattle.p21_lex.proofs.Runs.{run_is, run_ends, runs, no_run}
use Rattle.p21_lex.proofs.Texts.{or_none}
use Rattle.p21_lex.proofs.Faults.{binary_byte, text_faulty, text_cut, text_spoilt, binary_faulty, binary_cut, binary_spoilt, comment_faulty, comment_cut, comment_spoilt}
use Rattle.p21_lex.proofs.Numbers.{digits_each, digits_found, digits_none, int_none, int_none_again, begins_none, begins_none_back, sign_is_no_digit, NumberForm, number_refused, number_none, number_long, int_parts, real_parts, answered, refused, refused_is, answered_not}
use Rattle.p21_lex.proofs.Fronts.{chosen, point_within}
use Rattle.p21_lex.proofs.Spelled.{front_user, front_name, front_number, front_text, front_binary, front_enumeration, front_comment, int_begins, real_begins, digits_filled, enumeration_at}

-- a fault of this error
fault_of : (at : ℕ) (bytes : List ℕ) (d e : LexErr) → refused d ≡ refused e → IsFault at bytes d → IsFault at bytes e
fault_of at bytes d e same fault = subst (λ (x : LexErr). IsFault at bytes x) (refused_is d e same) fault

-- ---- numbers

sign_left : (b : ℕ) → (is_sign b || is_digit b) ≡ true → is_digit b ≡ false → IsTrue (is_sign b)
sign_left b h none = grind (arith, nat_tests)

number_fault : (at b : ℕ) (bs : List ℕ) (e : LexErr) → (is_sign b || is_digit b) ≡ true → number at (b ∷ bs) ≡ refused e → IsFault at (b ∷ bs) e
number_fault at b bs e begins h = by_cause (number_refused at (b ∷ bs) e h)
  where
    by_cause : ((int_len (b ∷ bs) ≡ 0) × (BadByte at ≡ e)) ⊎ ((z : Bool) × (len : ℕ) × NumberForm z (b ∷ bs) len × (38 < count_by is_digit (take len (b ∷ bs))) × (NumberTooLong at ≡ e)) → IsFault at (b ∷ bs) e
    by_cause (inl c) =
        let none = begins_none_back b bs (int_none (b ∷ bs) c.0) in
        let sign : IsTrue (is_sign b) = sign_left b begins none.0 in
        subst (λ (x : LexErr). IsFault at (b ∷ bs) x) c.1 (inl (refl, inr (inl (inl sign, none.1 sign))))
    by_cause (inr c) = subst (λ (x : LexErr). IsFault at (b ∷ bs) x) c.4 (long c.0 c.1 c.2 c.3)
      where
        long : (z : Bool) (len : ℕ) → NumberForm z (b ∷ bs) len → 38 < count_by is_digit (take len (b ∷ bs)) → IsFault at (b ∷ bs) (NumberTooLong at)
        long true len form many = (refl, take len (b ∷ bs), drop len (b ∷ bs), sym (take-append-drop len (b ∷ bs)), inl (form.0, form.1), many)
        long false len form many = (refl, take len (b ∷ bs), drop len (b ∷ bs), sym (take-append-drop len (b ∷ bs)), inr (form.0, form.1), many)

-- ---- names

out_of_range : (v : ℕ) → (leb 1 v && leb v 2147483647) ≡ false → (v ≡ 0) ⊎ (2147483647 < v)
out_of_range v h = by_part (and_cases (leb 1 v) (leb v 2147483647) h)
  where
    by_part : (leb 1 v ≡ false) ⊎ (leb v 2147483647 ≡ false) → (v ≡ 0) ⊎ (2147483647 < v)
    by_part (inl low) = let lt : v < 1 = leb-false 1 v low in inl (omega arith)
    by_part (inr high) = inr (leb-false v 2147483647 high)

name_fault : (at : ℕ) (bs : List ℕ) (e : LexErr) → name at bs ≡ refused e → IsFault at (35 ∷ bs) e
unfolding name
name_fault at bs e h =
    let n = digits_len bs in
    let v = digits_value 10 (take n bs) in
    chosen (eqb n 0) (refused (BadByte at)) (cond (leb 1 v && leb v 2147483647) (answered (Spelling kinds.Name (1 + n))) (refused (BadName at))) (refused e) (IsFault at (35 ∷ bs) e) h
    (λ none is. fault_of at (35 ∷ bs) (BadByte at) e is (inl (refl, inr (inl (inr refl, digits_none bs (eqb-true n 0 none))))))
    (λ some is. chosen (leb 1 v && leb v 2147483647) (answered (Spelling kinds.Name (1 + n))) (refused (BadName at)) (refused e) (IsFault at (35 ∷ bs) e) is
    (λ good has. absurd (answered_not (Spelling kinds.Name (1 + n)) e has))
    (λ bad has. fault_of at (35 ∷ bs) (BadName at) e has
    (refl, take n bs, drop n bs, ap (λ (xs : List ℕ). 35 ∷ xs) (sym (take-append-drop n bs)), digits_found bs (eqb-false n 0 some), run_ends is_digit bs, out_of_range v bad)))

-- ---- user's keywords

user_word_fault : (at : ℕ) (bs : List ℕ) (e : LexErr) → user_word at bs ≡ refused e → IsFault at (33 ∷ bs) e
unfolding user_word
user_word_fault at [] e h = fault_of at (33 ∷ []) (BadByte at) e h (inl (refl, inr (inr (inl (refl, tt)))))
user_word_fault at (b ∷ bs) e h =
    chosen (is_upper b) (answered (Spelling kinds.UserWord (2 + prefix_len is_plain bs))) (refused (BadByte at)) (refused e) (IsFault at (33 ∷ b ∷ bs) e) h
    (λ upper is. absurd (answered_not (Spelling kinds.UserWord (2 + prefix_len is_plain bs)) e is))
    (λ lower is. fault_of at (33 ∷ b ∷ bs) (BadByte at) e is (inl (refl, inr (inr (inl (refl, lower))))))

-- ---- texts, binaries, comments

text_fault : (at : ℕ) (bs : List ℕ) (e : LexErr) (r : Result ℕ Unclosed) → text_end bs ≡ r → closed kinds.Text at r ≡ refused e → IsFault at (39 ∷ bs) e
text_fault at bs e (Ok n) has h = absurd (answered_not (Spelling kinds.Text (1 + n)) e h)
text_fault at bs e (Err Cut) has h = fault_of at (39 ∷ bs) (OpenString at) e h (refl, bs, inl (refl, text_faulty bs Cut has))
text_fault at bs e (Err (Bad k)) has h =
    let s = text_faulty bs (Bad k) has in
    fault_of at (39 ∷ bs) (BadByte (at + 1 + k)) e h
    (inr (1 + k, omega arith, inl (s.inside, s.byte, s.rest, ap (λ (xs : List ℕ). 39 ∷ xs) s.parts, s.passes, s.alien, omega (arith, s.place))))

binary_fault : (at : ℕ) (bs : List ℕ) (e : LexErr) (r : Result ℕ Unclosed) → binary_end bs ≡ r → closed kinds.Binary at r ≡ refused e → IsFault at (34 ∷ bs) e
binary_fault at bs e (Ok n) has h = absurd (answered_not (Spelling kinds.Binary (1 + n)) e h)
binary_fault at bs e (Err Cut) has h = fault_of at (34 ∷ bs) (OpenString at) e h (refl, bs, inr (refl, binary_faulty bs Cut has))
binary_fault at bs e (Err (Bad k)) has h =
    let s = binary_faulty bs (Bad k) has in
    fault_of at (34 ∷ bs) (BadByte (at + 1 + k)) e h
    (inr (1 + k, omega arith, inr (inl (s.inside, s.byte, s.rest, ap (λ (xs : List ℕ). 34 ∷ xs) s.parts, s.passes, s.alien, omega (arith, s.place)))))

commented_fault : (at : ℕ) (bs : List ℕ) (e : LexErr) (r : Result ℕ Unclosed) → comment_end bs ≡ r → commented at r ≡ refused e → IsFault at (47 ∷ 42 ∷ bs) e
commented_fault at bs e (Ok n) has h = absurd (answered_not (Gap (2 + n)) e h)
commented_fault at bs e (Err Cut) has h = fault_of at (47 ∷ 42 ∷ bs) (OpenComment at) e h (refl, bs, refl, comment_faulty bs Cut has)
commented_fault at bs e (Err (Bad k)) has h =
    let s = comment_faulty bs (Bad k) has in
    fault_of at (47 ∷ 42 ∷ bs) (BadByte (at + 2 + k)) e h
    (inr (2 + k, omega arith, inr (inr (s.inside, s.byte, s.rest, ap (λ (xs : List ℕ). 47 ∷ 42 ∷ xs) s.parts, s.passes, s.alien, omega (arith, s.place)))))

comment_fault : (at : ℕ) (bs : List ℕ) (e : LexErr) → comment at bs ≡ refused e → IsFault at (47 ∷ bs) e
unfolding comment
comment_fault at [] e h = fault_of at (47 ∷ []) (BadByte at) e h (inl (refl, inr (inr (inr (inl (refl, tt))))))
comment_fault at (b ∷ bs) e h =
    chosen (eqb b 42) (commented at (comment_end bs)) (refused (BadByte at)) (refused e) (IsFault at (47 ∷ b ∷ bs) e) h
    (λ star is. subst (λ (x : ℕ). IsFault at (47 ∷ x ∷ bs) e) (sym (eqb-true b 42 star)) (commented_fault at bs e (comment_end bs) refl is))
    (λ other is. fault_of at (47 ∷ b ∷ bs) (BadByte at) e is (inl (refl, inr (inr (inr (inl (refl, other)))))))

-- ---- enumerations

enumeration_good : (at : ℕ) (word rest : List ℕ) → IsKeyword is_plain word → (n : ℕ) × (enumeration at (word ++ 46 ∷ rest) ≡ answered (Spelling kinds.Enumeration n))
enumeration_good at [] rest h = absurd h
enumeration_good at (b ∷ bs) rest h =
    let run : prefix_len is_plain (bs ++ 46 ∷ rest) ≡ length bs = runs is_plain bs (46 ∷ rest) h.1 refl in
    (3 + length bs, enumeration_at at b (length bs) (bs ++ 46 ∷ rest) h.0 run (get_or_at bs 46 rest 0 (length bs) refl))

no_enumeration : (at : ℕ) (bs : List ℕ) (e : LexErr) → enumeration at bs ≡ refused e → (word rest : List ℕ) → bs ≡ word ++ 46 ∷ rest → IsKeyword is_plain word → ⊥
no_enumeration at bs e h word rest parts keyword =
    let good = enumeration_good at word rest keyword in
    answered_not (Spelling kinds.Enumeration good.0) e (sym good.1 ∙ sym (ap (enumeration at) parts) ∙ h)

enumeration_error : (at : ℕ) (bs : List ℕ) (e : LexErr) → enumeration at bs ≡ refused e → BadByte at ≡ e
unfolding enumeration
enumeration_error at [] e h = refused_is (BadByte at) e h
enumeration_error at (b ∷ bs) e h =
    chosen (is_upper b && eqb (get_or bs (prefix_len is_plain bs) 0) 46) (answered (Spelling kinds.Enumeration (3 + prefix_len is_plain bs))) (refused (BadByte at)) (refused e) (BadByte at ≡ e) h
    (λ passed is. absurd (answered_not (Spelling kinds.Enumeration (3 + prefix_len is_plain bs)) e is))
    (λ failed is. refused_is (BadByte at) e is)

enumeration_fault : (at : ℕ) (bs : List ℕ) (e : LexErr) → enumeration at bs ≡ refused e → IsFault at (46 ∷ bs) e
enumeration_fault at bs e h =
    subst (λ (x : LexErr). IsFault at (46 ∷ bs) x) (enumeration_error at bs e h) (inl (refl, inr (inr (inr (inr (refl, no_enumeration at bs e h))))))

enumeration_none : (at : ℕ) (bs : List ℕ) → ((word rest : List ℕ) → bs ≡ word ++ 46 ∷ rest → IsKeyword is_plain word → ⊥) → enumeration at bs ≡ refused (BadByte at)
unfolding enumeration
enumeration_none at [] none = refl
enumeration_none at (b ∷ bs) none = by_test (is_upper b && eqb (get_or bs (prefix_len is_plain bs) 0) 46) refl
  where
    by_test : (t : Bool) → (is_upper b && eqb (get_or bs (prefix_len is_plain bs) 0) 46) ≡ t → cond t (answered (Spelling kinds.Enumeration (3 + prefix_len is_plain bs))) (refused (BadByte at)) ≡ refused (BadByte at)
    by_test false e = refl
    by_test true e =
        let p = and_parts (is_upper b) (eqb (get_or bs (prefix_len is_plain bs) 0) 46) e in
        let lt : prefix_len is_plain bs < length bs = point_within bs (prefix_len is_plain bs) p.1 in
        let point : get_or bs (prefix_len is_plain bs) 0 ≡ 46 = eqb-true (get_or bs (prefix_len is_plain bs) 0) 46 p.1 in
        let behind : drop (prefix_len is_plain bs) bs ≡ 46 ∷ drop (prefix_len is_plain bs + 1) bs = rw (← point) (drop_more bs (prefix_len is_plain bs) 0 lt) in
        let parts : bs ≡ take (prefix_len is_plain bs) bs ++ 46 ∷ drop (prefix_len is_plain bs + 1) bs = sym (take-append-drop (prefix_len is_plain bs) bs) ∙ ap (λ (xs : List ℕ). take (prefix_len is_plain bs) bs ++ xs) behind in
        absurd (none (b ∷ take (prefix_len is_plain bs) bs) (drop (prefix_len is_plain bs + 1) bs) (ap (λ (xs : List ℕ). b ∷ xs) parts) (p.0, run_is is_plain bs))

-- ---- bytes with which nothing begins

abbrev no_kind : Option TokenKind
no_kind = None

none_chosen : (t : Bool) (k : TokenKind) (y : Option TokenKind) → cond t (Some k) y ≡ no_kind → (t ≡ false) × (y ≡ no_kind)
none_chosen true k y e = absurd cc
none_chosen false k y e = (refl, e)

may_not_begin : (b : ℕ) → is_blank b ≡ false → is_upper b ≡ false → (is_sign b || is_digit b) ≡ false → eqb b 33 ≡ false → eqb b 35 ≡ false → eqb b 39 ≡ false → eqb b 46 ≡ false → eqb b 34 ≡ false → eqb b 47 ≡ false
    → mark b ≡ no_kind → may_begin b ≡ false
unfolding mark
may_not_begin b blank upper number_like n33 n35 n39 n46 n34 n47 none =
    let s = or_none (is_sign b) (is_digit b) number_like in
    let m40 = none_chosen (eqb b 40) kinds.Open _ none in
    let m41 = none_chosen (eqb b 41) kinds.Close _ m40.1 in
    let m44 = none_chosen (eqb b 44) kinds.Comma _ m41.1 in
    let m59 = none_chosen (eqb b 59) kinds.Semicolon _ m44.1 in
    let m61 = none_chosen (eqb b 61) kinds.Equals _ m59.1 in
    let m36 = none_chosen (eqb b 36) kinds.Dollar _ m61.1 in
    let m42 = none_chosen (eqb b 42) kinds.Star _ m36.1 in
    rw (blank, upper, s.0, s.1, n33, n34, n35, m36.0, n39, m40.0, m41.0, m42.0, m44.0, n46, n47, m59.0, m61.0) refl

marked_fault : (at b : ℕ) (bs : List ℕ) (e : LexErr) (m : Option TokenKind) → mark b ≡ m → (mark b ≡ no_kind → may_begin b ≡ false) → marked at m ≡ refused e → IsFault at (b ∷ bs) e
marked_fault at b bs e (Some kind) has none h = absurd (answered_not (Spelling kind 1) e h)
marked_fault at b bs e None has none h = fault_of at (b ∷ bs) (BadByte at) e h (inl (refl, inl (none has)))

at_byte : (byte b at : ℕ) (bs : List ℕ) (e : LexErr) → eqb b byte ≡ true → IsFault at (byte ∷ bs) e → IsFault at (b ∷ bs) e
at_byte byte b at bs e is here = subst (λ (x : ℕ). IsFault at (x ∷ bs) e) (sym (eqb-true b byte is)) here

-- What is refused is a fault.
pub front_fault : (at b : ℕ) (bs : List ℕ) (e : LexErr) → front at (b ∷ bs) ≡ refused e → IsFault at (b ∷ bs) e
unfolding front
front_fault at b bs e h =
    let P : Type 0 = IsFault at (b ∷ bs) e in
    chosen (is_blank b) (answered (Gap 1)) _ (refused e) P h (λ _ h. absurd (answered_not (Gap 1) e h)) (λ blank h.
    chosen (is_upper b) (answered (Spelling kinds.Word (1 + prefix_len is_word bs))) _ (refused e) P h (λ _ h. absurd (answered_not (Spelling kinds.Word (1 + prefix_len is_word bs)) e h)) (λ upper h.
    chosen (is_sign b || is_digit b) (number at (b ∷ bs)) _ (refused e) P h (λ begins h. number_fault at b bs e begins h) (λ number_like h.
    chosen (eqb b 33) (user_word at bs) _ (refused e) P h (λ is h. at_byte 33 b at bs e is (user_word_fault at bs e h)) (λ n33 h.
    chosen (eqb b 35) (name at bs) _ (refused e) P h (λ is h. at_byte 35 b at bs e is (name_fault at bs e h)) (λ n35 h.
    chosen (eqb b 39) (closed kinds.Text at (text_end bs)) _ (refused e) P h (λ is h. at_byte 39 b at bs e is (text_fault at bs e (text_end bs) refl h)) (λ n39 h.
    chosen (eqb b 46) (enumeration at bs) _ (refused e) P h (λ is h. at_byte 46 b at bs e is (enumeration_fault at bs e h)) (λ n46 h.
    chosen (eqb b 34) (closed kinds.Binary at (binary_end bs)) _ (refused e) P h (λ is h. at_byte 34 b at bs e is (binary_fault at bs e (binary_end bs) refl h)) (λ n34 h.
    chosen (eqb b 47) (comment at bs) _ (refused e) P h (λ is h. at_byte 47 b at bs e is (comment_fault at bs e h)) (λ n47 h.
    marked_fault at b bs e (mark b) refl (may_not_begin b blank upper number_like n33 n35 n39 n46 n34 n47) h)))))))))

-- ---- the other way

nothing_begins : (at b : ℕ) (bs : List ℕ) → may_begin b ≡ false → front at (b ∷ bs) ≡ refused (BadByte at)
unfolding front mark
nothing_begins at b bs h =
    let l = or_none (is_blank b || is_upper b || is_sign b || is_digit b) _ h in
    let d = or_none (is_blank b || is_upper b || is_sign b) (is_digit b) l.0 in
    let s = or_none (is_blank b || is_upper b) (is_sign b) d.0 in
    let u = or_none (is_blank b) (is_upper b) s.0 in
    let n33 = or_none (eqb b 33) _ l.1 in
    let n34 = or_none (eqb b 34) _ n33.1 in
    let n35 = or_none (eqb b 35) _ n34.1 in
    let n36 = or_none (eqb b 36) _ n35.1 in
    let n39 = or_none (eqb b 39) _ n36.1 in
    let n40 = or_none (eqb b 40) _ n39.1 in
    let n41 = or_none (eqb b 41) _ n40.1 in
    let n42 = or_none (eqb b 42) _ n41.1 in
    let n44 = or_none (eqb b 44) _ n42.1 in
    let n46 = or_none (eqb b 46) _ n44.1 in
    let n47 = or_none (eqb b 47) _ n46.1 in
    let n59 = or_none (eqb b 59) _ n47.1 in
    let n61 = or_none (eqb b 61) _ n59.1 in
    rw (u.0, u.1, s.1, d.1, n33.0, n35.0, n39.0, n46.0, n34.0, n47.0, n40.0, n41.0, n44.0, n59.0, n61.0, n36.0, n42.0) refl

name_nothing : (at : ℕ) (bs : List ℕ) → NotFirst is_digit bs → name at bs ≡ refused (BadByte at)
unfolding name
name_nothing at bs none = rw (no_run is_digit bs none) refl

sign_nothing : (at b : ℕ) (bs : List ℕ) → IsTrue (is_sign b) → NotFirst is_digit bs → front at (b ∷ bs) ≡ refused (BadByte at)
sign_nothing at b bs sign none =
    let no_int : int_len (b ∷ bs) ≡ 0 = int_none_again (b ∷ bs) (begins_none b bs (sign_is_no_digit b sign) (λ _. none)) in
    let begins : (is_sign b || is_digit b) ≡ true = rw sign refl in
    front_number at b bs begins ∙ number_none at (b ∷ bs) no_int

user_nothing : (at : ℕ) (bs : List ℕ) → NotFirst is_upper bs → user_word at bs ≡ refused (BadByte at)
unfolding user_word
user_nothing at [] none = refl
user_nothing at (b ∷ bs) none = rw none refl

slash_nothing : (at : ℕ) (bs : List ℕ) → NotFirst (λ c. eqb c 42) bs → front at (47 ∷ bs) ≡ refused (BadByte at)
unfolding front comment
slash_nothing at [] none = refl
slash_nothing at (b ∷ bs) none = rw none refl

-- the same of a byte that equals another
front_at : (at byte b : ℕ) (bs : List ℕ) (e : LexErr) → b ≡ byte → front at (byte ∷ bs) ≡ refused e → front at (b ∷ bs) ≡ refused e
front_at at byte b bs e is here = subst (λ (x : ℕ). front at (x ∷ bs) ≡ refused e) (sym is) here

nothing_again : (at : ℕ) (bytes : List ℕ) → IsNothing bytes → front at bytes ≡ refused (BadByte at)
nothing_again at [] h = absurd h
nothing_again at (b ∷ bs) (inl h) = nothing_begins at b bs h
nothing_again at (b ∷ bs) (inr (inl (inl sign, none))) = sign_nothing at b bs sign none
nothing_again at (b ∷ bs) (inr (inl (inr is, none))) = front_at at 35 b bs (BadByte at) is (front_name at bs ∙ name_nothing at bs none)
nothing_again at (b ∷ bs) (inr (inr (inl h))) = front_at at 33 b bs (BadByte at) h.0 (front_user at bs ∙ user_nothing at bs h.1)
nothing_again at (b ∷ bs) (inr (inr (inr (inl h)))) = front_at at 47 b bs (BadByte at) h.0 (slash_nothing at bs h.1)
nothing_again at (b ∷ bs) (inr (inr (inr (inr h)))) = front_at at 46 b bs (BadByte at) h.0 (front_enumeration at bs ∙ enumeration_none at bs h.1)

-- the same of equal bytes
front_of : (at : ℕ) (bytes others : List ℕ) (e : LexErr) → bytes ≡ others → front at others ≡ refused e → front at bytes ≡ refused e
front_of at bytes others e is here = ap (front at) is ∙ here

bad_at : (p q : ℕ) → p ≡ q → refused (BadByte p) ≡ refused (BadByte q)
bad_at p q e = ap (λ (x : ℕ). refused (BadByte x)) e

text_spoilt_again : (at n place : ℕ) (bytes : List ℕ) → place ≡ at + n → IsSpoilt (39 ∷ []) IsInside is_legal n bytes → front at bytes ≡ refused (BadByte place)
text_spoilt_again at n place bytes is s =
    front_of at bytes (39 ∷ (s.0 ++ s.1 ∷ s.2)) (BadByte place) s.3
    (front_text at (s.0 ++ s.1 ∷ s.2) ∙ ap (closed kinds.Text at) (text_spoilt s.0 s.1 s.2 s.4 s.5) ∙ bad_at (at + 1 + length s.0) place (omega (arith, is, s.6)))

binary_spoilt_again : (at n place : ℕ) (bytes : List ℕ) → place ≡ at + n → IsSpoilt (34 ∷ []) (Each is_hex) binary_byte n bytes → front at bytes ≡ refused (BadByte place)
binary_spoilt_again at n place bytes is s =
    front_of at bytes (34 ∷ (s.0 ++ s.1 ∷ s.2)) (BadByte place) s.3
    (front_binary at (s.0 ++ s.1 ∷ s.2) ∙ ap (closed kinds.Binary at) (binary_spoilt s.0 s.1 s.2 s.4 s.5) ∙ bad_at (at + 1 + length s.0) place (omega (arith, is, s.6)))

comment_spoilt_again : (at n place : ℕ) (bytes : List ℕ) → place ≡ at + n → IsSpoilt (47 ∷ 42 ∷ []) IsCommentInside is_legal n bytes → front at bytes ≡ refused (BadByte place)
comment_spoilt_again at n place bytes is s =
    front_of at bytes (47 ∷ 42 ∷ (s.0 ++ s.1 ∷ s.2)) (BadByte place) s.3
    (front_comment at (s.0 ++ s.1 ∷ s.2) ∙ ap (commented at) (comment_spoilt s.0 s.1 s.2 s.4 s.5) ∙ bad_at (at + 2 + length s.0) place (omega (arith, is, s.6)))

range_failed : (v : ℕ) → (v ≡ 0) ⊎ (2147483647 < v) → (leb 1 v && leb v 2147483647) ≡ false
range_failed v (inl none) = rw none refl
range_failed v (inr great) = let high : leb v 2147483647 ≡ false = lt-leb v 2147483647 great in rw high (and_false (leb 1 v))
  where
    and_false : (x : Bool) → (x && false) ≡ false
    and_false true = refl
    and_false false = refl

name_bad : (at : ℕ) (bytes digits : List ℕ) → digits_len bytes ≡ length digits → take (length digits) bytes ≡ digits → eqb (length digits) 0 ≡ false
    → (digits_value 10 digits ≡ 0) ⊎ (2147483647 < digits_value 10 digits) → name at bytes ≡ refused (BadName at)
unfolding name
name_bad at bytes digits run front some out = rw (run, front, some, range_failed (digits_value 10 digits) out) refl

-- A fault is refused.
pub fault_refused : (at : ℕ) (bytes : List ℕ) (e : LexErr) → IsFault at bytes e → front at bytes ≡ refused e
fault_refused at bytes (BadByte place) (inl h) = nothing_again at bytes h.1 ∙ bad_at at place (sym h.0)
fault_refused at bytes (BadByte place) (inr (n, is, inl s)) = text_spoilt_again at n place bytes is s
fault_refused at bytes (BadByte place) (inr (n, is, inr (inl s))) = binary_spoilt_again at n place bytes is s
fault_refused at bytes (BadByte place) (inr (n, is, inr (inr s))) = comment_spoilt_again at n place bytes is s
fault_refused at bytes (BadName place) h =
    front_of at bytes (35 ∷ (h.1 ++ h.2)) (BadName place) h.3
    (front_name at (h.1 ++ h.2) ∙ name_bad at (h.1 ++ h.2) h.1 (runs is_digit h.1 h.2 (digits_each h.1 h.4) h.5) (take_at h.1 h.2 (length h.1) refl) (digits_filled h.1 h.4) h.6 ∙ ap (λ (x : ℕ). refused (BadName x)) (sym h.0))
fault_refused at bytes (OpenString place) (is, inside, inl h) =
    front_of at bytes (39 ∷ inside) (OpenString place) h.0 (front_text at inside ∙ ap (closed kinds.Text at) (text_cut inside h.1) ∙ ap (λ (x : ℕ). refused (OpenString x)) (sym is))
fault_refused at bytes (OpenString place) (is, inside, inr h) =
    front_of at bytes (34 ∷ inside) (OpenString place) h.0 (front_binary at inside ∙ ap (closed kinds.Binary at) (binary_cut inside h.1) ∙ ap (λ (x : ℕ). refused (OpenString x)) (sym is))
fault_refused at bytes (OpenComment place) h =
    front_of at bytes (47 ∷ 42 ∷ h.1) (OpenComment place) h.2 (front_comment at h.1 ∙ ap (commented at) (comment_cut h.1 h.3) ∙ ap (λ (x : ℕ). refused (OpenComment x)) (sym h.0))
fault_refused at bytes (NumberTooLong place) (is, text, rest, parts, inl form, long) =
    front_of at bytes (text ++ rest) (NumberTooLong place) parts
    (int_begins text rest at form.0 ∙ number_long at kinds.Int text rest (int_parts text rest form.0 form.1) long ∙ ap (λ (x : ℕ). refused (NumberTooLong x)) (sym is))
fault_refused at bytes (NumberTooLong place) (is, text, rest, parts, inr form, long) =
    front_of at bytes (text ++ rest) (NumberTooLong place) parts
    (real_begins text rest at form.0 ∙ number_long at kinds.Real text rest (real_parts text rest form.0 form.1) long ∙ ap (λ (x : ℕ). refused (NumberTooLong x)) (sym is))
fault_refused at bytes NoMemory h = absurd h
