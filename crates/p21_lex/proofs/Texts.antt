-- Texts, binaries and comments: what is found up to the closing mark is an inside and the mark, and such an inside is found again.
use Rattle.std.proofs.Common.{◌≡◌, ℕ, zero, suc, ◌+◌, ◌<◌, ◌≤◌, Bool, true, false, cond, eqb, ◌||◌, ◌&&◌, List, [], ◌∷◌, ◌++◌, length, take, drop, Result, Ok, Err, refl, sym, ap, subst, ◌∙◌, inl, inr, arith}
use Rattle.std.specs.Prelude.{nat_eq, IsTrue}
use Rattle.std.specs.List.{prefix_len, starts_with}
use Rattle.std.proofs.lemmas.Bool.{eqb-true}
use Rattle.std.proofs.lemmas.List.{drop_all}
use Rattle.std.proofs.lemmas.Bool.Decides.{nat_tests}
use Rattle.p21_lex.specs.declared.scan.Unclosed.{Unclosed}
use Rattle.p21_lex.specs.declared.scan.Unclosed.TheVariants.{Cut, Bad}
use Rattle.p21_lex.specs.Class.{is_hex, is_legal, Each, NotFirst}
use Rattle.p21_lex.specs.Scan.{shifted, text_end, binary_end, comment_end}
use Rattle.p21_lex.proofs.Runs.{one_more}
use Rattle.p21_lex.specs.Reading.{IsInside, IsCommentInside, has_end}

abbrev pub done : ℕ → Result ℕ Unclosed
done n = Ok n

abbrev pub lost : Unclosed → Result ℕ Unclosed
lost u = Err u

pub done_is : (m n : ℕ) → done m ≡ done n → m ≡ n
done_is m n e = cc

pub done_lost : (n : ℕ) (u : Unclosed) → lost u ≡ done n → ⊥
done_lost n u e = cc

shifted_done : (k n : ℕ) (r : Result ℕ Unclosed) → shifted k r ≡ done n → (m : ℕ) × (r ≡ done m) × (n ≡ k + m)
shifted_done k n (Ok m) e = (m, refl, sym (done_is (k + m) n e))
shifted_done k n (Err Cut) e = absurd (done_lost n Cut e)
shifted_done k n (Err (Bad x)) e = absurd (done_lost n (Bad (k + x)) e)

-- What was opened goes on with an inside, of bytes that pass, and its closing mark.
pub record Closes (Inside : List ℕ → Type 0) (mark : List ℕ) (bytes : List ℕ) (n : ℕ) : Type 0 where
  pub inside : List ℕ
  pub parts : take n bytes ≡ inside ++ mark
  pub passes : Inside inside
  pub within : n ≤ length bytes

-- ---- texts

abbrev pub apostrophe : List ℕ
apostrophe = 39 ∷ []

pub inside_more : (b : ℕ) (inside : List ℕ) → eqb b 39 ≡ false → IsTrue (is_legal b) → IsInside inside → IsInside (b ∷ inside)
inside_more b [] other legal h = (other, legal)
inside_more b (c ∷ cs) other legal h = inr (other, legal, h)

text_step : (b c : ℕ) (bs : List ℕ) (n : ℕ) (x y z : Bool) → eqb b 39 ≡ x → eqb c 39 ≡ y → is_legal b ≡ z
    → cond x (cond y (shifted 2 (text_end bs)) (Ok 1)) (cond z (shifted 1 (text_end (c ∷ bs))) (Err (Bad 0))) ≡ done n
    → ((m : ℕ) → text_end bs ≡ done m → Closes IsInside apostrophe bs m × NotFirst (λ a. eqb a 39) (drop m bs))
    → ((m : ℕ) → text_end (c ∷ bs) ≡ done m → Closes IsInside apostrophe (c ∷ bs) m × NotFirst (λ a. eqb a 39) (drop m (c ∷ bs)))
    → Closes IsInside apostrophe (b ∷ c ∷ bs) n × NotFirst (λ a. eqb a 39) (drop n (b ∷ c ∷ bs))
text_step b c bs n true true z eb ec ez e two one =
    let s = shifted_done 2 n (text_end bs) e in
    let h = two s.0 s.1 in
    let is : n ≡ suc (suc s.0) = omega (arith, s.2) in
    rw is (record { inside = b ∷ c ∷ h.0.inside; parts = ap (λ (xs : List ℕ). b ∷ c ∷ xs) h.0.parts; passes = inl (eqb-true b 39 eb, eqb-true c 39 ec, h.0.passes); within = omega (arith, h.0.within) }, h.1)
text_step b c bs n true false z eb ec ez e two one =
    rw (sym (done_is 1 n e)) (record { inside = []; parts = ap (λ (x : ℕ). x ∷ []) (eqb-true b 39 eb); passes = tt; within = omega arith }, ec)
text_step b c bs n false y true eb ec ez e two one =
    let s = shifted_done 1 n (text_end (c ∷ bs)) e in
    let h = one s.0 s.1 in
    let is : n ≡ suc s.0 = omega (arith, s.2) in
    rw is (record { inside = b ∷ h.0.inside; parts = ap (λ (xs : List ℕ). b ∷ xs) h.0.parts; passes = inside_more b h.0.inside eb ez h.0.passes; within = omega (arith, h.0.within) }, h.1)
text_step b c bs n false y false eb ec ez e two one = absurd (done_lost n (Bad 0) e)

text_last : (b n : ℕ) (x z : Bool) → eqb b 39 ≡ x → cond x (Ok 1) (cond z (Err Cut) (Err (Bad 0))) ≡ done n → Closes IsInside apostrophe (b ∷ []) n × NotFirst (λ a. eqb a 39) (drop n (b ∷ []))
text_last b n true z eb e = rw (sym (done_is 1 n e)) (record { inside = []; parts = ap (λ (x : ℕ). x ∷ []) (eqb-true b 39 eb); passes = tt; within = omega arith }, tt)
text_last b n false true eb e = absurd (done_lost n Cut e)
text_last b n false false eb e = absurd (done_lost n (Bad 0) e)

pub text_closes : (bytes : List ℕ) (n : ℕ) → text_end bytes ≡ done n → Closes IsInside apostrophe bytes n × NotFirst (λ a. eqb a 39) (drop n bytes)
unfolding text_end
text_closes [] n e = absurd (done_lost n Cut e)
text_closes (b ∷ []) n e = text_last b n (eqb b 39) (is_legal b) refl e
text_closes (b ∷ c ∷ bs) n e = text_step b c bs n (eqb b 39) (eqb c 39) (is_legal b) refl refl refl e (text_closes bs) (text_closes (c ∷ bs))

text_ends : (rest : List ℕ) → NotFirst (λ a. eqb a 39) rest → text_end (39 ∷ rest) ≡ done 1
unfolding text_end
text_ends [] stop = refl
text_ends (c ∷ cs) stop = rw stop refl

pub text_passes : (b : ℕ) (rest : List ℕ) → eqb b 39 ≡ false → IsTrue (is_legal b) → 0 < length rest → text_end (b ∷ rest) ≡ shifted 1 (text_end rest)
unfolding text_end
text_passes b [] other legal some = absurd (omega arith)
text_passes b (c ∷ cs) other legal some = rw (other, legal) refl

text_doubles : (rest : List ℕ) → text_end (39 ∷ 39 ∷ rest) ≡ shifted 2 (text_end rest)
unfolding text_end
text_doubles rest = refl

filled : (xs : List ℕ) (b : ℕ) (ys : List ℕ) → 0 < length (xs ++ b ∷ ys)
filled [] b ys = omega arith
filled (x ∷ xs) b ys = omega arith

pub text_again : (inside rest : List ℕ) → IsInside inside → NotFirst (λ a. eqb a 39) rest → text_end (inside ++ 39 ∷ rest) ≡ done (suc (length inside))
text_again [] rest h stop = text_ends rest stop
text_again (b ∷ []) rest h stop = text_passes b (39 ∷ rest) h.0 h.1 (omega arith) ∙ ap (shifted 1) (text_ends rest stop)
text_again (b ∷ c ∷ bs) rest (inl h) stop =
    let same : b ∷ c ∷ (bs ++ 39 ∷ rest) ≡ 39 ∷ 39 ∷ (bs ++ 39 ∷ rest) = rw (h.0, h.1) refl in
    ap text_end same ∙ text_doubles (bs ++ 39 ∷ rest) ∙ ap (shifted 2) (text_again bs rest h.2 stop) ∙ ap done (omega arith)
text_again (b ∷ c ∷ bs) rest (inr h) stop =
    text_passes b (c ∷ (bs ++ 39 ∷ rest)) h.0 h.1 (omega arith) ∙ ap (shifted 1) (text_again (c ∷ bs) rest h.2 stop) ∙ ap done (omega arith)

-- ---- binaries

abbrev pub quotation : List ℕ
quotation = 34 ∷ []

binary_step : (b : ℕ) (bs : List ℕ) (n : ℕ) (x z : Bool) → eqb b 34 ≡ x → is_hex b ≡ z → cond x (Ok 1) (cond z (shifted 1 (binary_end bs)) (Err (Bad 0))) ≡ done n
    → ((m : ℕ) → binary_end bs ≡ done m → Closes (Each is_hex) quotation bs m) → Closes (Each is_hex) quotation (b ∷ bs) n
binary_step b bs n true z eb ez e more = rw (sym (done_is 1 n e)) (record { inside = []; parts = ap (λ (x : ℕ). x ∷ []) (eqb-true b 34 eb); passes = tt; within = omega arith })
binary_step b bs n false true eb ez e more =
    let s = shifted_done 1 n (binary_end bs) e in
    let h = more s.0 s.1 in
    let is : n ≡ suc s.0 = omega (arith, s.2) in
    rw is (record { inside = b ∷ h.inside; parts = ap (λ (xs : List ℕ). b ∷ xs) h.parts; passes = (ez, h.passes); within = omega (arith, h.within) })
binary_step b bs n false false eb ez e more = absurd (done_lost n (Bad 0) e)

pub binary_closes : (bytes : List ℕ) (n : ℕ) → binary_end bytes ≡ done n → Closes (Each is_hex) quotation bytes n
unfolding binary_end
binary_closes [] n e = absurd (done_lost n Cut e)
binary_closes (b ∷ bs) n e = binary_step b bs n (eqb b 34) (is_hex b) refl refl e (binary_closes bs)

binary_ends : (rest : List ℕ) → binary_end (34 ∷ rest) ≡ done 1
unfolding binary_end
binary_ends rest = refl

pub hex_is_no_mark : (b : ℕ) → is_hex b ≡ true → eqb b 34 ≡ false
hex_is_no_mark b h = grind (arith, nat_tests)

pub binary_passes : (b : ℕ) (rest : List ℕ) → IsTrue (is_hex b) → binary_end (b ∷ rest) ≡ shifted 1 (binary_end rest)
unfolding binary_end
binary_passes b rest hex = rw (hex_is_no_mark b hex, hex) refl

pub binary_again : (inside rest : List ℕ) → Each is_hex inside → binary_end (inside ++ 34 ∷ rest) ≡ done (suc (length inside))
binary_again [] rest h = binary_ends rest
binary_again (b ∷ bs) rest h = binary_passes b (bs ++ 34 ∷ rest) h.0 ∙ ap (shifted 1) (binary_again bs rest h.1) ∙ ap done (omega arith)

-- how a binary ends that has so many digits and then these bytes
abbrev pub ended : ℕ → List ℕ → Result ℕ Unclosed
ended n [] = lost Cut
ended n (b ∷ bs) = cond (eqb b 34) (done (n + 1)) (lost (Bad n))

ended_step : (n : ℕ) (x : Bool) → shifted 1 (cond x (done (n + 1)) (lost (Bad n))) ≡ cond x (done (1 + n + 1)) (lost (Bad (1 + n)))
ended_step n true = ap done (omega arith)
ended_step n false = refl

ended_more : (n : ℕ) (rest : List ℕ) → shifted 1 (ended n rest) ≡ ended (1 + n) rest
ended_more n [] = refl
ended_more n (b ∷ bs) = ended_step n (eqb b 34)

ended_with : (b : ℕ) (bs : List ℕ) (n : ℕ) (z : Bool) → is_hex b ≡ z → binary_end bs ≡ ended n (drop n bs) → binary_end (b ∷ bs) ≡ ended (cond z (1 + n) 0) (drop (cond z (1 + n) 0) (b ∷ bs))
unfolding binary_end
ended_with b bs n true e h = binary_passes b bs e ∙ ap (shifted 1) h ∙ ended_more n (drop n bs) ∙ ap (λ (k : ℕ). ended (1 + n) (drop k (b ∷ bs))) (sym (one_more n))
ended_with b bs n false e h = rw e refl

pub binary_ended : (bytes : List ℕ) → binary_end bytes ≡ ended (prefix_len is_hex bytes) (drop (prefix_len is_hex bytes) bytes)
unfolding binary_end
binary_ended [] = refl
binary_ended (b ∷ bs) = ended_with b bs (prefix_len is_hex bs) (is_hex b) refl (binary_ended bs)

pub binary_open : (bytes : List ℕ) → length bytes ≤ prefix_len is_hex bytes → binary_end bytes ≡ lost Cut
binary_open bytes h = binary_ended bytes ∙ ap (ended (prefix_len is_hex bytes)) (drop_all (prefix_len is_hex bytes) bytes h)

-- ---- comments

abbrev pub closing : List ℕ
closing = 42 ∷ 47 ∷ []

-- whether a comment's closing mark stands first
abbrev pub ends_at : List ℕ → Bool
ends_at bytes = starts_with nat_eq bytes (42 ∷ 47 ∷ [])

ends_at-take : (b : ℕ) (bs inside : List ℕ) (m : ℕ) → ends_at (b ∷ bs) ≡ false → take m bs ≡ inside ++ closing → ends_at (b ∷ inside) ≡ false
ends_at-take b bs [] m not_here e = ends_at_one b
  where
    ends_at_one : (b : ℕ) → ends_at (b ∷ []) ≡ false
    ends_at_one b = grind (arith, nat_tests)
ends_at-take b [] (c ∷ cs) zero not_here e = absurd cc
ends_at-take b [] (c ∷ cs) (suc m) not_here e = absurd cc
ends_at-take b (d ∷ ds) (c ∷ cs) zero not_here e = absurd cc
ends_at-take b (d ∷ ds) (c ∷ cs) (suc m) not_here e =
    let same : d ≡ c = cc in
    subst (λ (x : ℕ). ends_at (b ∷ x ∷ cs) ≡ false) same not_here

comment_here : (b : ℕ) (bs : List ℕ) → ends_at (b ∷ bs) ≡ true → Closes IsCommentInside closing (b ∷ bs) 2
comment_here b [] h = absurd (no_room b h)
  where
    no_room : (b : ℕ) → ends_at (b ∷ []) ≡ true → ⊥
    no_room b h = grind (arith, nat_tests)
comment_here b (c ∷ cs) h =
    let first : 42 ≡ b = eqb-true 42 b (both b c h).0 in
    let second : 47 ≡ c = eqb-true 47 c (both b c h).1 in
    record { inside = []; parts = rw (first, second) refl; passes = (tt, refl); within = omega arith }
  where
    both : (b c : ℕ) → (eqb 42 b) && (eqb 47 c && true) ≡ true → (eqb 42 b ≡ true) × (eqb 47 c ≡ true)
    both b c h = (grind (arith, nat_tests), grind (arith, nat_tests))

comment_step : (b : ℕ) (bs : List ℕ) (n : ℕ) (x z : Bool) → ends_at (b ∷ bs) ≡ x → is_legal b ≡ z → cond x (Ok 2) (cond z (shifted 1 (comment_end bs)) (Err (Bad 0))) ≡ done n
    → ((m : ℕ) → comment_end bs ≡ done m → Closes IsCommentInside closing bs m) → Closes IsCommentInside closing (b ∷ bs) n
comment_step b bs n true z eb ez e more = rw (sym (done_is 2 n e)) (comment_here b bs eb)
comment_step b bs n false true eb ez e more =
    let s = shifted_done 1 n (comment_end bs) e in
    let h = more s.0 s.1 in
    let is : n ≡ suc s.0 = omega (arith, s.2) in
    let passes : IsCommentInside (b ∷ h.inside) = ((ez, h.passes.0), rw (ends_at-take b bs h.inside s.0 eb h.parts) h.passes.1) in
    rw is (record { inside = b ∷ h.inside; parts = ap (λ (xs : List ℕ). b ∷ xs) h.parts; passes = passes; within = omega (arith, h.within) })
comment_step b bs n false false eb ez e more = absurd (done_lost n (Bad 0) e)

pub comment_closes : (bytes : List ℕ) (n : ℕ) → comment_end bytes ≡ done n → Closes IsCommentInside closing bytes n
unfolding comment_end
comment_closes [] n e = absurd (done_lost n Cut e)
comment_closes (b ∷ bs) n e = comment_step b bs n (ends_at (b ∷ bs)) (is_legal b) refl refl e (comment_closes bs)

comment_ends : (rest : List ℕ) → comment_end (42 ∷ 47 ∷ rest) ≡ done 2
unfolding comment_end
comment_ends rest = refl

pub comment_passes : (b : ℕ) (rest : List ℕ) → ends_at (b ∷ rest) ≡ false → IsTrue (is_legal b) → comment_end (b ∷ rest) ≡ shifted 1 (comment_end rest)
unfolding comment_end
comment_passes b rest not_here legal = rw (not_here, legal) refl

pub or_none : (x y : Bool) → (x || y) ≡ false → (x ≡ false) × (y ≡ false)
or_none true y h = absurd cc
or_none false y h = (refl, h)

ends_at-append : (b : ℕ) (bs rest : List ℕ) → ends_at (b ∷ bs) ≡ false → ends_at (b ∷ (bs ++ 42 ∷ 47 ∷ rest)) ≡ false
ends_at-append b [] rest not_here = star_star b
  where
    star_star : (b : ℕ) → (eqb 42 b && (eqb 47 42 && true)) ≡ false
    star_star b = grind (arith, nat_tests)
ends_at-append b (c ∷ cs) rest not_here = not_here

pub comment_again : (inside rest : List ℕ) → IsCommentInside inside → comment_end (inside ++ 42 ∷ 47 ∷ rest) ≡ done (suc (suc (length inside)))
comment_again [] rest h = comment_ends rest
comment_again (b ∷ bs) rest h =
    let none = or_none (ends_at (b ∷ bs)) (has_end bs) h.1 in
    comment_passes b (bs ++ 42 ∷ 47 ∷ rest) (ends_at-append b bs rest none.0) h.0.0 ∙ ap (shifted 1) (comment_again bs rest (h.0.1, none.1)) ∙ ap done (omega arith)
