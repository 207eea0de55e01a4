-- Texts, binaries and comments that have no end, and those that hold a byte that may not stand in them.
use Rattle.std.proofs.Common.{◌≡◌, ℕ, suc, ◌+◌, Bool, true, false, cond, eqb, ◌||◌, ◌&&◌, List, [], ◌∷◌, ◌++◌, length, Result, Ok, Err, refl, sym, ap, subst, ◌∙◌, inl, inr, arith}
use Rattle.std.specs.Prelude.{IsTrue}
use Rattle.std.proofs.lemmas.Bool.{eqb-true}
use Rattle.std.proofs.lemmas.Bool.Decides.{nat_tests}
use Rattle.std.proofs.lemmas.List.{append-nil}
use Rattle.p21_lex.specs.declared.scan.Unclosed.{Unclosed}
use Rattle.p21_lex.specs.declared.scan.Unclosed.TheVariants.{Cut, Bad}
use Rattle.p21_lex.specs.Class.{is_hex, is_legal, Each, NotFirst}
use Rattle.p21_lex.specs.Scan.{shifted, text_end, binary_end, comment_end}
use Rattle.p21_lex.specs.Reading.{IsInside, IsCommentInside, has_end}
use Rattle.p21_lex.proofs.Shifts.{shifted_none, shifted_more}
use Rattle.p21_lex.proofs.Texts.{done, lost, inside_more, ends_at, or_none, binary_passes, comment_passes}

-- the same fault, seen from so many bytes before
abbrev pub moved : ℕ → Unclosed → Unclosed
moved n Cut = Cut
moved n (Bad k) = Bad (n + k)

done_no_fault : (n : ℕ) (u : Unclosed) → done n ≡ lost u → ⊥
done_no_fault n u e = cc

lost_is : (u v : Unclosed) → lost u ≡ lost v → u ≡ v
lost_is u v e = cc

shifted_lost : (k : ℕ) (u : Unclosed) (r : Result ℕ Unclosed) → shifted k r ≡ lost u → (v : Unclosed) × (r ≡ lost v) × (moved k v ≡ u)
shifted_lost k u (Ok m) e = absurd (done_no_fault (k + m) u e)
shifted_lost k u (Err Cut) e = (Cut, refl, lost_is Cut u e)
shifted_lost k u (Err (Bad x)) e = (Bad x, refl, lost_is (Bad (k + x)) u e)

-- An inside up to a byte that may not stand in it.
pub record Spoils (Inside : List ℕ → Type 0) (may_stand : ℕ → Bool) (bytes : List ℕ) (k : ℕ) : Type 0 where
  pub inside : List ℕ
  pub byte : ℕ
  pub rest : List ℕ
  pub parts : bytes ≡ inside ++ byte ∷ rest
  pub passes : Inside inside
  pub alien : may_stand byte ≡ false
  pub place : k ≡ length inside

-- where the bytes end, all of them are an inside
abbrev pub Faulty : (List ℕ → Type 0) → (ℕ → Bool) → List ℕ → Unclosed → Type 0
Faulty Inside may_stand bytes Cut = Inside bytes
Faulty Inside may_stand bytes (Bad k) = Spoils Inside may_stand bytes k

-- one byte more in front
faulty_more : (Inside : List ℕ → Type 0) (may_stand : ℕ → Bool) (b : ℕ) (bs : List ℕ) (v : Unclosed)
    → ((inside rest : List ℕ) → bs ≡ inside ++ rest → Inside inside → Inside (b ∷ inside)) → Faulty Inside may_stand bs v → Faulty Inside may_stand (b ∷ bs) (moved 1 v)
faulty_more Inside may_stand b bs Cut more h = more bs [] (sym (append-nil bs)) h
faulty_more Inside may_stand b bs (Bad k) more h = record {
  inside = b ∷ h.inside;
  byte = h.byte;
  rest = h.rest;
  parts = ap (λ (xs : List ℕ). b ∷ xs) h.parts;
  passes = more h.inside (h.byte ∷ h.rest) h.parts h.passes;
  alien = h.alien;
  place = omega (arith, h.place);
}

faulty_here : (Inside : List ℕ → Type 0) (may_stand : ℕ → Bool) (b : ℕ) (bs : List ℕ) (u : Unclosed) → Inside [] → may_stand b ≡ false → lost (Bad 0) ≡ lost u → Faulty Inside may_stand (b ∷ bs) u
faulty_here Inside may_stand b bs u none alien e =
    subst (λ (x : Unclosed). Faulty Inside may_stand (b ∷ bs) x) (lost_is (Bad 0) u e) (record { inside = []; byte = b; rest = bs; parts = refl; passes = none; alien = alien; place = refl })

-- ---- texts

abbrev pub TextFaulty : List ℕ → Unclosed → Type 0
TextFaulty bytes u = Faulty IsInside is_legal bytes u

pair_more : (b c : ℕ) (bs : List ℕ) (v : Unclosed) → b ≡ 39 → c ≡ 39 → TextFaulty bs v → TextFaulty (b ∷ c ∷ bs) (moved 2 v)
pair_more b c bs Cut eb ec h = inl (eb, ec, h)
pair_more b c bs (Bad k) eb ec h = record {
  inside = b ∷ c ∷ h.inside;
  byte = h.byte;
  rest = h.rest;
  parts = ap (λ (xs : List ℕ). b ∷ c ∷ xs) h.parts;
  passes = inl (eb, ec, h.passes);
  alien = h.alien;
  place = omega (arith, h.place);
}

text_step : (b c : ℕ) (bs : List ℕ) (u : Unclosed) (x y z : Bool) → eqb b 39 ≡ x → eqb c 39 ≡ y → is_legal b ≡ z
    → cond x (cond y (shifted 2 (text_end bs)) (Ok 1)) (cond z (shifted 1 (text_end (c ∷ bs))) (Err (Bad 0))) ≡ lost u
    → ((v : Unclosed) → text_end bs ≡ lost v → TextFaulty bs v) → ((v : Unclosed) → text_end (c ∷ bs) ≡ lost v → TextFaulty (c ∷ bs) v) → TextFaulty (b ∷ c ∷ bs) u
text_step b c bs u true true z eb ec ez e two one =
    let s = shifted_lost 2 u (text_end bs) e in
    subst (λ (x : Unclosed). TextFaulty (b ∷ c ∷ bs) x) s.2 (pair_more b c bs s.0 (eqb-true b 39 eb) (eqb-true c 39 ec) (two s.0 s.1))
text_step b c bs u true false z eb ec ez e two one = absurd (done_no_fault 1 u e)
text_step b c bs u false y true eb ec ez e two one =
    let s = shifted_lost 1 u (text_end (c ∷ bs)) e in
    subst (λ (x : Unclosed). TextFaulty (b ∷ c ∷ bs) x) s.2 (faulty_more IsInside is_legal b (c ∷ bs) s.0 (λ inside rest _ h. inside_more b inside eb ez h) (one s.0 s.1))
text_step b c bs u false y false eb ec ez e two one = faulty_here IsInside is_legal b (c ∷ bs) u tt ez e

text_last : (b : ℕ) (u : Unclosed) (x z : Bool) → eqb b 39 ≡ x → is_legal b ≡ z → cond x (Ok 1) (cond z (Err Cut) (Err (Bad 0))) ≡ lost u → TextFaulty (b ∷ []) u
text_last b u true z eb ez e = absurd (done_no_fault 1 u e)
text_last b u false true eb ez e = subst (λ (x : Unclosed). TextFaulty (b ∷ []) x) (lost_is Cut u e) (eb, ez)
text_last b u false false eb ez e = faulty_here IsInside is_legal b [] u tt ez e

pub text_faulty : (bytes : List ℕ) (u : Unclosed) → text_end bytes ≡ lost u → TextFaulty bytes u
unfolding text_end
text_faulty [] u e = subst (λ (x : Unclosed). TextFaulty [] x) (lost_is Cut u e) tt
text_faulty (b ∷ []) u e = text_last b u (eqb b 39) (is_legal b) refl refl e
text_faulty (b ∷ c ∷ bs) u e = text_step b c bs u (eqb b 39) (eqb c 39) (is_legal b) refl refl refl e (text_faulty bs) (text_faulty (c ∷ bs))

text_skip : (b : ℕ) (rest : List ℕ) → eqb b 39 ≡ false → IsTrue (is_legal b) → text_end (b ∷ rest) ≡ shifted 1 (text_end rest)
unfolding text_end
text_skip b [] other legal = rw (other, legal) refl
text_skip b (c ∷ cs) other legal = rw (other, legal) refl

text_double : (rest : List ℕ) → text_end (39 ∷ 39 ∷ rest) ≡ shifted 2 (text_end rest)
unfolding text_end
text_double rest = refl

-- an inside is passed over
text_over : (inside tail : List ℕ) → IsInside inside → text_end (inside ++ tail) ≡ shifted (length inside) (text_end tail)
text_over [] tail h = sym (shifted_none 0 (text_end tail) refl)
text_over (b ∷ []) tail h = text_skip b tail h.0 h.1
text_over (b ∷ c ∷ bs) tail (inl h) =
    let same : b ∷ c ∷ (bs ++ tail) ≡ 39 ∷ 39 ∷ (bs ++ tail) = rw (h.0, h.1) refl in
    ap text_end same ∙ text_double (bs ++ tail) ∙ ap (shifted 2) (text_over bs tail h.2) ∙ sym (shifted_more 2 (length bs) (suc (suc (length bs))) (text_end tail) (omega arith))
text_over (b ∷ c ∷ bs) tail (inr h) =
    text_skip b (c ∷ (bs ++ tail)) h.0 h.1 ∙ ap (shifted 1) (text_over (c ∷ bs) tail h.2) ∙ sym (shifted_more 1 (suc (length bs)) (suc (suc (length bs))) (text_end tail) (omega arith))

text_nothing : text_end [] ≡ lost Cut
unfolding text_end
text_nothing = refl

text_alien : (b : ℕ) (rest : List ℕ) → is_legal b ≡ false → text_end (b ∷ rest) ≡ lost (Bad 0)
unfolding text_end
text_alien b [] alien = let other : eqb b 39 ≡ false = grind (arith, nat_tests) in rw (other, alien) refl
text_alien b (c ∷ cs) alien = let other : eqb b 39 ≡ false = grind (arith, nat_tests) in rw (other, alien) refl

pub text_cut : (inside : List ℕ) → IsInside inside → text_end inside ≡ lost Cut
text_cut inside h = ap text_end (sym (append-nil inside)) ∙ text_over inside [] h ∙ ap (shifted (length inside)) text_nothing

pub text_spoilt : (inside : List ℕ) (b : ℕ) (rest : List ℕ) → IsInside inside → is_legal b ≡ false → text_end (inside ++ b ∷ rest) ≡ lost (Bad (length inside))
text_spoilt inside b rest h alien = text_over inside (b ∷ rest) h ∙ ap (shifted (length inside)) (text_alien b rest alien) ∙ ap (λ (k : ℕ). lost (Bad k)) (omega arith)

-- ---- binaries

-- what a binary may hold, its closing mark among it
abbrev pub binary_byte : ℕ → Bool
binary_byte b = is_hex b || eqb b 34

abbrev pub BinaryFaulty : List ℕ → Unclosed → Type 0
BinaryFaulty bytes u = Faulty (Each is_hex) binary_byte bytes u

binary_step : (b : ℕ) (bs : List ℕ) (u : Unclosed) (x z : Bool) → eqb b 34 ≡ x → is_hex b ≡ z → cond x (Ok 1) (cond z (shifted 1 (binary_end bs)) (Err (Bad 0))) ≡ lost u
    → ((v : Unclosed) → binary_end bs ≡ lost v → BinaryFaulty bs v) → BinaryFaulty (b ∷ bs) u
binary_step b bs u true z eb ez e more = absurd (done_no_fault 1 u e)
binary_step b bs u false true eb ez e more =
    let s = shifted_lost 1 u (binary_end bs) e in
    subst (λ (x : Unclosed). BinaryFaulty (b ∷ bs) x) s.2 (faulty_more (Each is_hex) binary_byte b bs s.0 (λ inside rest _ h. (ez, h)) (more s.0 s.1))
binary_step b bs u false false eb ez e more = faulty_here (Each is_hex) binary_byte b bs u tt (rw (ez, eb) refl) e

pub binary_faulty : (bytes : List ℕ) (u : Unclosed) → binary_end bytes ≡ lost u → BinaryFaulty bytes u
unfolding binary_end
binary_faulty [] u e = subst (λ (x : Unclosed). BinaryFaulty [] x) (lost_is Cut u e) tt
binary_faulty (b ∷ bs) u e = binary_step b bs u (eqb b 34) (is_hex b) refl refl e (binary_faulty bs)

binary_over : (inside tail : List ℕ) → Each is_hex inside → binary_end (inside ++ tail) ≡ shifted (length inside) (binary_end tail)
binary_over [] tail h = sym (shifted_none 0 (binary_end tail) refl)
binary_over (b ∷ bs) tail h =
    binary_passes b (bs ++ tail) h.0 ∙ ap (shifted 1) (binary_over bs tail h.1) ∙ sym (shifted_more 1 (length bs) (suc (length bs)) (binary_end tail) (omega arith))

binary_nothing : binary_end [] ≡ lost Cut
unfolding binary_end
binary_nothing = refl

binary_alien : (b : ℕ) (rest : List ℕ) → binary_byte b ≡ false → binary_end (b ∷ rest) ≡ lost (Bad 0)
unfolding binary_end
binary_alien b rest alien = let p = or_none (is_hex b) (eqb b 34) alien in rw (p.1, p.0) refl

pub binary_cut : (inside : List ℕ) → Each is_hex inside → binary_end inside ≡ lost Cut
binary_cut inside h = ap binary_end (sym (append-nil inside)) ∙ binary_over inside [] h ∙ ap (shifted (length inside)) binary_nothing

pub binary_spoilt : (inside : List ℕ) (b : ℕ) (rest : List ℕ) → Each is_hex inside → binary_byte b ≡ false → binary_end (inside ++ b ∷ rest) ≡ lost (Bad (length inside))
binary_spoilt inside b rest h alien = binary_over inside (b ∷ rest) h ∙ ap (shifted (length inside)) (binary_alien b rest alien) ∙ ap (λ (k : ℕ). lost (Bad k)) (omega arith)

-- ---- comments

abbrev pub CommentFaulty : List ℕ → Unclosed → Type 0
CommentFaulty bytes u = Faulty IsCommentInside is_legal bytes u

one_no_end : (b : ℕ) → ends_at (b ∷ []) ≡ false
one_no_end b = grind (arith, nat_tests)

ends_at-front : (b : ℕ) (bs inside rest : List ℕ) → ends_at (b ∷ bs) ≡ false → bs ≡ inside ++ rest → ends_at (b ∷ inside) ≡ false
ends_at-front b bs [] rest not_here parts = one_no_end b
ends_at-front b bs (c ∷ cs) rest not_here parts = subst (λ (xs : List ℕ). ends_at (b ∷ xs) ≡ false) parts not_here

remark_more : (b : ℕ) (bs inside rest : List ℕ) → ends_at (b ∷ bs) ≡ false → IsTrue (is_legal b) → bs ≡ inside ++ rest → IsCommentInside inside → IsCommentInside (b ∷ inside)
remark_more b bs inside rest not_here legal parts h = ((legal, h.0), rw (ends_at-front b bs inside rest not_here parts) h.1)

comment_step : (b : ℕ) (bs : List ℕ) (u : Unclosed) (x z : Bool) → ends_at (b ∷ bs) ≡ x → is_legal b ≡ z → cond x (Ok 2) (cond z (shifted 1 (comment_end bs)) (Err (Bad 0))) ≡ lost u
    → ((v : Unclosed) → comment_end bs ≡ lost v → CommentFaulty bs v) → CommentFaulty (b ∷ bs) u
comment_step b bs u true z eb ez e more = absurd (done_no_fault 2 u e)
comment_step b bs u false true eb ez e more =
    let s = shifted_lost 1 u (comment_end bs) e in
    subst (λ (x : Unclosed). CommentFaulty (b ∷ bs) x) s.2 (faulty_more IsCommentInside is_legal b bs s.0 (λ inside rest parts h. remark_more b bs inside rest eb ez parts h) (more s.0 s.1))
comment_step b bs u false false eb ez e more = faulty_here IsCommentInside is_legal b bs u (tt, refl) ez e

pub comment_faulty : (bytes : List ℕ) (u : Unclosed) → comment_end bytes ≡ lost u → CommentFaulty bytes u
unfolding comment_end
comment_faulty [] u e = subst (λ (x : Unclosed). CommentFaulty [] x) (lost_is Cut u e) (tt, refl)
comment_faulty (b ∷ bs) u e = comment_step b bs u (ends_at (b ∷ bs)) (is_legal b) refl refl e (comment_faulty bs)

ends_at-alien : (b : ℕ) (bs tail : List ℕ) → ends_at (b ∷ bs) ≡ false → NotFirst (λ c. eqb 47 c) tail → ends_at (b ∷ (bs ++ tail)) ≡ false
ends_at-alien b [] [] not_here other = one_no_end b
ends_at-alien b [] (c ∷ cs) not_here other = both (eqb 42 b) (eqb 47 c) other
  where
    both : (x y : Bool) → y ≡ false → (x && (y && true)) ≡ false
    both true y h = rw h refl
    both false y h = refl
ends_at-alien b (c ∷ cs) tail not_here other = not_here

comment_over : (inside tail : List ℕ) → IsCommentInside inside → NotFirst (λ c. eqb 47 c) tail → comment_end (inside ++ tail) ≡ shifted (length inside) (comment_end tail)
comment_over [] tail h other = sym (shifted_none 0 (comment_end tail) refl)
comment_over (b ∷ bs) tail h other =
    let none = or_none (ends_at (b ∷ bs)) (has_end bs) h.1 in
    comment_passes b (bs ++ tail) (ends_at-alien b bs tail none.0 other) h.0.0 ∙ ap (shifted 1) (comment_over bs tail (h.0.1, none.1) other)
    ∙ sym (shifted_more 1 (length bs) (suc (length bs)) (comment_end tail) (omega arith))

comment_nothing : comment_end [] ≡ lost Cut
unfolding comment_end
comment_nothing = refl

alien_no_end : (b : ℕ) (rest : List ℕ) → is_legal b ≡ false → ends_at (b ∷ rest) ≡ false
alien_no_end b [] alien = one_no_end b
alien_no_end b (c ∷ cs) alien = let other : eqb 42 b ≡ false = grind (arith, nat_tests) in rw other refl

comment_alien : (b : ℕ) (rest : List ℕ) → is_legal b ≡ false → comment_end (b ∷ rest) ≡ lost (Bad 0)
unfolding comment_end
comment_alien b rest alien = rw (alien_no_end b rest alien, alien) refl

pub comment_cut : (inside : List ℕ) → IsCommentInside inside → comment_end inside ≡ lost Cut
comment_cut inside h = ap comment_end (sym (append-nil inside)) ∙ comment_over inside [] h tt ∙ ap (shifted (length inside)) comment_nothing

pub comment_spoilt : (inside : List ℕ) (b : ℕ) (rest : List ℕ) → IsCommentInside inside → is_legal b ≡ false → comment_end (inside ++ b ∷ rest) ≡ lost (Bad (length inside))
comment_spoilt inside b rest h alien =
    let other : eqb 47 b ≡ false = grind (arith, nat_tests) in
    comment_over inside (b ∷ rest) h other ∙ ap (shifted (length inside)) (comment_alien b rest alien) ∙ ap (λ (k : ℕ). lost (Bad k)) (omega arith)
