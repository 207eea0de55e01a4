-- Words are read as they are written, and no other words are.
use Rattle.std.proofs.Common.{◌≡◌, ◌≢◌, ℕ, zero, suc, ◌+◌, ◌-◌, ◌*◌, ◌/◌, ◌%◌, ◌^◌, ◌<◌, ◌≤◌, ◌⊎◌, inl, inr, ℤ, pos, negsuc, Bool, true, false, cond, eqb, leb, ◌&&◌, List, [], ◌∷◌, ◌++◌, Option, Some, None, refl, sym, ap, ◌∙◌, append_assoc, arith, eq-eqb}
use Rattle.std.specs.Prelude.{unsigned_abs, neg_ℤ, decimal}
use Rattle.std.specs.Fmt.{signed_decimal}
use Rattle.std.proofs.lemmas.Bool.{eqb-true, eqb-false, ne_eqb, leb-true, le-leb}
use Rattle.std.proofs.lemmas.Option.{same_Some, some_pair_parts}
use Rattle.std.proofs.lemmas.Fmt.{decimal_digit, decimal_step, decimal_by_steps}
use Rattle.log_read.specs.Range.{is_from, is_within, is_rate}
use Rattle.log_read.specs.declared.limits.TheConstants.{MAX_RATE}
use Rattle.log_read.specs.Reading.{◌>>=◌, byte_at, bytes_at, is_digit, digits_at, number_at, ranged_at, field_at, signed_at, length_at, rate_at}

-- ---- steps of reading

-- a step that did not fail
pub bind_some : {A B : Type 0} (o : Option A) (f : A → Option B) (y : B) → (o >>= f) ≡ Some y → (x : A) × (o ≡ Some x) × (f x ≡ Some y)
bind_some (Some x) f y e = (x, refl, e)
bind_some None f y e = absurd cc

-- a test that did not fail
pub guard_some : {A : Type 0} (b : Bool) (x : Option A) (y : A) → cond b x None ≡ Some y → (b ≡ true) × (x ≡ Some y)
guard_some true x y e = (refl, e)
guard_some false x y e = absurd cc

-- a choice
pub chosen : {A : Type 0} (b : Bool) (x y z : A) → cond b x y ≡ z → ((b ≡ true) × (x ≡ z)) ⊎ ((b ≡ false) × (y ≡ z))
chosen true x y z e = inl (refl, e)
chosen false x y z e = inr (refl, e)

-- both of two tests
pub both_pass : (a b : Bool) → (a && b) ≡ true → (a ≡ true) × (b ≡ true)
both_pass true b e = (refl, e)
both_pass false b e = absurd cc

pub pass_both : (a b : Bool) → a ≡ true → b ≡ true → (a && b) ≡ true
pass_both a b e h = rw (e, h) refl

pub in_from : (least most n : ℕ) → least ≤ n → n ≤ most → is_from least most n ≡ true
in_from least most n low high = rw (le-leb least n low, le-leb n most high) refl

pub from_in : (least most n : ℕ) → is_from least most n ≡ true → (least ≤ n) × (n ≤ most)
from_in least most n e = let g = both_pass (leb least n) (leb n most) e in (leb-true least n g.0, leb-true n most g.1)

-- ---- bytes

pub byte_takes : (b : ℕ) (bs r : List ℕ) → byte_at b bs ≡ Some r → bs ≡ b ∷ r
unfolding byte_at
byte_takes b [] r e = absurd cc
byte_takes b (c ∷ bs) r e =
    let g = guard_some (eqb c b) (Some bs) r e in
    ap (λ (x : ℕ). x ∷ bs) (eqb-true c b g.0) ∙ ap (λ (x : List ℕ). b ∷ x) (same_Some bs r g.1)

pub byte_again : (b : ℕ) (r : List ℕ) → byte_at b (b ∷ r) ≡ Some r
unfolding byte_at
byte_again b r = rw (eq-eqb b b refl) refl

pub bytes_take : (ws bs r : List ℕ) → bytes_at ws bs ≡ Some r → bs ≡ ws ++ r
bytes_take [] bs r e = same_Some bs r e
bytes_take (w ∷ ws) bs r e =
    let s = bind_some (byte_at w bs) (bytes_at ws) r e in
    byte_takes w bs s.0 s.1 ∙ ap (λ (x : List ℕ). w ∷ x) (bytes_take ws s.0 r s.2)

pub bytes_again : (ws r : List ℕ) → bytes_at ws (ws ++ r) ≡ Some r
bytes_again [] r = refl
bytes_again (w ∷ ws) r = rw (byte_again w (ws ++ r)) (bytes_again ws r)

-- ---- digits

digit_bounds : (b : ℕ) → is_digit b ≡ true → (48 ≤ b) × (b ≤ 57)
digit_bounds b e = let g = both_pass (leb 48 b) (leb b 57) e in (leb-true 48 b g.0, leb-true b 57 g.1)

bounds_digit : (b : ℕ) → 48 ≤ b → b ≤ 57 → is_digit b ≡ true
bounds_digit b low high = rw (le-leb 48 b low, le-leb b 57 high) refl

-- one digit more
decimal_more : (n b : ℕ) → 0 < n → 48 ≤ b → b ≤ 57 → n * 10 + (b - 48) < 2 ^ 64 → decimal (n * 10 + (b - 48)) ≡ decimal n ++ b ∷ []
decimal_more n b some low high small =
    let k = n * 10 + (b - 48) in
    let front : k / 10 ≡ n = omega arith in
    let last : 48 + k % 10 ≡ b = omega arith in
    let step = decimal_step k (omega arith) small in
    step ∙ ap (λ (m : ℕ). decimal m ++ (48 + k % 10) ∷ []) front ∙ ap (λ (d : ℕ). decimal n ++ d ∷ []) last

digits_step : (most n b : ℕ) (bs : List ℕ) → 48 ≤ b → b ≤ 57 → n * 10 + (b - 48) ≤ most → digits_at most n (b ∷ bs) ≡ digits_at most (n * 10 + (b - 48)) bs
unfolding digits_at
digits_step most n b bs low high le = rw (bounds_digit b low high, le-leb (n * 10 + (b - 48)) most le) refl

pub digits_take : (most n : ℕ) (bs : List ℕ) (m : ℕ) (r : List ℕ) → 0 < n → n ≤ most → most < 2 ^ 64 → digits_at most n bs ≡ Some (m, r)
    → (decimal n ++ bs ≡ decimal m ++ r) × (m ≤ most) × (0 < m)
unfolding digits_at
digits_take most n [] m r some le small e =
    let p = some_pair_parts n m [] r e in
    (ap (λ (k : ℕ). decimal k ++ []) p.0 ∙ ap (λ (x : List ℕ). decimal m ++ x) p.1, omega (arith, p.0), omega (arith, p.0))
digits_take most n (b ∷ bs) m r some le small e =
    let k = n * 10 + (b - 48) in
    elim (chosen (is_digit b) (cond (leb k most) (digits_at most k bs) None) (Some (n, b ∷ bs)) (Some (m, r)) e) [
      | inl g ↦
          let d = digit_bounds b g.0 in
          let h = guard_some (leb k most) (digits_at most k bs) (m, r) g.1 in
          let within = leb-true k most h.0 in
          let rest = digits_take most k bs m r (omega arith) within small h.1 in
          let more = decimal_more n b some d.0 d.1 (omega arith) in
          (sym (append_assoc (decimal n) (b ∷ []) bs) ∙ ap (λ (x : List ℕ). x ++ bs) (sym more) ∙ rest.0, rest.1, rest.2)
      | inr g ↦
          let p = some_pair_parts n m (b ∷ bs) r g.1 in
          (ap (λ (k : ℕ). decimal k ++ (b ∷ bs)) p.0 ∙ ap (λ (x : List ℕ). decimal m ++ x) p.1, omega (arith, p.0), omega (arith, p.0))
    ]

-- the digits of a number lead to it
abbrev Leads : ℕ → List ℕ → Type 0
Leads n ds = (most : ℕ) (s : List ℕ) → 0 < n → n ≤ most → digits_at most 0 (ds ++ s) ≡ digits_at most n s

digits_lead : (n : ℕ) → n < 2 ^ 64 → Leads n (decimal n)
digits_lead n small =
    decimal_by_steps Leads
    (λ n few most s some le. digits_step most 0 (48 + n) s (omega arith) (omega arith) (omega arith) ∙ ap (λ (k : ℕ). digits_at most k s) (omega arith))
    (λ n ds ten before most s some le.
    let d = 48 + n % 10 in
    ap (λ (x : List ℕ). digits_at most 0 x) (append_assoc ds (d ∷ []) s)
    ∙ before most (d ∷ s) (omega arith) (omega arith)
    ∙ digits_step most (n / 10) d s (omega arith) (omega arith) (omega arith)
    ∙ ap (λ (k : ℕ). digits_at most k s) (omega arith))
    n small

-- how a number begins
pub record Starts (n : ℕ) (ds : List ℕ) : Type 0 where
  pub first : ℕ
  pub others : List ℕ
  pub is : ds ≡ first ∷ others
  pub low : 48 ≤ first
  pub high : first ≤ 57
  pub nonzero : 0 < n → 49 ≤ first

pub decimal_starts : (n : ℕ) → n < 2 ^ 64 → Starts n (decimal n)
decimal_starts n small =
    decimal_by_steps Starts
    (λ n few. record { first = 48 + n; others = []; is = refl; low = omega arith; high = omega arith; nonzero = λ some. omega arith })
    (λ n ds ten before. record {
      first = before.first;
      others = before.others ++ (48 + n % 10) ∷ [];
      is = ap (λ (x : List ℕ). x ++ (48 + n % 10) ∷ []) before.is;
      low = before.low;
      high = before.high;
      nonzero = λ some. before.nonzero (omega arith);
    })
    n small

-- no number goes on with the text
abbrev pub IsStopped : List ℕ → Type 0
IsStopped s = (most n : ℕ) → digits_at most n s ≡ Some (n, s)

pub space_stops : (s : List ℕ) → IsStopped (32 ∷ s)
unfolding digits_at
space_stops s = λ most n. refl

pub end_stops : (s : List ℕ) → IsStopped (10 ∷ s)
unfolding digits_at
end_stops s = λ most n. refl

-- ---- numbers

number_zero : (most : ℕ) (s : List ℕ) → number_at most (48 ∷ s) ≡ Some (0, s)
unfolding number_at
number_zero most s = refl

number_from : (most b : ℕ) (bs : List ℕ) → 49 ≤ b → b ≤ 57 → number_at most (b ∷ bs) ≡ digits_at most 0 (b ∷ bs)
unfolding number_at
number_from most b bs low high = rw (ne_eqb b 48 (λ e. omega (arith, e)), bounds_digit b (omega arith) high) refl

pub number_again : (most n : ℕ) (s : List ℕ) → n ≤ most → most < 2 ^ 64 → IsStopped s → number_at most (decimal n ++ s) ≡ Some (n, s)
number_again most zero s le small stops = ap (λ (x : List ℕ). number_at most (x ++ s)) (decimal_digit 0 (omega arith)) ∙ number_zero most s
number_again most (suc k) s le small stops =
    let n = suc k in
    let start = decimal_starts n (omega arith) in
    let text : decimal n ++ s ≡ start.first ∷ (start.others ++ s) = ap (λ (x : List ℕ). x ++ s) start.is in
    ap (λ (x : List ℕ). number_at most x) text
    ∙ number_from most start.first (start.others ++ s) (start.nonzero (omega arith)) start.high
    ∙ ap (λ (x : List ℕ). digits_at most 0 x) (sym text)
    ∙ digits_lead n (omega arith) most s (omega arith) le
    ∙ stops most n

digits_first : (most n b : ℕ) (bs : List ℕ) → is_digit b ≡ true → digits_at most n (b ∷ bs) ≡ cond (leb (n * 10 + (b - 48)) most) (digits_at most (n * 10 + (b - 48)) bs) None
unfolding digits_at
digits_first most n b bs e = rw e refl

first_taken : (most b : ℕ) (bs : List ℕ) (n : ℕ) (r : List ℕ) → most < 2 ^ 64 → 49 ≤ b → b ≤ 57 → digits_at most 0 (b ∷ bs) ≡ Some (n, r) → (b ∷ bs ≡ decimal n ++ r) × (n ≤ most)
first_taken most b bs n r small low high e =
    let k = 0 * 10 + (b - 48) in
    let h = guard_some (leb k most) (digits_at most k bs) (n, r) (sym (digits_first most 0 b bs (bounds_digit b (omega arith) high)) ∙ e) in
    let rest = digits_take most k bs n r (omega arith) (leb-true k most h.0) small h.1 in
    let one : decimal k ≡ b ∷ [] = decimal_digit k (omega arith) ∙ ap (λ (x : ℕ). x ∷ []) (omega arith) in
    (ap (λ (x : List ℕ). x ++ bs) (sym one) ∙ rest.0, rest.1)

pub number_takes : (most : ℕ) (bs : List ℕ) (n : ℕ) (r : List ℕ) → most < 2 ^ 64 → number_at most bs ≡ Some (n, r) → (bs ≡ decimal n ++ r) × (n ≤ most)
unfolding number_at
number_takes most [] n r small e = absurd cc
number_takes most (b ∷ bs) n r small e =
    elim (chosen (eqb b 48) (Some (0, bs)) (cond (is_digit b) (digits_at most 0 (b ∷ bs)) None) (Some (n, r)) e) [
      | inl g ↦
          let p = some_pair_parts 0 n bs r g.1 in
          let zero_text = decimal_digit 0 (omega arith) in
          (ap (λ (x : ℕ). x ∷ bs) (eqb-true b 48 g.0) ∙ ap (λ (x : List ℕ). 48 ∷ x) p.1 ∙ ap (λ (x : List ℕ). x ++ r) (sym zero_text) ∙ ap (λ (k : ℕ). decimal k ++ r) p.0, omega (arith, p.0))
      | inr g ↦
          let h = guard_some (is_digit b) (digits_at most 0 (b ∷ bs)) (n, r) g.1 in
          let d = digit_bounds b h.0 in
          let other : b ≢ 48 = eqb-false b 48 g.0 in
          first_taken most b bs n r small (omega arith) d.1 h.1
    ]

pub ranged_takes : (least most : ℕ) (bs : List ℕ) (n : ℕ) (r : List ℕ) → most < 2 ^ 64 → ranged_at least most bs ≡ Some (n, r) → (bs ≡ decimal n ++ r) × (least ≤ n) × (n ≤ most)
unfolding ranged_at
ranged_takes least most bs n r small e =
    let s = bind_some (number_at most bs) (λ m. cond (leb least m.0) (Some m) None) (n, r) e in
    let g = guard_some (leb least s.0.0) (Some s.0) (n, r) s.2 in
    let p = some_pair_parts s.0.0 n s.0.1 r g.1 in
    let t = number_takes most bs s.0.0 s.0.1 small s.1 in
    let low = leb-true least s.0.0 g.0 in
    (t.0 ∙ ap (λ (k : ℕ). decimal k ++ s.0.1) p.0 ∙ ap (λ (x : List ℕ). decimal n ++ x) p.1, omega (arith, p.0, low), omega (arith, p.0, t.1))

pub ranged_again : (least most n : ℕ) (s : List ℕ) → least ≤ n → n ≤ most → most < 2 ^ 64 → IsStopped s → ranged_at least most (decimal n ++ s) ≡ Some (n, s)
unfolding ranged_at
ranged_again least most n s low le small stops = rw (number_again most n s le small stops, le-leb least n low) refl

-- how a number behind a space is written
abbrev pub field : ℕ → List ℕ → List ℕ
field n s = 32 ∷ (decimal n ++ s)

pub field_takes : (least most : ℕ) (bs : List ℕ) (n : ℕ) (r : List ℕ) → most < 2 ^ 64 → field_at least most bs ≡ Some (n, r) → (bs ≡ field n r) × (least ≤ n) × (n ≤ most)
unfolding field_at
field_takes least most bs n r small e =
    let s = bind_some (byte_at 32 bs) (ranged_at least most) (n, r) e in
    let t = ranged_takes least most s.0 n r small s.2 in
    (byte_takes 32 bs s.0 s.1 ∙ ap (λ (x : List ℕ). 32 ∷ x) t.0, t.1, t.2)

pub field_again : (least most n : ℕ) (s : List ℕ) → least ≤ n → n ≤ most → most < 2 ^ 64 → IsStopped s → field_at least most (field n s) ≡ Some (n, s)
unfolding field_at
field_again least most n s low le small stops = rw (byte_again 32 (decimal n ++ s)) (ranged_again least most n s low le small stops)

-- ---- signed numbers

below_zero : (n : ℕ) → 1 ≤ n → (signed_decimal (neg_ℤ (pos n)) ≡ 45 ∷ decimal n) × (unsigned_abs (neg_ℤ (pos n)) ≡ n)
below_zero zero some = absurd (omega arith)
below_zero (suc k) some = (refl, refl)

pub signed_takes : (most : ℕ) (bs : List ℕ) (z : ℤ) (r : List ℕ) → most < 2 ^ 64 → signed_at most bs ≡ Some (z, r) → (bs ≡ signed_decimal z ++ r) × (unsigned_abs z ≤ most)
unfolding signed_at
signed_takes most [] z r small e = absurd cc
signed_takes most (b ∷ bs) z r small e =
    elim (chosen (eqb b 45) (ranged_at 1 most bs >>= λ n. Some (neg_ℤ (pos n.0), n.1)) (ranged_at 0 most (b ∷ bs) >>= λ n. Some (pos n.0, n.1)) (Some (z, r)) e) [
      | inl g ↦
          let s = bind_some (ranged_at 1 most bs) (λ n. Some (neg_ℤ (pos n.0), n.1)) (z, r) g.1 in
          let t = ranged_takes 1 most bs s.0.0 s.0.1 small s.1 in
          let p = some_pair_parts (neg_ℤ (pos s.0.0)) z s.0.1 r s.2 in
          let minus = below_zero s.0.0 t.1 in
          let text : (b ∷ bs) ≡ signed_decimal (neg_ℤ (pos s.0.0)) ++ s.0.1 = rw (minus.0) (ap (λ (x : ℕ). x ∷ bs) (eqb-true b 45 g.0) ∙ ap (λ (x : List ℕ). 45 ∷ x) t.0) in
          (text ∙ ap (λ (x : ℤ). signed_decimal x ++ s.0.1) p.0 ∙ ap (λ (x : List ℕ). signed_decimal z ++ x) p.1, omega (arith, t.2, minus.1, ap unsigned_abs p.0))
      | inr g ↦
          let s = bind_some (ranged_at 0 most (b ∷ bs)) (λ n. Some (pos n.0, n.1)) (z, r) g.1 in
          let t = ranged_takes 0 most (b ∷ bs) s.0.0 s.0.1 small s.1 in
          let p = some_pair_parts (pos s.0.0) z s.0.1 r s.2 in
          (t.0 ∙ ap (λ (x : ℤ). signed_decimal x ++ s.0.1) p.0 ∙ ap (λ (x : List ℕ). signed_decimal z ++ x) p.1, omega (arith, t.2, ap unsigned_abs p.0))
    ]

signed_plain : (most b : ℕ) (bs : List ℕ) → 48 ≤ b → signed_at most (b ∷ bs) ≡ (ranged_at 0 most (b ∷ bs) >>= λ n. Some (pos n.0, n.1))
unfolding signed_at
signed_plain most b bs low = rw (ne_eqb b 45 (λ e. omega (arith, e))) refl

signed_minus : (most : ℕ) (bs : List ℕ) → signed_at most (45 ∷ bs) ≡ (ranged_at 1 most bs >>= λ n. Some (neg_ℤ (pos n.0), n.1))
unfolding signed_at
signed_minus most bs = refl

pub signed_again : (most : ℕ) (z : ℤ) (s : List ℕ) → unsigned_abs z ≤ most → most < 2 ^ 64 → IsStopped s → signed_at most (signed_decimal z ++ s) ≡ Some (z, s)
signed_again most (negsuc k) s le small stops = rw (signed_minus most (decimal (suc k) ++ s), ranged_again 1 most (suc k) s (omega arith) le small stops) refl
signed_again most (pos n) s le small stops =
    let start = decimal_starts n (omega (arith, le)) in
    let text : decimal n ++ s ≡ start.first ∷ (start.others ++ s) = ap (λ (x : List ℕ). x ++ s) start.is in
    ap (λ (x : List ℕ). signed_at most x) text
    ∙ signed_plain most start.first (start.others ++ s) start.low
    ∙ ap (λ (x : List ℕ). ranged_at 0 most x >>= λ n. Some (pos n.0, n.1)) (sym text)
    ∙ ap (λ (o : Option (ℕ × List ℕ)). o >>= λ n. Some (pos n.0, n.1)) (ranged_again 0 most n s (omega arith) le small stops)

-- how a length behind a space is written
abbrev pub length_field : ℤ → List ℕ → List ℕ
length_field z s = 32 ∷ (signed_decimal z ++ s)

pub length_takes : (most : ℕ) (bs : List ℕ) (z : ℤ) (r : List ℕ) → most < 2 ^ 64 → length_at most bs ≡ Some (z, r) → (bs ≡ length_field z r) × (is_within most z ≡ true)
unfolding length_at
length_takes most bs z r small e =
    let s = bind_some (byte_at 32 bs) (signed_at most) (z, r) e in
    let t = signed_takes most s.0 z r small s.2 in
    (byte_takes 32 bs s.0 s.1 ∙ ap (λ (x : List ℕ). 32 ∷ x) t.0, le-leb (unsigned_abs z) most t.1)

pub length_again : (most : ℕ) (z : ℤ) (s : List ℕ) → is_within most z ≡ true → most < 2 ^ 64 → IsStopped s → length_at most (length_field z s) ≡ Some (z, s)
unfolding length_at
length_again most z s le small stops = rw (byte_again 32 (signed_decimal z ++ s)) (signed_again most z s (leb-true (unsigned_abs z) most le) small stops)

pub rate_takes : (bs : List ℕ) (z : ℤ) (r : List ℕ) → rate_at bs ≡ Some (z, r) → (bs ≡ length_field z r) × (is_rate z ≡ true)
unfolding rate_at
rate_takes bs z r e =
    let s = bind_some (field_at 1 MAX_RATE bs) (λ n. Some (pos n.0, n.1)) (z, r) e in
    let t = field_takes 1 MAX_RATE bs s.0.0 s.0.1 (omega arith) s.1 in
    let p = some_pair_parts (pos s.0.0) z s.0.1 r s.2 in
    (t.0 ∙ ap (λ (x : ℤ). length_field x s.0.1) p.0 ∙ ap (λ (x : List ℕ). length_field z x) p.1, ap is_rate (sym p.0) ∙ in_from 1 MAX_RATE s.0.0 t.1 t.2)

pub rate_again : (z : ℤ) (s : List ℕ) → is_rate z ≡ true → IsStopped s → rate_at (length_field z s) ≡ Some (z, s)
unfolding rate_at
rate_again (negsuc k) s e stops = absurd cc
rate_again (pos n) s e stops = let b = from_in 1 MAX_RATE n e in rw (field_again 1 MAX_RATE n s b.0 b.1 (omega arith) stops) refl
