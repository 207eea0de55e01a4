-- Three levels of words, after a change of one bit in each, and the least bit of all.
use Rattle.std.proofs.Common.{◌≡◌, ◌≢◌, ◌<◌, ◌≤◌, ◌/◌, ℕ, true, false, List, length, slice_index, ◌∙◌, subst, inl, inr, arith}
use Rattle.std.proofs.lemmas.Bool.{cases_lt}
use Rattle.std.proofs.lemmas.List.{get_or_past}
use Rattle.std.proofs.lemmas.Bool.Decides.{nat_tests}
use Rattle.place_set.specs.Words.{bit_of, holds, SumsUp, IsSummed}
use Rattle.place_set.proofs.SumLemmas.{sums_set, sums_clear, sums_keep, bit_above, some_word, least_word, no_bit}

-- bit i is b now, and nothing else has changed
pub Changed : ℕ → List ℕ → List ℕ → ℕ → Type 0
Changed b words words' i =
    (length words' ≡ length words) × (bit_of words' i ≡ b) × ((j : ℕ) → j ≢ i → bit_of words' j ≡ bit_of words j) × ((w : ℕ) → w ≢ i / 64 → slice_index words' w ≡ slice_index words w)

pub changed : (b : ℕ) (words words' : List ℕ) (i : ℕ) → length words' ≡ length words → bit_of words' i ≡ b → ((j : ℕ) → j ≢ i → bit_of words' j ≡ bit_of words j) → ((w : ℕ) → w ≢ i / 64 → slice_index words' w ≡ slice_index words w) → Changed b words words' i
unfolding Changed
changed b words words' i l s o r = (l, s, o, r)

pub is_one : (words : List ℕ) (i : ℕ) → holds words i ≡ true → bit_of words i ≡ 1
is_one words i h = grind (arith, nat_tests)

pub summed_set : (low mid top low' mid' top' : List ℕ) (i : ℕ) → i < 262144 → Changed 1 low low' i → Changed 1 mid mid' (i / 64) → Changed 1 top top' (i / 64 / 64) → IsSummed low mid top → IsSummed low' mid' top'
unfolding Changed
summed_set low mid top low' mid' top' i l a b c s =
    record {
      low_length = a.0 ∙ s.low_length;
      mid_length = b.0 ∙ s.mid_length;
      top_length = c.0 ∙ s.top_length;
      low_sums = sums_set low low' mid mid' i a.0 a.3 b.2 a.1 b.1 s.low_sums;
      mid_sums = sums_set mid mid' top top' (i / 64) b.0 b.3 c.2 b.1 c.1 s.mid_sums;
    }

pub summed_clear : (low mid top low' mid' top' : List ℕ) (i : ℕ) → i < 262144 → Changed 0 low low' i → Changed 0 mid mid' (i / 64) → Changed 0 top top' (i / 64 / 64) → slice_index low' (i / 64) ≡ 0 → slice_index mid' (i / 64 / 64) ≡ 0 → IsSummed low mid top → IsSummed low' mid' top'
unfolding Changed
summed_clear low mid top low' mid' top' i l a b c p q s =
    record {
      low_length = a.0 ∙ s.low_length;
      mid_length = b.0 ∙ s.mid_length;
      top_length = c.0 ∙ s.top_length;
      low_sums = sums_clear low low' mid mid' i a.0 a.3 b.2 p b.1 s.low_sums;
      mid_sums = sums_clear mid mid' top top' (i / 64) b.0 b.3 c.2 q c.1 s.mid_sums;
    }

pub summed_clear_mid : (low mid top low' mid' : List ℕ) (i : ℕ) → i < 262144 → holds low i ≡ true → Changed 0 low low' i → Changed 0 mid mid' (i / 64) → slice_index low' (i / 64) ≡ 0 → slice_index mid' (i / 64 / 64) ≢ 0 → IsSummed low mid top → IsSummed low' mid' top
unfolding Changed
summed_clear_mid low mid top low' mid' i l h a b p q s =
    let ll = s.low_length in
    let ml = s.mid_length in
    record {
      low_length = a.0 ∙ s.low_length;
      mid_length = b.0 ∙ s.mid_length;
      top_length = s.top_length;
      low_sums = sums_clear low low' mid mid' i a.0 a.3 b.2 p b.1 s.low_sums;
      mid_sums = sums_keep mid mid' top (i / 64) b.0 b.3 (omega arith) (bit_above low mid i s.low_sums (omega arith) (is_one low i h)) q s.mid_sums;
    }

pub summed_clear_low : (low mid top low' : List ℕ) (i : ℕ) → i < 262144 → holds low i ≡ true → Changed 0 low low' i → slice_index low' (i / 64) ≢ 0 → IsSummed low mid top → IsSummed low' mid top
unfolding Changed
summed_clear_low low mid top low' i l h a p s =
    let ll = s.low_length in
    record {
      low_length = a.0 ∙ s.low_length;
      mid_length = s.mid_length;
      top_length = s.top_length;
      low_sums = sums_keep low low' mid i a.0 a.3 (omega arith) (is_one low i h) p s.low_sums;
      mid_sums = s.mid_sums;
    }

-- ---- the least bit

-- i is the least bit of these words
pub IsLeast : List ℕ → ℕ → Type 0
IsLeast words i = (bit_of words i ≡ 1) × ((j : ℕ) → j < i → bit_of words j ≡ 0)

pub least_of_top : (top : List ℕ) (a : ℕ) → a / 64 ≡ 0 → bit_of top a ≡ 1 → ((j : ℕ) → j / 64 ≡ 0 → j < a → bit_of top j ≡ 0) → IsLeast top a
unfolding IsLeast
least_of_top top a e b f = (b, λ j l. f j (omega arith) l)

pub least_below : (below above : List ℕ) (w i : ℕ) → SumsUp below above → w < length below → IsLeast above w → i / 64 ≡ w → bit_of below i ≡ 1 → ((j : ℕ) → j / 64 ≡ w → j < i → bit_of below j ≡ 0) → IsLeast below i
unfolding IsLeast
least_below below above w i s l u e b f = (b, λ j k. elim (cases_lt (j / 64) w) [ inl g ↦ least_word below above w s u.1 (omega arith) j g | inr g ↦ f j (omega arith) k ])

pub least_word_of : (below above : List ℕ) (w : ℕ) → SumsUp below above → w < length below → bit_of above w ≡ 1 → 0 < slice_index below w
least_word_of below above w s l b = some_word below above w s l b

pub found : (low mid top : List ℕ) (a b c : ℕ) → IsSummed low mid top → a / 64 ≡ 0 → bit_of top a ≡ 1 → ((j : ℕ) → j / 64 ≡ 0 → j < a → bit_of top j ≡ 0) → b / 64 ≡ a → bit_of mid b ≡ 1 → ((j : ℕ) → j / 64 ≡ a → j < b → bit_of mid j ≡ 0) → c / 64 ≡ b → bit_of low c ≡ 1 → ((j : ℕ) → j / 64 ≡ b → j < c → bit_of low j ≡ 0) → (holds low c ≡ true) × (c < 262144) × ((q : ℕ) → q < c → holds low q ≡ false)
unfolding IsLeast
found low mid top a b c s ea ta fa eb tb fb ec tc fc =
    let ll = s.low_length in
    let ml = s.mid_length in
    let z = least_below low mid b c s.low_sums (omega arith) (least_below mid top a b s.mid_sums (omega arith) (least_of_top top a ea ta fa) eb tb fb) ec tc fc in
    (one c z.0, omega arith, λ q l. none q (z.1 q l))
  where
    one : (q : ℕ) → bit_of low q ≡ 1 → holds low q ≡ true
    one q h = grind (arith, nat_tests)

    none : (q : ℕ) → bit_of low q ≡ 0 → holds low q ≡ false
    none q h = grind (arith, nat_tests)

past : (low : List ℕ) (q : ℕ) → length low ≡ 4096 → 262144 ≤ q → bit_of low q ≡ 0
past low q ll g = no_bit low q (get_or_past low (q / 64) 0 (omega (arith, ll, g)))

within : (low mid top : List ℕ) → IsSummed low mid top → slice_index top 0 ≡ 0 → (q : ℕ) → q < 262144 → bit_of low q ≡ 0
within low mid top s z q l =
    let ll = s.low_length in
    let ml = s.mid_length in
    let t : bit_of top (q / 64 / 64) ≡ 0 = no_bit top (q / 64 / 64) (subst (λ (w : ℕ). slice_index top w ≡ 0) (let e : 0 ≡ q / 64 / 64 / 64 = omega arith in e) z) in
    let m : bit_of mid (q / 64) ≡ 0 = no_bit mid (q / 64) ((s.mid_sums (q / 64 / 64) (omega arith)).0 t) in
    no_bit low q ((s.low_sums (q / 64) (omega arith)).0 m)

pub empty : (low mid top : List ℕ) → IsSummed low mid top → slice_index top 0 ≡ 0 → (q : ℕ) → holds low q ≡ false
empty low mid top s z q = none (elim (cases_lt q 262144) [ inl l ↦ within low mid top s z q l | inr g ↦ past low q s.low_length g ])
  where
    none : bit_of low q ≡ 0 → holds low q ≡ false
    none h = grind (arith, nat_tests)
