-- The first bit from a place on: in its own word, or in the first word behind it that isn't zero.
use Rattle.std.proofs.Common.{◌≡◌, ◌≢◌, ◌⊎◌, ◌<◌, ◌≤◌, ◌+◌, ◌-◌, ◌/◌, ◌%◌, ◌^◌, ℕ, zero, suc, true, false, List, length, slice_index, refl, sym, ◌∙◌, ap, subst, inl, inr, arith, w64}
use Rattle.std.specs.Int.{bit_at, trailing_zeros}
use Rattle.std.proofs.lemmas.Bool.{cases_lt, cases_eq}
use Rattle.std.proofs.lemmas.Bool.Decides.{nat_tests}
use Rattle.std.proofs.lemmas.List.{get_or_past}
use Rattle.std.proofs.lemmas.Nat.{pow-add}
use Rattle.std.proofs.lemmas.Nat.Bits.{bit_at-zero, bit_at-trailing_zeros}
use Rattle.std.proofs.Math.Nat.{div-div-eq-div-mul, div-le_self}
use Rattle.place_set.specs.Words.{bit_of, holds, SumsUp, NoneInWord, IsNextInWord, NoneFrom, IsNextFrom}
use Rattle.place_set.proofs.SumLemmas.{no_bit, some_word}

-- ---- the bits of a word that was moved down

moved_bit : (n s k : ℕ) → bit_at (n / 2 ^ s) k ≡ bit_at n (s + k)
moved_bit n s k = ap (λ (m : ℕ). m % 2) (div-div-eq-div-mul n (2 ^ s) (2 ^ k) ∙ ap (λ (m : ℕ). n / m) (sym (pow-add 2 s k)))

pub none_in_word : (words : List ℕ) (i : ℕ) → slice_index words (i / 64) / 2 ^ (i % 64) ≡ 0 → NoneInWord words i
none_in_word words i z j e l =
    let k : j % 64 ≡ i % 64 + (j % 64 - i % 64) = omega arith in
    ap (λ (w : ℕ). bit_at (slice_index words w) (j % 64)) e
    ∙ (ap (bit_at (slice_index words (i / 64))) k ∙ (sym (moved_bit (slice_index words (i / 64)) (i % 64) (j % 64 - i % 64)) ∙ (ap (λ (w : ℕ). bit_at w (j % 64 - i % 64)) z ∙ bit_at-zero (j % 64 - i % 64))))

-- the bit so many behind i, in i's own word
at_rest : (words : List ℕ) (i k : ℕ) → i % 64 + k < 64 → bit_of words (i + k) ≡ bit_at (slice_index words (i / 64) / 2 ^ (i % 64)) k
at_rest words i k l =
    let w : (i + k) / 64 ≡ i / 64 = omega arith in
    let r : (i + k) % 64 ≡ i % 64 + k = omega arith in
    ap (λ (v : ℕ). bit_at (slice_index words v) ((i + k) % 64)) w ∙ (ap (bit_at (slice_index words (i / 64))) r ∙ sym (moved_bit (slice_index words (i / 64)) (i % 64) k))

pub next_in_word_is : (words : List ℕ) (i : ℕ) → 0 < slice_index words (i / 64) / 2 ^ (i % 64) → slice_index words (i / 64) / 2 ^ (i % 64) < 2 ^ 64 → i % 64 + trailing_zeros w64 (slice_index words (i / 64) / 2 ^ (i % 64)) < 64 → IsNextInWord words i (i + trailing_zeros w64 (slice_index words (i / 64) / 2 ^ (i % 64)))
next_in_word_is words i some small short =
    let n = slice_index words (i / 64) / 2 ^ (i % 64) in
    let z = bit_at-trailing_zeros w64 n some small in
    let t = trailing_zeros w64 n in
    record {
      word = omega arith;
      later = omega arith;
      set = at_rest words i t short ∙ z.1;
      first = λ j e l m.
          let k : i + (j - i) ≡ j = omega arith in
          let s : i % 64 + (j - i) < 64 = omega arith in
          subst (λ (q : ℕ). bit_of words q ≡ 0) k (at_rest words i (j - i) s ∙ z.2 (j - i) (omega arith));
    }

-- a word has no bits past its end
far_bit : (n k : ℕ) → n < 2 ^ 64 → 64 ≤ k → bit_at n k ≡ 0
far_bit n k l m =
    let e : k ≡ 64 + (k - 64) = omega arith in
    let z : n / 2 ^ 64 ≡ 0 = omega arith in
    ap (bit_at n) e ∙ (sym (moved_bit n 64 (k - 64)) ∙ (ap (λ (w : ℕ). bit_at w (k - 64)) z ∙ bit_at-zero (k - 64)))

pub rest_small : (n s : ℕ) → n < 2 ^ 64 → n / 2 ^ s < 2 ^ 64
rest_small n s l = let m = div-le_self n (2 ^ s) in omega (arith, m, l)

pub rest_some : (n : ℕ) → (n ≡ 0 → ⊥) → 0 < n
rest_some zero h = absurd (h refl)
rest_some (suc n) h = omega arith

-- so what is left of it ends where it does
pub rest_short : (n s : ℕ) → n < 2 ^ 64 → 0 < n / 2 ^ s → s + trailing_zeros w64 (n / 2 ^ s) < 64
rest_short n s l some =
    let t = trailing_zeros w64 (n / 2 ^ s) in
    let z = bit_at-trailing_zeros w64 (n / 2 ^ s) some (rest_small n s l) in
    elim (cases_lt (s + t) 64) [
      | inl m ↦ m
      | inr m ↦ absurd (let e : 1 ≡ 0 = sym z.1 ∙ (moved_bit n s t ∙ far_bit n (s + t) l m) in omega (arith, e))
    ]

-- ---- a level, from what is known of the one above

past : (words : List ℕ) (j : ℕ) → length words ≤ j / 64 → bit_of words j ≡ 0
past words j l = no_bit words j (get_or_past words (j / 64) 0 l)

zero_word : (below above : List ℕ) (j : ℕ) → SumsUp below above → bit_of above (j / 64) ≡ 0 → bit_of below j ≡ 0
zero_word below above j s z = elim (cases_lt (j / 64) (length below)) [ inl l ↦ no_bit below j ((s (j / 64) l).0 z) | inr g ↦ past below j g ]

pub next_here : (words : List ℕ) (i b : ℕ) → i / 64 < length words → IsNextInWord words i b → IsNextFrom words i b
next_here words i b within n = record {
  later = n.later;
  within = let w = n.word in omega (arith, w);
  set = n.set;
  first = λ j l m. let w = n.word in n.first j (omega (arith, w)) l m;
}

pub none_above : (below above : List ℕ) (i : ℕ) → SumsUp below above → NoneInWord below i → NoneFrom above (i / 64 + 1) → NoneFrom below i
none_above below above i s own none j l = elim (cases_eq (j / 64) (i / 64)) [ inl e ↦ own j e l | inr n ↦ zero_word below above j s (none (j / 64) (omega arith)) ]

pub next_above : (below above : List ℕ) (i w c : ℕ) → SumsUp below above → w < length below → NoneInWord below i → IsNextFrom above (i / 64 + 1) w → c / 64 ≡ w → bit_of below c ≡ 1 → ((j : ℕ) → j / 64 ≡ w → j < c → bit_of below j ≡ 0) → IsNextFrom below i c
next_above below above i w c s within own next word set first =
    let later = next.later in
    record {
      later = omega arith;
      within = omega arith;
      set = set;
      first = λ j l m. go j l m (cases_eq (j / 64) (i / 64)) (cases_eq (j / 64) w);
    }
  where
    go : (j : ℕ) → i ≤ j → j < c → (j / 64 ≡ i / 64) ⊎ (j / 64 ≢ i / 64) → (j / 64 ≡ w) ⊎ (j / 64 ≢ w) → bit_of below j ≡ 0
    go j l m (inl e) f = own j e l
    go j l m (inr n) (inl e) = first j e m
    go j l m (inr n) (inr o) = zero_word below above j s (next.first (j / 64) (omega arith) (omega arith))

pub word_some : (below above : List ℕ) (w : ℕ) → SumsUp below above → w < length below → bit_of above w ≡ 1 → 0 < slice_index below w
word_some below above w s l b = some_word below above w s l b

-- of one word alone
pub none_of_one : (words : List ℕ) (i : ℕ) → length words ≡ 1 → i / 64 ≡ 0 → NoneInWord words i → NoneFrom words i
none_of_one words i one first none j l = elim (cases_eq (j / 64) 0) [ inl e ↦ none j (e ∙ sym first) l | inr n ↦ past words j (omega arith) ]

-- past the last word
pub none_more : (words : List ℕ) (i : ℕ) → length words ≤ i / 64 → NoneFrom words i
none_more words i l j m = past words j (omega arith)

pub is_one : (words : List ℕ) (i : ℕ) → bit_of words i ≡ 1 → holds words i ≡ true
is_one words i h = grind (arith, nat_tests)

pub is_none : (words : List ℕ) (i : ℕ) → bit_of words i ≡ 0 → holds words i ≡ false
is_none words i h = grind (arith, nat_tests)
