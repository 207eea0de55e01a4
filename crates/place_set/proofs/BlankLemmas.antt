-- Words that are all zero.
use Rattle.std.proofs.Common.{◌≡◌, ◌/◌, ℕ, false, slice_index, ◌∙◌, inl, inr, arith}
use Rattle.std.proofs.Math.ListN.{replicate}
use Rattle.std.proofs.lemmas.List.{get_or-replicate, length-replicate, get_or_past}
use Rattle.std.proofs.lemmas.Bool.{cases_lt}
use Rattle.std.proofs.lemmas.Bool.Decides.{nat_tests}
use Rattle.place_set.specs.Words.{bit_of, holds, IsSummed}
use Rattle.place_set.proofs.SumLemmas.{no_bit}

zeros : (n word : ℕ) → word ≡ 0 → (w : ℕ) → slice_index (replicate n word) w ≡ 0
zeros n word e w =
    elim (cases_lt w n) [
      | inl l ↦ get_or-replicate n w word 0 l ∙ e
      | inr l ↦ get_or_past (replicate n word) w 0 (let z = length-replicate n word in omega arith)
    ]

no_bits : (n word : ℕ) → word ≡ 0 → (i : ℕ) → bit_of (replicate n word) i ≡ 0
no_bits n word e i = no_bit (replicate n word) i (zeros n word e (i / 64))

pub blank : (word : ℕ) → word ≡ 0 → IsSummed (replicate 4096 word) (replicate 64 word) (replicate 1 word)
blank word e =
    record {
      low_length = length-replicate 4096 word;
      mid_length = length-replicate 64 word;
      top_length = length-replicate 1 word;
      low_sums = λ w l. (λ h. zeros 4096 word e w, λ h. no_bits 64 word e w);
      mid_sums = λ w l. (λ h. zeros 64 word e w, λ h. no_bits 1 word e w);
    }

pub none : (word : ℕ) → word ≡ 0 → (q : ℕ) → holds (replicate 4096 word) q ≡ false
none word e q = go (no_bits 4096 word e q)
  where
    go : bit_of (replicate 4096 word) q ≡ 0 → holds (replicate 4096 word) q ≡ false
    go h = grind (arith, nat_tests)
