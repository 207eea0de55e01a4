-- The cuts of a whole, one by one.
use Rattle.std.proofs.Common.{◌≡◌, ◌∙◌, inl, inr, ℕ, zero, suc, ◌+◌, ◌*◌, ◌<◌, ◌≤◌, [], ◌∷◌, length, get_or, Some, refl, ap, arith, length-append}
use Rattle.std.specs.Prelude.{slice_get}
use Rattle.std.proofs.lemmas.List.{get_or_append_left, get_or_at}
use Rattle.std.proofs.lemmas.Option.{slice_get-get_or}
use Rattle.std.proofs.lemmas.Bool.{cases_lt}
use Rattle.path_blocks.specs.Cuts.{multiples, cuts, count_below}

pub length-multiples : (step n : ℕ) → length (multiples step n) ≡ n
unfolding multiples
length-multiples step zero = refl
length-multiples step (suc n) = length-append (multiples step n) ((suc n * step) ∷ []) ∙ omega (arith, length-multiples step n)

pub length-cuts : (step whole : ℕ) → length (cuts step whole) ≡ count_below step whole + 1
unfolding cuts
length-cuts step whole = length-append (multiples step (count_below step whole)) (whole ∷ []) ∙ omega (arith, length-multiples step (count_below step whole))

pub get_or-multiples : (step n i d : ℕ) → i < n → get_or (multiples step n) i d ≡ (i + 1) * step
unfolding multiples
get_or-multiples step zero i d h = absurd (omega arith)
get_or-multiples step (suc n) i d h =
    elim (cases_lt i n) [
      | inl below ↦ get_or_append_left (multiples step n) ((suc n * step) ∷ []) d i (omega (arith, length-multiples step n)) ∙ get_or-multiples step n i d below
      | inr past ↦ get_or_at (multiples step n) (suc n * step) [] d i (omega (arith, length-multiples step n)) ∙ ap (λ (k : ℕ). k * step) (omega arith)
    ]

-- a cut before the last
pub cut_before : (step whole i : ℕ) → i < count_below step whole → slice_get (cuts step whole) i ≡ Some ((i + 1) * step)
unfolding cuts
cut_before step whole i h =
    slice_get-get_or (cuts step whole) i 0 (omega (arith, length-cuts step whole))
    ∙ ap (λ (x : ℕ). Some x) (get_or_append_left (multiples step (count_below step whole)) (whole ∷ []) 0 i (omega (arith, length-multiples step (count_below step whole))) ∙ get_or-multiples step (count_below step whole) i 0 h)

-- the last cut
pub cut_last : (step whole i : ℕ) → count_below step whole ≤ i → i < length (cuts step whole) → slice_get (cuts step whole) i ≡ Some whole
unfolding cuts
cut_last step whole i h k =
    let e : i ≡ count_below step whole = omega (arith, length-cuts step whole) in
    slice_get-get_or (cuts step whole) i 0 k
    ∙ ap (λ (x : ℕ). Some x) (get_or_at (multiples step (count_below step whole)) whole [] 0 i (length-multiples step (count_below step whole) ∙ omega arith))
