-- An element of lists that are put one after the other.
use Rattle.std.proofs.Common.{◌≡◌, ◌∙◌, refl, ap, arith, ℕ, zero, suc, ◌+◌, ◌-◌, ◌*◌, ◌/◌, ◌%◌, ◌<◌, List, [], ◌∷◌, ◌++◌, length, Some}
use Rattle.std.specs.Prelude.{slice_get}
use Rattle.std.specs.List.{flat_map}
use Rattle.std.proofs.lemmas.Option.{same_Some}
use Rattle.std.proofs.Math.Nat.{div-add-mod, div-lt_iff_lt-mul, mod-lt}
use Rattle.path_blocks.specs.PathPocket.{down_from}

-- an element of the first list
pub of_first : {A : Type 0} (xs ys : List A) (i : ℕ) → i < length xs → slice_get (xs ++ ys) i ≡ slice_get xs i
of_first [] ys i h = absurd (omega arith)
of_first (x ∷ xs) ys zero h = refl
of_first (x ∷ xs) ys (suc i) h = of_first xs ys i (omega (arith, h))

-- an element of the second list
pub of_second : {A : Type 0} (xs ys : List A) (i j : ℕ) → i ≡ length xs + j → slice_get (xs ++ ys) i ≡ slice_get ys j
of_second [] ys i j e = ap (λ (n : ℕ). slice_get ys n) (omega (arith, e))
of_second (x ∷ xs) ys zero j e = absurd (omega (arith, e))
of_second (x ∷ xs) ys (suc i) j e = of_second xs ys i j (omega (arith, e))

-- an element of pieces of one length
of_piece : {X A : Type 0} (f : X → List A) (n : ℕ) → ((x : X) → length (f x) ≡ n) → (xs : List X) (i j : ℕ) (x : X) → slice_get xs i ≡ Some x → j < n
    → slice_get (flat_map f xs) (i * n + j) ≡ slice_get (f x) j
of_piece f n each [] i j x got h = absurd cc
of_piece {X} {A} f n each (y ∷ xs) zero j x got h =
    let within : j < length (f y) = omega (arith, each y) in
    ap (λ (k : ℕ). slice_get (f y ++ flat_map f xs) k) (omega arith) ∙ of_first (f y) (flat_map f xs) j within ∙ ap (λ (z : X). slice_get (f z) j) (same_Some y x got)
of_piece f n each (y ∷ xs) (suc i) j x got h =
    of_second (f y) (flat_map f xs) (suc i * n + j) (i * n + j) (omega (arith, each y)) ∙ of_piece f n each xs i j x got h

-- the same, by its index among all
pub of_pieces : {X A : Type 0} (f : X → List A) (n : ℕ) → 0 < n → ((x : X) → length (f x) ≡ n) → (xs : List X) (k : ℕ) (x : X) → slice_get xs (k / n) ≡ Some x
    → slice_get (flat_map f xs) k ≡ slice_get (f x) (k % n)
of_pieces f n some each xs k x got =
    ap (λ (i : ℕ). slice_get (flat_map f xs) i) (omega (arith, div-add-mod k n)) ∙ of_piece f n each xs (k / n) (k % n) x got (mod-lt k some)

-- which piece that is
pub piece_within : (k m n : ℕ) → 0 < n → k < m * n → k / n < m
piece_within k m n some h = (div-lt_iff_lt-mul {k = n} {x = k} {y = m} some).1 h

-- a number of those from the greatest down
pub of_down : (n i j : ℕ) → i + j + 1 ≡ n → slice_get (down_from n) i ≡ Some j
unfolding down_from
of_down zero i j e = absurd (omega (arith, e))
of_down (suc n) zero j e = ap (λ (k : ℕ). Some k) (omega (arith, e))
of_down (suc n) (suc i) j e = of_down n i j (omega (arith, e))

-- an element after the first
pub of_later : {A : Type 0} (x : A) (xs : List A) (i : ℕ) → (i ≡ 0 → ⊥) → slice_get (x ∷ xs) i ≡ slice_get xs (i - 1)
of_later x xs zero h = absurd (h refl)
of_later x xs (suc i) h = ap (λ (n : ℕ). slice_get xs n) (omega arith)

-- an element of the same list at the same index
pub told_as : {A : Type 0} (xs ys : List A) (i j : ℕ) (x : A) → ys ≡ xs → j ≡ i → slice_get ys j ≡ Some x → slice_get xs i ≡ Some x
told_as {A} xs ys i j x e k got = rw (← e, ← k) got
