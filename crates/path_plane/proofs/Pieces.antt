-- A list of pieces, put one after the other.
use Rattle.std.proofs.Common.{◌≡◌, ◌∙◌, ap, sym, ℕ, ◌+◌, List, [], ◌∷◌, ◌++◌, length, take, Some, arith}
use Rattle.std.specs.Prelude.{slice_get}
use Rattle.std.specs.List.{flat_map}
use Rattle.std.proofs.lemmas.List.{flat_map_more, take_more, take_all}
use Rattle.std.proofs.lemmas.Option.{slice_get_within, get_or_from_slice_get}

-- one more piece
pub piece_more : {X A : Type 0} (f : X → List A) (start now then : List A) (xs : List X) (i : ℕ) (x : X) → slice_get xs i ≡ Some x
    → now ≡ start ++ flat_map f (take i xs) → then ≡ now ++ f x → then ≡ start ++ flat_map f (take (i + 1) xs)
piece_more {X} {A} f start now then xs i x got so_far e =
    e ∙ ap (λ (bs : List A). bs ++ f x) so_far ∙ flat_map_more f start (take i xs) x
    ∙ ap (λ (ys : List X). start ++ flat_map f ys) (sym (take_more xs i x (slice_get_within xs i x got) ∙ ap (λ (y : X). take i xs ++ y ∷ []) (get_or_from_slice_get xs i x x got)))

-- all pieces
pub piece_all : {X A : Type 0} (f : X → List A) (start now : List A) (xs : List X) (n : ℕ) → n ≡ length xs
    → now ≡ start ++ flat_map f (take n xs) → now ≡ start ++ flat_map f xs
piece_all {X} {A} f start now xs n e so_far = so_far ∙ ap (λ (ys : List X). start ++ flat_map f ys) (take_all n xs (omega (arith, e)))
