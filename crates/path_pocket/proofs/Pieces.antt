-- A list of pieces, put one after the other.
use Rattle.std.proofs.Common.{◌≡◌, ◌∙◌, ap, sym, ℕ, suc, ◌+◌, ◌-◌, ◌<◌, List, [], ◌∷◌, ◌++◌, length, take, Some, arith, append_assoc}
use Rattle.std.specs.Prelude.{slice_get}
use Rattle.std.specs.List.{flat_map}
use Rattle.std.proofs.lemmas.List.{append-nil, flat_map_more, take_more, take_all}
use Rattle.path_blocks.specs.PathPocket.{down_from}
use Rattle.std.proofs.lemmas.Option.{slice_get_within, get_or_from_slice_get}

-- one more piece
pub piece_more : {X A : Type 0} (f : X → List A) (start now then : List A) (xs : List X) (i : ℕ) (x : X) → slice_get xs i ≡ Some x
    → now ≡ start ++ flat_map f (take i xs) → then ≡ now ++ f x → then ≡ start ++ flat_map f (take (i + 1) xs)
piece_more {X} {A} f start now then xs i x got so_far e =
    e ∙ ap (λ (bs : List A). bs ++ f x) so_far ∙ flat_map_more f start (take i xs) x
    ∙ ap (λ (ys : List X). start ++ flat_map f ys) (sym (take_more xs i x (slice_get_within xs i x got) ∙ ap (λ (y : X). take i xs ++ y ∷ []) (get_or_from_slice_get xs i x x got)))

-- all pieces
pub piece_all : {X A : Type 0} (f : X → List A) (start now : List A) (xs : List X) (n : ℕ) → n ≡ length xs
    → now ≡ start ++ flat_map f (take n xs) → now ≡ start ++ flat_map f xs
piece_all {X} {A} f start now xs n e so_far = so_far ∙ ap (λ (ys : List X). start ++ flat_map f ys) (take_all n xs (omega (arith, e)))

down_by : {A : Type 0} (f : ℕ → List A) (now then total : List A) (k : ℕ) → now ++ flat_map f (down_from (suc k)) ≡ total → then ≡ now ++ f k → then ++ flat_map f (down_from k) ≡ total
unfolding down_from
down_by f now then total k so_far e = rw e (append_assoc now (f k) (flat_map f (down_from k)) ∙ so_far)

above_zero : (n : ℕ) → 0 < n → suc (n - 1) ≡ n
above_zero n h = omega arith

-- one more piece of those that are numbered down to 0
pub piece_down : {A : Type 0} (f : ℕ → List A) (now then total : List A) (n : ℕ) → 0 < n → now ++ flat_map f (down_from n) ≡ total → then ≡ now ++ f (n - 1) → then ++ flat_map f (down_from (n - 1)) ≡ total
piece_down {A} f now then total n h so_far e =
    down_by f now then total (n - 1) (ap (λ (k : ℕ). now ++ flat_map f (down_from k)) (above_zero n h) ∙ so_far) e

-- no piece is left
pub piece_last : {A : Type 0} (f : ℕ → List A) (now total : List A) (n : ℕ) → n ≡ 0 → now ++ flat_map f (down_from n) ≡ total → now ≡ total
unfolding down_from
piece_last {A} f now total n z so_far = sym (append-nil now) ∙ ap (λ (k : ℕ). now ++ flat_map f (down_from k)) (sym z) ∙ so_far
