-- Runs of bytes of one class.
use Rattle.std.proofs.Common.{◌≡◌, ℕ, zero, suc, ◌+◌, ◌≤◌, Bool, true, false, cond, List, [], ◌∷◌, ◌++◌, length, take, drop, refl, ap, ◌∙◌, arith}
use Rattle.std.specs.List.{prefix_len}
use Rattle.p21_lex.specs.Class.{Each, NotFirst}

pub one_more : (n : ℕ) → 1 + n ≡ suc n
one_more n = omega arith

-- the bytes of a run are of its class
run_is_step : (class : ℕ → Bool) (b : ℕ) (bs : List ℕ) (t : Bool) → class b ≡ t → Each class (take (prefix_len class bs) bs) → Each class (take (cond t (1 + prefix_len class bs) 0) (b ∷ bs))
run_is_step class b bs true e h = rw one_more (e, h)
run_is_step class b bs false e h = tt

pub run_is : (class : ℕ → Bool) (bytes : List ℕ) → Each class (take (prefix_len class bytes) bytes)
run_is class [] = tt
run_is class (b ∷ bs) = run_is_step class b bs (class b) refl (run_is class bs)

-- and what is behind it begins with none
run_ends_step : (class : ℕ → Bool) (b : ℕ) (bs : List ℕ) (t : Bool) → class b ≡ t → NotFirst class (drop (prefix_len class bs) bs) → NotFirst class (drop (cond t (1 + prefix_len class bs) 0) (b ∷ bs))
run_ends_step class b bs true e h = rw one_more h
run_ends_step class b bs false e h = e

pub run_ends : (class : ℕ → Bool) (bytes : List ℕ) → NotFirst class (drop (prefix_len class bytes) bytes)
run_ends class [] = tt
run_ends class (b ∷ bs) = run_ends_step class b bs (class b) refl (run_ends class bs)

run_within_step : (n len : ℕ) (t : Bool) → n ≤ len → cond t (1 + n) 0 ≤ suc len
run_within_step n len true h = omega arith
run_within_step n len false h = omega arith

pub run_within : (class : ℕ → Bool) (bytes : List ℕ) → prefix_len class bytes ≤ length bytes
run_within class [] = omega arith
run_within class (b ∷ bs) = run_within_step (prefix_len class bs) (length bs) (class b) (run_within class bs)

-- both together fix the run
pub no_run : (class : ℕ → Bool) (rest : List ℕ) → NotFirst class rest → prefix_len class rest ≡ 0
no_run class [] h = refl
no_run class (b ∷ bs) h = rw h refl

pub runs : (class : ℕ → Bool) (text rest : List ℕ) → Each class text → NotFirst class rest → prefix_len class (text ++ rest) ≡ length text
runs class [] rest h stop = no_run class rest stop
runs class (b ∷ bs) rest h stop = rw h.0 (ap (λ (n : ℕ). 1 + n) (runs class bs rest h.1 stop) ∙ one_more (length bs))

-- what does not begin with one class does not begin with a class within it
pub NotFirst-within : (wide class : ℕ → Bool) (rest : List ℕ) → ((b : ℕ) → wide b ≡ false → class b ≡ false) → NotFirst wide rest → NotFirst class rest
NotFirst-within wide class [] sub h = tt
NotFirst-within wide class (b ∷ bs) sub h = sub b h

pub take_within : (n : ℕ) (xs : List ℕ) → n ≤ length xs → length (take n xs) ≡ n
take_within zero xs h = refl
take_within (suc n) [] h = absurd (omega arith)
take_within (suc n) (x ∷ xs) h = ap suc (take_within n xs (omega arith))
