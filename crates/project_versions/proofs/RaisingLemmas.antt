-- Versions, read and raised.
use Rattle.std.specs.Prelude.{◌≡◌, ◌<◌, ◌+◌, ◌==◌, ◌||◌, ℕ, zero, suc, Bool, true, false, nat_eq, List, [], ◌∷◌, ◌++◌, length, slice_get, Some, Contains}
use Rattle.std.specs.List.Sorted.{IsStrictlyIncreasing}
use Rattle.std.proofs.Common.{refl, sym, ap, subst, ◌∙◌, arith, get_or, set, take, replicate, length-set}
use Rattle.std.proofs.lemmas.Bool.Decides.{nat_tests}
use Rattle.std.proofs.lemmas.List.{get_or-set_same, get_or-set_other, get_or-take, length-take-le}
use Rattle.std.proofs.lemmas.Option.{get_or_from_slice_get, slice_get-get_or, slice_get_within}
use Rattle.project_store.specs.Inserts.{is_among}
use Rattle.project_versions.specs.StepSet.{IsOrderOf}
use Rattle.project_versions.specs.Versions.{one_where}
use Rattle.project_versions.specs.Versioned.{version_of, counted}
use Rattle.project_versions.specs.Kept.{Raises}
use Rattle.project_versions.proofs.GrownLemmas.{among_holds}
use Rattle.project_versions.proofs.StepLemmas.{rises, one_place}

itself : (n : ℕ) → (n == n) ≡ true
itself n = grind (arith, nat_tests)

same : (m n : ℕ) → (m == n) ≡ true → m ≡ n
same m n h = grind (arith, nat_tests)

other : (m n : ℕ) → (m ≡ n → ⊥) → (m == n) ≡ false
other m n h = grind (arith, nat_tests)

-- ---- read

-- of a number that stands once, the count at its place
version_there : (order versions : List ℕ) (n i : ℕ) → ((j k : ℕ) → slice_get order j ≡ Some n → slice_get order k ≡ Some n → j ≡ k) → slice_get order i ≡ Some n → length versions ≡ length order
    → version_of (counted order versions) n ≡ get_or versions i 0
version_there [] versions n i only at len = absurd cc
version_there (m ∷ ms) [] n i only at len = absurd (omega (arith, len))
version_there (m ∷ ms) (v ∷ vs) n zero only at len =
    let is : m ≡ n = cc in
    let yes : (m == n) ≡ true = subst (λ (k : ℕ). (k == n) ≡ true) (sym is) (itself n) in
    rw yes refl
version_there (m ∷ ms) (v ∷ vs) n (suc i) only at len =
    let no : (m == n) ≡ false = other m n (λ e. (let f : 0 ≡ suc i = only 0 (suc i) (ap Some e) at in omega (arith, f))) in
    rw no (version_there ms vs n i (λ j k a b. (let f : suc j ≡ suc k = only (suc j) (suc k) a b in omega (arith, f))) at (omega (arith, len)))

pub version_at : (order versions : List ℕ) (n i : ℕ) → IsStrictlyIncreasing order → slice_get order i ≡ Some n → length versions ≡ length order → version_of (counted order versions) n ≡ get_or versions i 0
version_at order versions n i rising at len = version_there order versions n i (λ j k. one_place order rising n j k) at len

-- where all counts are 0
pub version_none : (order : List ℕ) (k n : ℕ) → version_of (counted order (replicate k 0)) n ≡ 0
version_none [] k n = refl
version_none (m ∷ ms) zero n = refl
version_none (m ∷ ms) (suc k) n = go (m == n) refl (version_none ms k n)
  where
    go : (b : Bool) → (m == n) ≡ b → version_of (counted ms (replicate k 0)) n ≡ 0 → version_of (counted (m ∷ ms) (0 ∷ replicate k 0)) n ≡ 0
    go true e rest = rw e refl
    go false e rest = rw e rest

-- ---- raised

place_of : (order : List ℕ) (n : ℕ) → Contains order n → (j : ℕ) × (slice_get order j ≡ Some n)
place_of order n h = (h.0, slice_get-get_or order h.0 n h.1 ∙ ap Some h.2)

one_of : (s n : ℕ) → is_among (s ∷ []) n ≡ (n == s)
one_of s n = go (n == s) refl
  where
    go : (b : Bool) → (n == s) ≡ b → ((n == s) || false) ≡ (n == s)
    go true e = rw e refl
    go false e = rw e refl

-- a step raised at its place
pub raised : (order versions : List ℕ) (step i v : ℕ) → IsStrictlyIncreasing order → slice_get order i ≡ Some step → length versions ≡ length order → v ≡ get_or versions i v
    → Raises order versions (set versions i (v + 1)) (step ∷ [])
raised order versions step i v rising at len read = record { len = length-set versions i (v + 1); versions = λ n h. by n (place_of order n h) }
  where
    within : i < length versions
    within = let h = slice_get_within order i step at in omega (arith, h, len)

    kept : length (set versions i (v + 1)) ≡ length order
    kept = length-set versions i (v + 1) ∙ len

    by : (n : ℕ) → (j : ℕ) × (slice_get order j ≡ Some n) → version_of (counted order (set versions i (v + 1))) n ≡ version_of (counted order versions) n + one_where (is_among (step ∷ []) n)
    by n place = go (n == step) refl
      where
        new : version_of (counted order (set versions i (v + 1))) n ≡ get_or (set versions i (v + 1)) place.0 0
        new = version_at order (set versions i (v + 1)) n place.0 rising place.1 kept

        old : version_of (counted order versions) n ≡ get_or versions place.0 0
        old = version_at order versions n place.0 rising place.1 len

        go : (b : Bool) → (n == step) ≡ b → version_of (counted order (set versions i (v + 1))) n ≡ version_of (counted order versions) n + one_where (is_among (step ∷ []) n)
        go true e =
            let is : n ≡ step = same n step e in
            let here : place.0 ≡ i = one_place order rising step place.0 i (place.1 ∙ ap Some is) at in
            let set_to : get_or (set versions i (v + 1)) place.0 0 ≡ v + 1 = ap (λ (k : ℕ). get_or (set versions i (v + 1)) k 0) here ∙ get_or-set_same versions i (v + 1) 0 within in
            let was : get_or versions place.0 0 ≡ v = ap (λ (k : ℕ). get_or versions k 0) here ∙ get_or_from_slice_get versions i v 0 (slice_get-get_or versions i v within ∙ ap Some (sym read)) in
            let one : one_where (is_among (step ∷ []) n) ≡ 1 = ap one_where (one_of step n ∙ e) in
            omega (arith, new, old, set_to, was, one)
        go false e =
            let elsewhere : place.0 ≡ i → ⊥ = λ q. (let both : Some n ≡ Some step = sym place.1 ∙ ap (slice_get order) q ∙ at in
            let is : n ≡ step = cc in
            let f : true ≡ false = sym (subst (λ (k : ℕ). (n == k) ≡ true) is (itself n)) ∙ e in
            let g : ⊥ = cc in g) in
            let unset : get_or (set versions i (v + 1)) place.0 0 ≡ get_or versions place.0 0 = get_or-set_other versions i place.0 (v + 1) 0 elsewhere in
            let none : one_where (is_among (step ∷ []) n) ≡ 0 = ap one_where (one_of step n ∙ e) in
            omega (arith, new, old, unset, none)

-- a number that isn't among the steps raises nothing
pub not_raised : (steps order versions : List ℕ) (step : ℕ) → IsOrderOf steps order → (Contains steps step → ⊥) → Raises order versions versions (step ∷ [])
not_raised steps order versions step is none = record {
  len = refl;
  versions = λ n h.
      let apart : (n == step) ≡ false = other n step (λ e. none ((is.members step).0 (subst (Contains order) e h))) in
      let zero_more : one_where (is_among (step ∷ []) n) ≡ 0 = ap one_where (one_of step n ∙ apart) in
      omega (arith, zero_more);
}

pub Raises-none : (order versions : List ℕ) → Raises order versions versions []
Raises-none order versions = record { len = refl; versions = λ n h. omega arith }

one_more : (xs : List ℕ) (s n : ℕ) → is_among xs s ≡ false → one_where (is_among (xs ++ s ∷ []) n) ≡ one_where (is_among xs n) + one_where (is_among (s ∷ []) n)
one_more [] s n none = omega arith
one_more (x ∷ xs) s n none = go (nat_eq s x) (nat_eq n x) refl refl (one_more xs s n)
  where
    go : (a b : Bool) → nat_eq s x ≡ a → nat_eq n x ≡ b → (is_among xs s ≡ false → one_where (is_among (xs ++ s ∷ []) n) ≡ one_where (is_among xs n) + one_where (is_among (s ∷ []) n))
        → one_where (is_among ((x ∷ xs) ++ s ∷ []) n) ≡ one_where (is_among (x ∷ xs) n) + one_where (is_among (s ∷ []) n)
    go true b e f rec = absurd (let g : (true || is_among xs s) ≡ false = rw e at none in let h : ⊥ = cc in h)
    go false true e f rec =
        let is : n ≡ x = grind (arith, nat_tests) in
        let apart : (n == s) ≡ false = other n s (λ q. (let g : s ≡ x = sym q ∙ is in let h : nat_eq s x ≡ true = grind (arith, nat_tests) in let i : true ≡ false = sym h ∙ e in let j : ⊥ = cc in j)) in
        let none_more : one_where (is_among (s ∷ []) n) ≡ 0 = ap one_where (one_of s n ∙ apart) in
        rw f (omega (arith, none_more))
    go false false e f rec = rw f (rec (rw e at none))

pub Raises-both : (order a b d xs : List ℕ) (s : ℕ) → is_among xs s ≡ false → Raises order a b xs → Raises order b d (s ∷ []) → Raises order a d (xs ++ s ∷ [])
Raises-both order a b d xs s none first then = record {
  len = then.len ∙ first.len;
  versions = λ n h. omega (arith, then.versions n h, first.versions n h, one_more xs s n none);
}

-- of steps that rise, none is among those before it
pub not_before : (steps : List ℕ) (i : ℕ) → IsStrictlyIncreasing steps → i < length steps → is_among (take i steps) (get_or steps i 0) ≡ false
not_before steps i rising within = go (is_among (take i steps) (get_or steps i 0)) refl
  where
    go : (b : Bool) → is_among (take i steps) (get_or steps i 0) ≡ b → is_among (take i steps) (get_or steps i 0) ≡ false
    go false e = e
    go true e =
        let has = among_holds (take i steps) (get_or steps i 0) e in
        let less : has.0 < i = omega (arith, has.1, length-take-le i steps (omega (arith, within))) in
        let is : get_or steps has.0 0 ≡ get_or steps i 0 =
        sym (get_or-take i steps has.0 0 less)
        ∙ get_or_from_slice_get (take i steps) has.0 (get_or steps i 0) 0 (slice_get-get_or (take i steps) has.0 (get_or steps i 0) has.1 ∙ ap Some has.2) in
        absurd (omega (arith, is, rises steps rising has.0 i less within))
