-- The places of numbers that come new, kept one after another.
use Rattle.std.proofs.Common.{◌≡◌, ℕ, zero, suc, ◌+◌, ◌<◌, ◌==◌, nat_eq, Bool, true, false, cond, List, [], ◌∷◌, take, Some, refl, sym, ap, ◌∙◌, arith}
use Rattle.std.specs.Prelude.{slice_get}
use Rattle.std.specs.List.{IsDistinct, AllByRecursion}
use Rattle.std.specs.BTreeMap.{BTreeMap, get, is_at}
use Rattle.std.specs.Ordering.{nat_cmp}
use Rattle.std.proofs.lemmas.Bool.Decides.{nat_tests}
use Rattle.project_store.specs.Inserts.{is_among}
use Rattle.project_store.specs.Places.{AreKept, AreNoted}

taken : (m : ℕ) (ns : List ℕ) (k n : ℕ) → slice_get (take m ns) k ≡ Some n → (k < m) × (slice_get ns k ≡ Some n)
taken zero ns k n h = absurd cc
taken (suc m) [] k n h = absurd cc
taken (suc m) (x ∷ ns) zero n h = (omega arith, h)
taken (suc m) (x ∷ ns) (suc k) n h = let z = taken m ns k n h in (omega (arith, z.0), z.1)

retaken : (m : ℕ) (ns : List ℕ) (k n : ℕ) → k < m → slice_get ns k ≡ Some n → slice_get (take m ns) k ≡ Some n
retaken zero ns k n lt h = absurd (omega (arith, lt))
retaken (suc m) [] k n lt h = absurd cc
retaken (suc m) (x ∷ ns) zero n lt h = h
retaken (suc m) (x ∷ ns) (suc k) n lt h = retaken m ns k n (omega (arith, lt)) h

other : (n : ℕ) (ns : List ℕ) (j m : ℕ) → AllByRecursion (λ k. nat_eq n k ≡ false) ns → slice_get ns j ≡ Some m → n ≡ m → ⊥
other n [] j m all h e = absurd cc
other n (x ∷ ns) zero m all h e =
    let one : x ≡ m = cc in
    let f : nat_eq n x ≡ false = all.0 in
    let g : n ≡ x = e ∙ sym one in
    grind (arith, nat_tests)
other n (x ∷ ns) (suc j) m all h e = other n ns j m all.1 h e

-- of distinct numbers each stands at one index
one_index : (ns : List ℕ) → IsDistinct nat_eq ns → (i j m : ℕ) → slice_get ns i ≡ Some m → slice_get ns j ≡ Some m → i ≡ j
unfolding IsDistinct
one_index [] d i j m p q = absurd cc
one_index (x ∷ ns) d zero zero m p q = refl
one_index (x ∷ ns) d zero (suc j) m p q = absurd (other x ns j m d.0 q (let one : x ≡ m = cc in one))
one_index (x ∷ ns) d (suc i) zero m p q = absurd (other x ns i m d.0 p (let one : x ≡ m = cc in one))
one_index (x ∷ ns) d (suc i) (suc j) m p q = ap suc (one_index ns d.1 i j m p q)

among_at : (ns : List ℕ) (i m : ℕ) → slice_get ns i ≡ Some m → is_among ns m ≡ true
among_at [] i m h = absurd cc
among_at (x ∷ ns) zero m h = let one : x ≡ m = cc in let f : nat_eq m x ≡ true = grind (arith, nat_tests) in rw f refl
among_at (x ∷ ns) (suc i) m h = go (nat_eq m x) refl (among_at ns i m h)
  where
    go : (b : Bool) → nat_eq m x ≡ b → is_among ns m ≡ true → is_among (x ∷ ns) m ≡ true
    go true e rest = rw e refl
    go false e rest = rw e rest

same_test : (m n : ℕ) → is_at (nat_cmp m) n ≡ (n == m)
same_test m n = grind (arith, nat_tests)

module _ (numbers : List ℕ) (first i number : ℕ) (start old new : BTreeMap ℕ ℕ) (there : slice_get numbers i ≡ Some number)
    (updated : (n : ℕ) → get nat_cmp new n ≡ cond (is_at (nat_cmp number) n) (Some (first + i)) (get nat_cmp old n)) where
  at_number : (n : ℕ) → n ≡ number → get nat_cmp new n ≡ Some (first + i)
  at_number n e =
      let f : (n == number) ≡ true = grind (arith, nat_tests) in
      updated n ∙ ap (λ (b : Bool). cond b (Some (first + i)) (get nat_cmp old n)) (same_test number n ∙ f)

  at_other : (n : ℕ) → (n ≡ number → ⊥) → get nat_cmp new n ≡ get nat_cmp old n
  at_other n h =
      let f : (n == number) ≡ false = grind (arith, nat_tests) in
      updated n ∙ ap (λ (b : Bool). cond b (Some (first + i)) (get nat_cmp old n)) (same_test number n ∙ f)

  pub kept_more : AreKept start old numbers → AreKept start new numbers
  kept_more kept n h =
      at_other n (λ e. (let t : is_among numbers n ≡ true = among_at numbers i n (there ∙ ap Some (sym e)) in let both : true ≡ false = sym t ∙ h in let no : ⊥ = cc in no)) ∙ kept n h

  pub noted_more : IsDistinct nat_eq numbers → AreNoted old first (take i numbers) → AreNoted new first (take (i + 1) numbers)
  noted_more distinct noted k n h = go (k == i) refl
    where
      is : (k < i + 1) × (slice_get numbers k ≡ Some n)
      is = taken (i + 1) numbers k n h

      go : (b : Bool) → (k == i) ≡ b → get nat_cmp new n ≡ Some (first + k)
      go true e =
          let same : k ≡ i = grind (arith, nat_tests) in
          let both : Some n ≡ Some number = sym is.1 ∙ ap (slice_get numbers) same ∙ there in
          let one : n ≡ number = cc in
          at_number n one ∙ ap (λ (j : ℕ). Some (first + j)) (sym same)
      go false e =
          let apart : k ≡ i → ⊥ = λ q. (let t : (k == i) ≡ true = grind (arith, nat_tests) in let both : true ≡ false = sym t ∙ e in let no : ⊥ = cc in no) in
          let differs : n ≡ number → ⊥ = λ q. apart (one_index numbers distinct k i n is.1 (there ∙ ap Some (sym q))) in
          let less : k < i = let at_most = is.0 in grind (arith, nat_tests) in
          at_other n differs ∙ noted k n (retaken i numbers k n less is.1)
