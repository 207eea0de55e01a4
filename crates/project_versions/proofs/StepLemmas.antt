-- Workingsteps in order of number, and which of them are marked.
use Rattle.std.specs.Prelude.{◌≡◌, ◌⊎◌, ◌↔◌, ◌<◌, ◌≤◌, ◌+◌, ℕ, zero, suc, Bool, true, false, List, [], ◌∷◌, length, slice_get, Option, Some, Result, Ok, Err, Contains, IfNone, IsTrue}
use Rattle.std.specs.Result.{result_ok}
use Rattle.std.specs.List.Sorted.{IsStrictlyIncreasing, IsPermutation, IsSorted, IsBinarySearchResult}
use Rattle.std.specs.List.Retain.{IsFiltered, DiffersFromLast}
use Rattle.std.specs.Ordering.{nat_cmp}
use Rattle.std.specs.List.{dedup}
use Rattle.std.proofs.Common.{refl, sym, ap, subst, ◌∙◌, inl, inr, arith, eqb, get_or, set, take, ◌++◌, replicate}
use Rattle.std.proofs.lemmas.Bool.Decides.{nat_tests}
use Rattle.std.proofs.lemmas.List.Elements.{Contains-append_right}
use Rattle.std.proofs.lemmas.List.Filters.{dedup_is}
use Rattle.std.proofs.lemmas.List.Kept.{Contains-dedup_nat, Contains-from_dedup}
use Rattle.std.proofs.lemmas.List.Sorted.{searched, Contains-permutation, IsPermutation-sym}
use Rattle.std.proofs.lemmas.Map.Keys.{IsStrictlyIncreasing-dedup}
use Rattle.std.proofs.lemmas.Option.{get_or_from_slice_get, slice_get_within, slice_get-get_or}
use Rattle.project_versions.specs.StepSet.{IsOrderOf, Adds, marked}

no_way : IsTrue false → ⊥
no_way h = cc

-- ---- in order

-- sorted, and each once
pub ordered : (steps sorted order : List ℕ) → IsPermutation steps sorted → IsSorted nat_cmp sorted → IsFiltered (DiffersFromLast eqb) [] sorted order → IsOrderOf steps order
ordered steps sorted order same rise once =
    let is : order ≡ dedup eqb sorted = dedup_is eqb sorted order once in
    record {
      rising = subst IsStrictlyIncreasing (sym is) (IsStrictlyIncreasing-dedup sorted rise);
      members = λ n. (
        λ h. Contains-permutation sorted steps n (IsPermutation-sym steps sorted same) (Contains-from_dedup eqb sorted n (subst (λ (ns : List ℕ). Contains ns n) is h)),
        λ h. subst (λ (ns : List ℕ). Contains ns n) (sym is) (Contains-dedup_nat sorted n (Contains-permutation steps sorted n same h)),
      );
    }

-- what rises strictly doesn't fall
pub rises : (ns : List ℕ) → IsStrictlyIncreasing ns → (i j : ℕ) → i < j → j < length ns → get_or ns i 0 < get_or ns j 0
rises ns rising i zero lt within = absurd (omega (arith, lt))
rises ns rising i (suc j) lt within = go (eqb i j) refl (λ less. rises ns rising i j less (omega (arith, within)))
  where
    step : get_or ns j 0 < get_or ns (suc j) 0
    step =
        let e : j + 1 ≡ suc j = omega arith in
        subst (λ (k : ℕ). get_or ns j 0 < get_or ns k 0) e (rising j (omega (arith, within)))

    go : (b : Bool) → eqb i j ≡ b → (i < j → get_or ns i 0 < get_or ns j 0) → get_or ns i 0 < get_or ns (suc j) 0
    go true e rec = let same : i ≡ j = grind (arith, nat_tests) in subst (λ (k : ℕ). get_or ns k 0 < get_or ns (suc j) 0) (sym same) step
    go false e rec =
        let less : i < j = grind (arith, nat_tests) in
        let h = rec less in
        omega (arith, h, step)

-- of numbers that rise each stands once
pub one_place : (ns : List ℕ) → IsStrictlyIncreasing ns → (n i j : ℕ) → slice_get ns i ≡ Some n → slice_get ns j ≡ Some n → i ≡ j
one_place ns rising n i j a b = go (eqb i j) refl
  where
    at_i : get_or ns i 0 ≡ n
    at_i = get_or_from_slice_get ns i n 0 a

    at_j : get_or ns j 0 ≡ n
    at_j = get_or_from_slice_get ns j n 0 b

    go : (c : Bool) → eqb i j ≡ c → i ≡ j
    go true e = grind (arith, nat_tests)
    go false e =
        let apart : (i ≡ j → ⊥) = λ q. (let f : eqb i j ≡ true = grind (arith, nat_tests) in cc) in
        let low : i < j → ⊥ = λ lt. (let h = rises ns rising i j lt (slice_get_within ns j n b) in omega (arith, h, at_i, at_j)) in
        let high : j < i → ⊥ = λ lt. (let h = rises ns rising j i lt (slice_get_within ns i n a) in omega (arith, h, at_i, at_j)) in
        omega (arith, apart, low, high)

-- what holds of a search that found nothing
pub not_there : (steps order : List ℕ) (n : ℕ) (r : Result ℕ ℕ) (o : Option ℕ) → IsOrderOf steps order → IsBinarySearchResult (λ y. nat_cmp y n) order r → o ≡ result_ok r
    → IfNone o (Contains steps n → ⊥)
not_there steps order n (Ok i) o is found e = subst (λ (p : Option ℕ). IfNone p (Contains steps n → ⊥)) (sym e) tt
not_there steps order n (Err i) o is found e =
    subst (λ (p : Option ℕ). IfNone p (Contains steps n → ⊥)) (sym e) (λ h.
    let sides = searched order n (Err i) found (λ k j le lt. upward k j le lt) in
    let there = (is.members n).1 h in
    let at : get_or order there.0 0 ≡ n = get_or_from_slice_get order there.0 n 0 (slice_get-get_or order there.0 n there.1 ∙ ap Some there.2) in
    let low : there.0 < i → ⊥ = λ lt. (let f = sides.1 there.0 lt in omega (arith, f, at)) in
    let high : i ≤ there.0 → ⊥ = λ le. (let f = sides.2 there.0 le there.1 in omega (arith, f, at)) in
    omega (arith, low, high))
  where
    upward : (k j : ℕ) → k ≤ j → j < length order → get_or order k 0 ≤ get_or order j 0
    upward k j le lt = go (eqb k j) refl
      where
        go : (c : Bool) → eqb k j ≡ c → get_or order k 0 ≤ get_or order j 0
        go true e = let same : k ≡ j = grind (arith, nat_tests) in subst (λ (m : ℕ). get_or order k 0 ≤ get_or order m 0) same (omega arith)
        go false e = let less : k < j = grind (arith, nat_tests) in let h = rises order is.rising k j less lt in omega (arith, h)

-- ---- marks

nothing_in : (n : ℕ) → Contains [] n → ⊥
nothing_in n h = omega (arith, h.1)

first_in : (m : ℕ) (ns : List ℕ) (n : ℕ) → m ≡ n → Contains (m ∷ ns) n
first_in m ns n e = (0, omega arith, e)

later_in : (m : ℕ) (ns : List ℕ) (n : ℕ) → Contains ns n → Contains (m ∷ ns) n
later_in m ns n h = Contains-append_right (m ∷ []) ns n h

in_cases : (m : ℕ) (ns : List ℕ) (n : ℕ) → Contains (m ∷ ns) n → (m ≡ n) ⊎ Contains ns n
in_cases m ns n (zero, l, e) = inl e
in_cases m ns n (suc k, l, e) = inr (k, (let f : k < length ns = omega (arith, l) in f), e)

-- where the marked ones stand
pub in_marked : (order : List ℕ) (marks : List Bool) (n i : ℕ) → slice_get order i ≡ Some n → slice_get marks i ≡ Some true → Contains (marked order marks) n
in_marked [] marks n i a b = absurd cc
in_marked (m ∷ ms) [] n i a b = absurd cc
in_marked (m ∷ ms) (true ∷ marks) n zero a b = first_in m (marked ms marks) n (cc)
in_marked (m ∷ ms) (false ∷ marks) n zero a b = absurd cc
in_marked (m ∷ ms) (true ∷ marks) n (suc i) a b = later_in m (marked ms marks) n (in_marked ms marks n i a b)
in_marked (m ∷ ms) (false ∷ marks) n (suc i) a b = in_marked ms marks n i a b

-- a marked number, and where it stands
pub record IsMarked (order : List ℕ) (marks : List Bool) (n : ℕ) : Type 0 where
  pub place : ℕ
  pub number : slice_get order place ≡ Some n
  pub mark : slice_get marks place ≡ Some true

behind : (m : ℕ) (ms : List ℕ) (b : Bool) (marks : List Bool) (n : ℕ) → IsMarked ms marks n → IsMarked (m ∷ ms) (b ∷ marks) n
behind m ms b marks n is = record { place = suc is.place; number = is.number; mark = is.mark }

pub of_marked : (order : List ℕ) (marks : List Bool) (n : ℕ) → Contains (marked order marks) n → IsMarked order marks n
of_marked [] marks n h = absurd (nothing_in n h)
of_marked (m ∷ ms) [] n h = absurd (nothing_in n h)
of_marked (m ∷ ms) (true ∷ marks) n h =
    elim (in_cases m (marked ms marks) n h) [
      | inl e ↦ record { place = 0; number = ap Some e; mark = refl }
      | inr r ↦ behind m ms true marks n (of_marked ms marks n r)
    ]
of_marked (m ∷ ms) (false ∷ marks) n h = behind m ms false marks n (of_marked ms marks n h)

set_there : (marks : List Bool) (i : ℕ) → i < length marks → slice_get (set marks i true) i ≡ Some true
set_there [] i h = absurd (omega (arith, h))
set_there (b ∷ marks) zero h = refl
set_there (b ∷ marks) (suc i) h = set_there marks i (omega (arith, h))

set_elsewhere : (marks : List Bool) (i j : ℕ) → (j ≡ i → ⊥) → slice_get (set marks i true) j ≡ slice_get marks j
set_elsewhere [] i j h = refl
set_elsewhere (b ∷ marks) zero zero h = absurd (h refl)
set_elsewhere (b ∷ marks) zero (suc j) h = refl
set_elsewhere (b ∷ marks) (suc i) zero h = refl
set_elsewhere (b ∷ marks) (suc i) (suc j) h = set_elsewhere marks i j (λ e. h (ap suc e))

-- one more marked
pub marked_more : (steps order : List ℕ) (marks : List Bool) (step i : ℕ) → slice_get order i ≡ Some step → length marks ≡ length order
    → Adds (record { steps = steps; members = marked order marks }) (record { steps = steps; members = marked order (set marks i true) }) step
marked_more steps order marks step i at len =
    record { steps = refl; members = λ n. (from n, λ h. elim h [ inl e ↦ new n e | inr old ↦ stays n old ]) }
  where
    within : i < length marks
    within = let h = slice_get_within order i step at in omega (arith, h, len)

    new : (n : ℕ) → n ≡ step → Contains (marked order (set marks i true)) n
    new n e = in_marked order (set marks i true) n i (at ∙ ap Some (sym e)) (set_there marks i within)

    stays : (n : ℕ) → Contains (marked order marks) n → Contains (marked order (set marks i true)) n
    stays n h = by (of_marked order marks n h)
      where
        by : IsMarked order marks n → Contains (marked order (set marks i true)) n
        by is = go (eqb is.place i) refl
          where
            go : (c : Bool) → eqb is.place i ≡ c → Contains (marked order (set marks i true)) n
            go true e = let same : is.place ≡ i = grind (arith, nat_tests) in in_marked order (set marks i true) n i (subst (λ (k : ℕ). slice_get order k ≡ Some n) same is.number) (set_there marks i within)
            go false e =
                in_marked order (set marks i true) n is.place is.number
                (set_elsewhere marks i is.place (λ q. (let f : eqb is.place i ≡ true = grind (arith, nat_tests) in cc)) ∙ is.mark)

    from : (n : ℕ) → Contains (marked order (set marks i true)) n → (n ≡ step) ⊎ Contains (marked order marks) n
    from n h = by (of_marked order (set marks i true) n h)
      where
        by : IsMarked order (set marks i true) n → (n ≡ step) ⊎ Contains (marked order marks) n
        by is = go (eqb is.place i) refl
          where
            go : (c : Bool) → eqb is.place i ≡ c → (n ≡ step) ⊎ Contains (marked order marks) n
            go true e =
                let same : is.place ≡ i = grind (arith, nat_tests) in
                let both : Some n ≡ Some step = sym is.number ∙ ap (slice_get order) same ∙ at in
                inl (cc)
            go false e =
                inr (in_marked order marks n is.place is.number
                (sym (set_elsewhere marks i is.place (λ q. (let f : eqb is.place i ≡ true = grind (arith, nat_tests) in cc))) ∙ is.mark))

-- whether a step is marked is told by the mark at its place
pub mark_tells : (steps order : List ℕ) (marks : List Bool) (step i : ℕ) (b : Bool) → IsOrderOf steps order → slice_get order i ≡ Some step → slice_get marks i ≡ Some b
    → IsTrue b ↔ Contains (marked order marks) step
mark_tells steps order marks step i true is at mark = (λ h. in_marked order marks step i at mark, λ h. refl)
mark_tells steps order marks step i false is at mark = (
  λ h. absurd (no_way h),
  λ h. (let m = of_marked order marks step h in
      let same : m.place ≡ i = one_place order is.rising step m.place i m.number at in
      let both : Some true ≡ Some false = sym m.mark ∙ ap (slice_get marks) same ∙ mark in
      absurd (cc)),
)

-- what isn't one of the steps isn't marked
pub none_marked : (steps order : List ℕ) (marks : List Bool) (step : ℕ) → IsOrderOf steps order → (Contains steps step → ⊥) → Contains (marked order marks) step → ⊥
none_marked steps order marks step is none h =
    let m = of_marked order marks step h in
    none ((is.members step).0 (m.place, slice_get_within order m.place step m.number, get_or_from_slice_get order m.place step step m.number))

-- where no mark is set
unmarked : (order : List ℕ) (k : ℕ) → marked order (replicate k false) ≡ []
unmarked [] k = refl
unmarked (n ∷ ns) zero = refl
unmarked (n ∷ ns) (suc k) = unmarked ns k

none_taken : (n : ℕ) → take n (let none : List Bool = [] in none) ≡ []
none_taken zero = refl
none_taken (suc n) = refl

-- no mark is set where the marks are made
pub none_set : (order : List ℕ) (before marks : List Bool) (n m : ℕ) → before ≡ [] → marks ≡ take n before ++ replicate m false → marked order marks ≡ []
none_set order before marks n m none made =
    ap (marked order) (made ∙ ap (λ (l : List Bool). take n l ++ replicate m false) none ∙ ap (λ (l : List Bool). l ++ replicate m false) (none_taken n)) ∙ unmarked order m
