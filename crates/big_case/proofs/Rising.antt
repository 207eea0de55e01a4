-- Instances that are valid each by itself and whose numbers rise.
use Rattle.std.proofs.Common.{◌≡◌, ℕ, zero, suc, ◌+◌, ◌<◌, ◌≤◌, nat_eq, false, List, [], ◌∷◌, ◌++◌, length, map, take, arith}
use Rattle.std.specs.List.{AllByRecursion, IsDistinct}
use Rattle.std.proofs.lemmas.Bool.Decides.{nat_tests}
use Rattle.p21_parse.specs.Tree.{InstanceTree}
use Rattle.p21_parse.specs.Grammar.{IsInstance}
use Rattle.p21_parse.specs.Nesting.{greatest, instance_nesting}
use Rattle.p21_parse.specs.Spelled.{IsSpelledInstance}
use Rattle.p21_parse.specs.Allowed.{own_number_of}
use Rattle.p21_parse.specs.Built.{IsValid, AreValid, IsFirstInvalid}

-- each is valid, and their numbers rise, from one on and below another
abbrev pub Rises : ℕ → ℕ → List InstanceTree → Type 0
Rises lo hi [] = lo ≤ hi
Rises lo hi (i ∷ is) = (lo ≤ i.number) × IsValid i × Rises (suc i.number) hi is

pub single : (i : InstanceTree) (lo hi : ℕ) → lo ≤ i.number → i.number < hi → IsValid i → Rises lo hi (i ∷ [])
single i lo hi low high v = let lt : suc i.number ≤ hi = omega arith in (low, v, lt)

rises_lower : (lo mid hi : ℕ) (is : List InstanceTree) → lo ≤ mid → Rises mid hi is → Rises lo hi is
rises_lower lo mid hi [] le h = omega arith
rises_lower lo mid hi (i ∷ is) le h = let low = h.0 in let e : lo ≤ i.number = omega arith in (e, h.1, h.2)

pub rises_append : (lo mid hi : ℕ) (is js : List InstanceTree) → Rises lo mid is → Rises mid hi js → Rises lo hi (is ++ js)
rises_append lo mid hi [] js h k = rises_lower lo mid hi js h k
rises_append lo mid hi (i ∷ is) js h k = (h.0, h.1, rises_append (suc i.number) mid hi is js h.2 k)

rises_length : (lo hi : ℕ) (is : List InstanceTree) → Rises lo hi is → length is + lo ≤ hi
rises_length lo hi [] h = omega arith
rises_length lo hi (i ∷ is) h = let rest = rises_length (suc i.number) hi is h.2 in let low = h.0 in omega arith

rises_take : (lo hi n : ℕ) (is : List InstanceTree) → Rises lo hi is → Rises lo hi (take n is)
rises_take lo hi zero is h = let long = rises_length lo hi is h in omega arith
rises_take lo hi (suc n) [] h = h
rises_take lo hi (suc n) (i ∷ is) h = (h.0, h.1, rises_take (suc i.number) hi n is h.2)

-- ---- so they can stand in a file together

apart : (m n : ℕ) → m < n → nat_eq m n ≡ false
apart m n lt = grind (arith, nat_tests)

all_apart : (k lo hi : ℕ) (is : List InstanceTree) → k < lo → Rises lo hi is → AllByRecursion (λ n. nat_eq k n ≡ false) (map own_number_of is)
all_apart k lo hi [] lt h = tt
all_apart k lo hi (i ∷ is) lt h = let low = h.0 in (apart k i.number (omega arith), all_apart k (suc i.number) hi is (omega arith) h.2)

rises_distinct : (lo hi : ℕ) (is : List InstanceTree) → Rises lo hi is → IsDistinct nat_eq (map own_number_of is)
unfolding IsDistinct
rises_distinct lo hi [] h = tt
rises_distinct lo hi (i ∷ is) h = (all_apart i.number (suc i.number) hi is (omega arith) h.2, rises_distinct (suc i.number) hi is h.2)

rises_grammar : (lo hi : ℕ) (is : List InstanceTree) → Rises lo hi is → AllByRecursion IsInstance is
rises_grammar lo hi [] h = tt
rises_grammar lo hi (i ∷ is) h = let v = h.1 in (v.grammar, rises_grammar (suc i.number) hi is h.2)

rises_shallow : (lo hi : ℕ) (is : List InstanceTree) → Rises lo hi is → greatest instance_nesting is ≤ 32
rises_shallow lo hi [] h = omega arith
rises_shallow lo hi (i ∷ is) h = let v = h.1 in let low = v.shallow in let rest = rises_shallow (suc i.number) hi is h.2 in omega arith

rises_spelled : (lo hi : ℕ) (is : List InstanceTree) → Rises lo hi is → AllByRecursion IsSpelledInstance is
rises_spelled lo hi [] h = tt
rises_spelled lo hi (i ∷ is) h = let v = h.1 in (v.spelled, rises_spelled (suc i.number) hi is h.2)

pub rises_valid : (lo hi : ℕ) (is : List InstanceTree) → hi ≤ 200000 → Rises lo hi is → AreValid is
rises_valid lo hi is few h =
    let long = rises_length lo hi is h in
    record {
      allowed = record { grammar = rises_grammar lo hi is h; shallow = rises_shallow lo hi is h; few = omega arith };
      distinct = rises_distinct lo hi is h;
      spelled = rises_spelled lo hi is h;
    }

-- and are never refused
pub never_refused : (lo hi n : ℕ) (is : List InstanceTree) → hi ≤ 200000 → Rises lo hi is → IsFirstInvalid is n → ⊥
never_refused lo hi n is few h refused = refused.with_it (rises_valid lo hi (take (suc n) is) few (rises_take lo hi (suc n) is h))
