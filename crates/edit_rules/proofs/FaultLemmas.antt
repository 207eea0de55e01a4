-- The steps of workingsteps in a row, or the least that has a fault.
use Rattle.std.proofs.Common.{◌≡◌, ℕ, zero, suc, ◌+◌, ◌<◌, ◌≤◌, Bool, true, false, List, [], ◌∷◌, ◌++◌, length, take, get_or, Ok, Err, refl, sym, ap, subst, ◌∙◌, add-one, arith, ⊎_elim}
use Rattle.std.specs.Prelude.{◌&&◌, ◌||◌, ◌==◌, is_ok}
use Rattle.std.specs.List.{list_all}
use Rattle.std.proofs.Math.Seq.{take-suc}
use Rattle.std.specs.List.Sorted.{IsNonDecreasing, IsPermutation}
use Rattle.std.proofs.lemmas.Bool.{eqb-true, eq-eqb, cases_order}
use Rattle.std.proofs.lemmas.List.Sorted.{list_any-IsPermutation}
use Rattle.std.proofs.lemmas.List.{take_all, map-append}
use Rattle.entity_types.specs.declared.entity.Entity.{Entity}
use Rattle.project_store.specs.Entities.{entity_at}
use Rattle.path_blocks.specs.declared.step.Step.{Step}
use Rattle.step_def.specs.declared.fault.DefFault.{DefFault}
use Rattle.step_def.specs.DefOf.{def_of}
use Rattle.edit_rules.specs.Faults.{has_def, is_among, IsLeastFault}
use Rattle.edit_rules.specs.Steps.{HaveDefs, step_numbers, AreSteps, IsLeastFirst}
use Rattle.edit_rules.specs.declared.error.ProjErr.{ProjErr}
use Rattle.edit_rules.specs.declared.error.ProjErr.TheVariants.{Tree, Definition, NoMemory}

all_push : (p : ℕ → Bool) (xs : List ℕ) (x : ℕ) → list_all p xs ≡ true → p x ≡ true → list_all p (xs ++ x ∷ []) ≡ true
all_push p [] x all e = rw e refl
all_push p (y ∷ xs) x all e = by (p y) (list_all p xs) all (all_push p xs x)
  where
    by : (a b : Bool) → (a && b) ≡ true → (b ≡ true → p x ≡ true → list_all p (xs ++ x ∷ []) ≡ true) → (a && list_all p (xs ++ x ∷ [])) ≡ true
    by true b all f = f all e
    by false b all f = absurd (cc)

-- each of the numbers passes where all do
pub each : (p : ℕ → Bool) (ns : List ℕ) (m : ℕ) → list_all p ns ≡ true → is_among ns m ≡ true → p m ≡ true
each p [] m all e = absurd (cc)
each p (y ∷ ns) m all e = by (p y) (y == m) refl (eqb-true y m) all e (each p ns m)
  where
    by : (a b : Bool) → p y ≡ a → (b ≡ true → y ≡ m) → (a && list_all p ns) ≡ true → (b || is_among ns m) ≡ true → (list_all p ns ≡ true → is_among ns m ≡ true → p m ≡ true) → p m ≡ true
    by true true h f all e rest = ap p (sym (f refl)) ∙ h
    by true false h f all e rest = rest all e
    by false b h f all e rest = absurd (cc)

defs_push : (entities : List Entity) (steps : List Step) (s : Step) → HaveDefs entities steps → def_of (entity_at entities) s.number ≡ Ok s.def → HaveDefs entities (steps ++ s ∷ [])
defs_push entities [] s have e = (e, tt)
defs_push entities (t ∷ steps) s have e = (have.0, defs_push entities steps s have.1 e)

-- what was found of these workingsteps: all their steps
pub record SoFar (entities : List Entity) (ns : List ℕ) (steps : List Step) : Type 0 where
  pub numbers : step_numbers steps ≡ ns
  pub defined : list_all (has_def entities) ns ≡ true
  pub have : HaveDefs entities steps

-- one workingstep more has a definition
one_step : (entities : List Entity) (ns : List ℕ) (steps : List Step) (s : Step) → def_of (entity_at entities) s.number ≡ Ok s.def → SoFar entities ns steps → SoFar entities (ns ++ s.number ∷ []) (steps ++ s ∷ [])
one_step entities ns steps s e so_far = record {
  numbers = map-append (λ (t : Step). t.number) steps (s ∷ []) ∙ ap (λ (ms : List ℕ). ms ++ s.number ∷ []) so_far.numbers;
  defined = all_push (has_def entities) ns s.number so_far.defined (ap is_ok e);
  have = defs_push entities steps s so_far.have e;
}

taken : (numbers : List ℕ) (i : ℕ) → i < length numbers → take (i + 1) numbers ≡ take i numbers ++ (get_or numbers i 0 ∷ [])
taken numbers i lt = rw add-one (take-suc numbers i 0 lt)

pub with_step : (entities : List Entity) (numbers : List ℕ) (i : ℕ) (steps : List Step) (s : Step) → i < length numbers → s.number ≡ get_or numbers i 0 → def_of (entity_at entities) s.number ≡ Ok s.def
    → SoFar entities (take i numbers) steps → SoFar entities (take (i + 1) numbers) (steps ++ s ∷ [])
with_step entities numbers i steps s lt is e so_far =
    subst (λ (ns : List ℕ). SoFar entities ns (steps ++ s ∷ [])) (ap (λ (n : ℕ). take i numbers ++ (n ∷ [])) is ∙ sym (taken numbers i lt)) (one_step entities (take i numbers) steps s e so_far)

-- each number of a list is among its numbers
among_at : (ns : List ℕ) (i : ℕ) → i < length ns → is_among ns (get_or ns i 0) ≡ true
among_at [] i lt = absurd (omega arith)
among_at (n ∷ ns) zero lt = rw (eq-eqb n n refl) refl
among_at (n ∷ ns) (suc i) lt = by (n == get_or ns i 0) (among_at ns i (omega arith))
  where
    by : (b : Bool) → is_among ns (get_or ns i 0) ≡ true → (b || is_among ns (get_or ns i 0)) ≡ true
    by true e = refl
    by false e = e

-- the first that has a fault is the least
pub with_fault : (entities : List Entity) (numbers : List ℕ) (i : ℕ) (steps : List Step) (fault : DefFault) → i < length numbers → def_of (entity_at entities) (get_or numbers i 0) ≡ Err fault
    → IsLeastFirst entities numbers → SoFar entities (take i numbers) steps → IsLeastFault entities numbers (get_or numbers i 0) fault
with_fault entities numbers i steps fault lt e least so_far =
    record { among = among_at numbers i lt; faulty = e; least = least i lt so_far.defined (ap is_ok e) }

-- at the loop's end all workingsteps were looked at
pub at_end : (entities : List Entity) (numbers : List ℕ) (i : ℕ) (steps : List Step) → length numbers ≤ i → SoFar entities (take i numbers) steps → SoFar entities numbers steps
at_end entities numbers i steps le so_far = subst (λ (ns : List ℕ). SoFar entities ns steps) (take_all i numbers le) so_far

-- ---- numbers in order

-- where a number stands among others
place_of : (ns : List ℕ) (m : ℕ) → is_among ns m ≡ true → (k : ℕ) × (k < length ns) × (get_or ns k 0 ≡ m)
place_of [] m e = absurd (cc)
place_of (n ∷ ns) m e = by (n == m) e (eqb-true n m) (place_of ns m)
  where
    by : (b : Bool) → (b || is_among ns m) ≡ true → (b ≡ true → n ≡ m) → (is_among ns m ≡ true → (k : ℕ) × (k < length ns) × (get_or ns k 0 ≡ m)) → (k : ℕ) × (k < length (n ∷ ns)) × (get_or (n ∷ ns) k 0 ≡ m)
    by true e same more = (0, omega arith, same refl)
    by false e same more = let rest = more e in (suc rest.0, omega (arith, rest.1), rest.2)

get_taken : (ns : List ℕ) (i k : ℕ) → k < i → k < length ns → get_or (take i ns) k 0 ≡ get_or ns k 0
get_taken ns zero k lt within = absurd (omega arith)
get_taken [] (suc i) k lt within = absurd (omega arith)
get_taken (n ∷ ns) (suc i) zero lt within = refl
get_taken (n ∷ ns) (suc i) (suc k) lt within = get_taken ns i k (omega arith) (omega arith)

short : (ns : List ℕ) (i k : ℕ) → k < i → k < length ns → k < length (take i ns)
short ns zero k lt within = absurd (omega arith)
short [] (suc i) k lt within = absurd (omega arith)
short (n ∷ ns) (suc i) zero lt within = omega arith
short (n ∷ ns) (suc i) (suc k) lt within = omega (arith, short ns i k (omega arith) (omega arith))

-- of numbers in order the first without a definition is the least
pub ordered_first : (entities : List Entity) (numbers : List ℕ) → IsNonDecreasing numbers → IsLeastFirst entities numbers
ordered_first entities numbers ordered i lt before faulty m among less =
    let at = place_of numbers m among in
    let earlier : at.0 < i = ⊎_elim (λ same. absurd (omega (arith, ordered i at.0 0 (omega (arith, same)) at.1, at.2))) (λ r. ⊎_elim (λ l. l) (λ l. absurd (omega (arith, ordered i at.0 0 (omega (arith, l)) at.1, at.2))) r) (cases_order at.0 i) in
    let there : is_among (take i numbers) m ≡ true =
    subst (λ (n : ℕ). is_among (take i numbers) n ≡ true) (get_taken numbers i at.0 earlier at.1 ∙ at.2) (among_at (take i numbers) at.0 (short numbers i at.0 earlier at.1)) in
    each (has_def entities) (take i numbers) m before there

-- where all have one, there is no first without
pub all_first : (entities : List Entity) (numbers : List ℕ) → list_all (has_def entities) numbers ≡ true → IsLeastFirst entities numbers
all_first entities numbers all i lt before faulty m among less = each (has_def entities) numbers m all among

-- ---- the same numbers in another order

pub all_from : (p : ℕ → Bool) (ns : List ℕ) → ((m : ℕ) → is_among ns m ≡ true → p m ≡ true) → list_all p ns ≡ true
all_from p [] passes = refl
all_from p (n ∷ ns) passes =
    let first : p n ≡ true = passes n (rw (eq-eqb n n refl) refl) in
    rw first (all_from p ns (λ m among. passes m (by (n == m) m among)))
  where
    by : (b : Bool) (m : ℕ) → is_among ns m ≡ true → (b || is_among ns m) ≡ true
    by true m e = refl
    by false m e = e

same_among : (ns ms : List ℕ) → IsPermutation ns ms → (m : ℕ) → is_among ns m ≡ is_among ms m
same_among ns ms moved m = list_any-IsPermutation (λ (k : ℕ). k == m) ns ms moved

pub all_moved : (p : ℕ → Bool) (ns ms : List ℕ) → IsPermutation ns ms → list_all p ns ≡ true → list_all p ms ≡ true
all_moved p ns ms moved all = all_from p ms (λ m among. each p ns m all (same_among ns ms moved m ∙ among))

-- the least fault is the same in any order
pub fault_moved : (entities : List Entity) (ns ms : List ℕ) (e : ProjErr) → IsPermutation ns ms → AreSteps entities ms (Err e) → AreSteps entities ns (Err e)
fault_moved entities ns ms (Definition n fault) moved least = record {
  among = same_among ns ms moved n ∙ least.among;
  faulty = least.faulty;
  least = λ m among less. least.least m (sym (same_among ns ms moved m) ∙ among) less;
}
fault_moved entities ns ms (Tree fault) moved said = absurd said
fault_moved entities ns ms NoMemory moved said = tt

both : (a b : Bool) → (a && b) ≡ true → (a ≡ true) × (b ≡ true)
both true b e = (refl, e)
both false b e = absurd (cc)

-- each of the numbers passes a test that all pass
pub one_passes : (p : ℕ → Bool) (numbers : List ℕ) (i : ℕ) → i < length numbers → list_all p numbers ≡ true → p (get_or numbers i 0) ≡ true
one_passes p [] i lt all = absurd (omega arith)
one_passes p (n ∷ ns) zero lt all = (both (p n) (list_all p ns) all).0
one_passes p (n ∷ ns) (suc i) lt all = one_passes p ns i (omega arith) (both (p n) (list_all p ns) all).1
