-- The steps of a project by number.
use Rattle.std.proofs.Common.{◌≡◌, ℕ, zero, suc, ◌+◌, ◌<◌, ◌≤◌, Bool, true, false, List, [], ◌∷◌, ◌++◌, length, take, get_or, Some, None, Ok, refl, sym, ap, subst, ◌∙◌, arith, add-one}
use Rattle.std.specs.Prelude.{◌||◌, ◌==◌, is_ok, slice_get}
use Rattle.std.specs.List.{list_all}
use Rattle.std.specs.Ordering.{nat_cmp, is_eq}
use Rattle.std.specs.BTreeMap.{BTreeMap, get, Updates}
use Rattle.std.proofs.Math.Seq.{take-suc}
use Rattle.std.proofs.lemmas.Bool.{eq-eqb}
use Rattle.std.proofs.lemmas.Bool.Decides.{nat_tests}
use Rattle.std.proofs.lemmas.List.{take_all, map-append}
use Rattle.entity_types.specs.declared.entity.Entity.{Entity}
use Rattle.project_store.specs.Entities.{entity_at}
use Rattle.step_def.specs.DefOf.{def_of}
use Rattle.path_blocks.specs.declared.step.Step.{Step}
use Rattle.exec_tree.specs.Built.{TreeValue}
use Rattle.edit_rules.specs.Faults.{has_def, is_among, IsDefOf}
use Rattle.edit_rules.specs.Steps.{HaveDefs, step_numbers, AreIndices}
use Rattle.edit_rules.specs.Project.{IsSound, IsProject}

-- each of the steps has a definition
pub all_defined : (entities : List Entity) (steps : List Step) → HaveDefs entities steps → list_all (has_def entities) (step_numbers steps) ≡ true
all_defined entities [] have = refl
all_defined entities (s ∷ steps) have =
    let first : has_def entities s.number ≡ true = ap is_ok have.0 in
    rw first (all_defined entities steps have.1)

-- ---- the step at an index

-- where the numbers tell one at an index, there is a step
pub within : (steps : List Step) (i n : ℕ) → slice_get (step_numbers steps) i ≡ Some n → i < length steps
within [] i n e = absurd (cc)
within (s ∷ steps) zero n e = omega arith
within (s ∷ steps) (suc i) n e = let rest = within steps i n e in omega (arith, rest)

-- the step at an index has the number that stands there, and its definition
pub found : (entities : List Entity) (steps : List Step) (i n : ℕ) (s : Step) → slice_get (step_numbers steps) i ≡ Some n → s ≡ get_or steps i s → HaveDefs entities steps → IsDefOf entities (step_numbers steps) n s.def
found entities [] i n s e at have = absurd (cc)
found entities (t ∷ steps) zero n s e at have =
    let same : t ≡ s = sym at in
    let is : t.number ≡ n = cc in
    record {
      among = rw (eq-eqb t.number n is) refl;
      defined = subst (λ (m : ℕ). def_of (entity_at entities) m ≡ Ok s.def) is (have.0 ∙ ap (λ (u : Step). Ok u.def) same);
    }
found entities (t ∷ steps) (suc i) n s e at have =
    let rest = found entities steps i n s e at have.1 in
    record { among = by (t.number == n) rest.among; defined = rest.defined }
  where
    by : (b : Bool) → is_among (step_numbers steps) n ≡ true → (b || is_among (step_numbers steps) n) ≡ true
    by true among = refl
    by false among = among

-- ---- the map from numbers to indices

pub no_indices : (indices : BTreeMap ℕ ℕ) → ((n : ℕ) → get nat_cmp indices n ≡ None) → AreIndices indices []
no_indices indices none = record {
  found = λ n i e. absurd (by n i (none n) e);
  all = λ n e. refl;
}
  where
    by : (n i : ℕ) → get nat_cmp indices n ≡ None → get nat_cmp indices n ≡ Some i → ⊥
    by n i none some = absurd (cc)

same_test : (n q : ℕ) → is_eq (nat_cmp n q) ≡ (n == q)
same_test n q = grind (arith, nat_tests)

get_last : (ns : List ℕ) (n : ℕ) → slice_get (ns ++ n ∷ []) (length ns) ≡ Some n
get_last [] n = refl
get_last (m ∷ ns) n = get_last ns n

get_earlier : (ns : List ℕ) (n i q : ℕ) → slice_get ns i ≡ Some q → slice_get (ns ++ n ∷ []) i ≡ Some q
get_earlier [] n i q e = absurd (cc)
get_earlier (m ∷ ns) n zero q e = e
get_earlier (m ∷ ns) n (suc i) q e = get_earlier ns n i q e

none_last : (ns : List ℕ) (n q : ℕ) → (n == q) ≡ false → is_among ns q ≡ false → is_among (ns ++ n ∷ []) q ≡ false
none_last [] n q differs none = rw differs refl
none_last (m ∷ ns) n q differs none = by (m == q) none (none_last ns n q differs)
  where
    by : (b : Bool) → (b || is_among ns q) ≡ false → (is_among ns q ≡ false → is_among (ns ++ n ∷ []) q ≡ false) → (b || is_among (ns ++ n ∷ []) q) ≡ false
    by true none rest = absurd (cc)
    by false none rest = rest none

-- one number more, at the end
one_index : (indices later : BTreeMap ℕ ℕ) (ns : List ℕ) (n : ℕ) → AreIndices indices ns → Updates nat_cmp indices later n (Some (length ns)) → AreIndices later (ns ++ n ∷ [])
one_index indices later ns n are u = record {
  found = λ q i e. there q i (n == q) refl e;
  all = λ q e. not_there q (n == q) refl e;
}
  where
    there : (q i : ℕ) (b : Bool) → (n == q) ≡ b → get nat_cmp later q ≡ Some i → slice_get (ns ++ n ∷ []) i ≡ Some q
    there q i true t e =
        let same : n ≡ q = grind (arith, nat_tests) in
        let at : Some (length ns) ≡ Some i = sym (u.0 q ∙ rw (same_test n q, t) refl) ∙ e in
        let is : length ns ≡ i = cc in
        subst (λ (k : ℕ). slice_get (ns ++ n ∷ []) k ≡ Some q) is (get_last ns n ∙ ap (λ (m : ℕ). Some m) same)
    there q i false t e = get_earlier ns n i q (are.found q i (sym (u.0 q ∙ rw (same_test n q, t) refl) ∙ e))

    not_there : (q : ℕ) (b : Bool) → (n == q) ≡ b → get nat_cmp later q ≡ None → is_among (ns ++ n ∷ []) q ≡ false
    not_there q true t e =
        let at : Some (length ns) ≡ None = sym (u.0 q ∙ rw (same_test n q, t) refl) ∙ e in
        absurd (cc)
    not_there q false t e = none_last ns n q t (are.all q (sym (u.0 q ∙ rw (same_test n q, t) refl) ∙ e))

taken : (steps : List Step) (i : ℕ) (s : Step) → i < length steps → s ≡ get_or steps i s → step_numbers (take (i + 1) steps) ≡ step_numbers (take i steps) ++ (s.number ∷ [])
taken steps i s lt at =
    ap step_numbers (rw add-one (take-suc steps i s lt ∙ ap (λ (t : Step). take i steps ++ (t ∷ [])) (sym at))) ∙ map-append (λ (t : Step). t.number) (take i steps) (s ∷ [])

many : (steps : List Step) (i : ℕ) → i ≤ length steps → length (step_numbers (take i steps)) ≡ i
many steps zero le = refl
many [] (suc i) le = absurd (omega arith)
many (s ∷ steps) (suc i) le = ap suc (many steps i (omega arith))

-- one step more
pub next_index : (indices later : BTreeMap ℕ ℕ) (steps : List Step) (i : ℕ) (s : Step) → i < length steps → s ≡ get_or steps i s → AreIndices indices (step_numbers (take i steps))
    → Updates nat_cmp indices later s.number (Some i) → AreIndices later (step_numbers (take (i + 1) steps))
next_index indices later steps i s lt at are u =
    subst (λ (ns : List ℕ). AreIndices later ns) (sym (taken steps i s lt at))
    (one_index indices later (step_numbers (take i steps)) s.number are (subst (λ (k : ℕ). Updates nat_cmp indices later s.number (Some k)) (sym (many steps i (omega (arith, lt)))) u))

pub all_indices : (indices : BTreeMap ℕ ℕ) (steps : List Step) (i : ℕ) → length steps ≤ i → AreIndices indices (step_numbers (take i steps)) → AreIndices indices (step_numbers steps)
all_indices indices steps i le are = subst (λ (ss : List Step). AreIndices indices (step_numbers ss)) (take_all i steps le) are

-- ---- what a project keeps

-- what a project keeps makes its entities sound
pub sound : (entities : List Entity) (tree : TreeValue) (steps : List Step) (indices : BTreeMap ℕ ℕ) → IsProject entities tree steps indices → IsSound entities
sound entities tree steps indices p = record {
  treed = p.tree_is.no_fault;
  defined = subst (λ (ns : List ℕ). list_all (has_def entities) ns ≡ true) p.steps_are (all_defined entities steps p.defs);
}
