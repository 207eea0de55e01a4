-- Values and conditions, one level down.
use Rattle.std.specs.Prelude.{◌≡◌, ◌<◌, ◌≤◌, ◌-◌, ℕ, suc, pos, Bool, false, List, ◌∷◌, length, Option, Some, None}
use Rattle.std.proofs.Common.{refl, sym, ap, subst, ◌∙◌, arith, get_or, drop, drop-cons}
use Rattle.entity_types.specs.declared.entity.Entity.{Entity}
use Rattle.nc_expr.specs.Term.{Written, Test, Constant}
use Rattle.exec_tree.specs.Terms.{term_from, entity_term, test_from, entity_test, join, list_test}

pub term_zero : (entities : ℕ → Option Entity) (levels n : ℕ) → levels ≡ 0 → Written (pos 0) ≡ term_from entities levels n
unfolding term_from
term_zero entities levels n e = rw e refl

pub term_none : (entities : ℕ → Option Entity) (levels n : ℕ) → 0 < levels → entities n ≡ None → Written (pos 0) ≡ term_from entities levels n
unfolding term_from
term_none entities levels n l at = let e : levels ≡ suc (levels - 1) = omega (arith, l) in rw (e, at) refl

term_suc : (entities : ℕ → Option Entity) (k n : ℕ) (entity : Entity) → entities n ≡ Some entity → term_from entities (suc k) n ≡ entity_term (λ m. term_from entities k m) n entity
unfolding term_from
term_suc entities k n entity at = rw at refl

pub term_some : (entities : ℕ → Option Entity) (levels n : ℕ) (entity : Entity) → 0 < levels → entities n ≡ Some entity → entity_term (λ m. term_from entities (levels - 1) m) n entity ≡ term_from entities levels n
term_some entities levels n entity l at =
    let e : suc (levels - 1) ≡ levels = omega (arith, l) in
    subst (λ (k : ℕ). entity_term (λ m. term_from entities (levels - 1) m) n entity ≡ term_from entities k n) e (sym (term_suc entities (levels - 1) n entity at))

pub test_zero : (entities : ℕ → Option Entity) (levels n : ℕ) → levels ≡ 0 → Constant false ≡ test_from entities levels n
unfolding test_from
test_zero entities levels n e = rw e refl

pub test_none : (entities : ℕ → Option Entity) (levels n : ℕ) → 0 < levels → entities n ≡ None → Constant false ≡ test_from entities levels n
unfolding test_from
test_none entities levels n l at = let e : levels ≡ suc (levels - 1) = omega (arith, l) in rw (e, at) refl

test_suc : (entities : ℕ → Option Entity) (k n : ℕ) (entity : Entity) → entities n ≡ Some entity → test_from entities (suc k) n ≡ entity_test (λ m. term_from entities k m) (λ m. test_from entities k m) entity
unfolding test_from
test_suc entities k n entity at = rw at refl

pub test_some : (entities : ℕ → Option Entity) (levels n : ℕ) (entity : Entity) → 0 < levels → entities n ≡ Some entity
    → entity_test (λ m. term_from entities (levels - 1) m) (λ m. test_from entities (levels - 1) m) entity ≡ test_from entities levels n
test_some entities levels n entity l at =
    let e : suc (levels - 1) ≡ levels = omega (arith, l) in
    subst (λ (k : ℕ). entity_test (λ m. term_from entities (levels - 1) m) (λ m. test_from entities (levels - 1) m) entity ≡ test_from entities k n) e (sym (test_suc entities (levels - 1) n entity at))

-- one of a list more, from the back
pub list_on : (below : ℕ → Test) (all : Bool) (ns : List ℕ) (i : ℕ) (first later whole : Test) → 0 < i → i ≤ length ns → first ≡ below (get_or ns (i - 1) 0) → later ≡ list_test below all (drop i ns)
    → whole ≡ join all first later → (i - 1 ≤ length ns) × (whole ≡ list_test below all (drop (i - 1) ns))
list_on below all ns i first later whole some l f h w =
    let s : suc (i - 1) ≡ i = omega (arith, some) in
    let within : i - 1 < length ns = omega (arith, some, l) in
    let down : drop (i - 1) ns ≡ get_or ns (i - 1) 0 ∷ drop i ns = drop-cons ns (i - 1) 0 within ∙ ap (λ (k : ℕ). get_or ns (i - 1) 0 ∷ drop k ns) s in
    (omega (arith, within), w ∙ (ap (λ (x : Test). join all x later) f ∙ (ap (join all (below (get_or ns (i - 1) 0))) h ∙ sym (ap (list_test below all) down))))
