-- The opening values of variables, put one after another.
use Rattle.std.specs.Prelude.{◌≡◌, ◌<◌, ◌+◌, ◌==◌, ◌⊎◌, ℕ, ℤ, pos, suc, Bool, true, false, if◌then◌else◌, unwrap_or, List, [], ◌∷◌, ◌++◌, length, slice_get, Option, Some, None, IsSome, Result, Ok, Err, IfOk}
use Rattle.std.specs.Option.{option_or, option_map_or}
use Rattle.std.specs.Ordering.{int_eq}
use Rattle.std.proofs.Common.{refl, sym, ap, subst, ◌∙◌, inl, inr, arith}
use Rattle.std.proofs.lemmas.Bool.Decides.{nat_tests, Decides-int_eq}
use Rattle.std.proofs.lemmas.Option.{slice_get_within}
use Rattle.entity_types.specs.declared.entity.Entity.{Entity}
use Rattle.project_store.specs.Entities.{entity_at}
use Rattle.nc_expr.specs.Vars.{last_value}
use Rattle.exec_tree.specs.Said.{Said}
use Rattle.exec_tree.specs.declared.node.BareNode.{BareNode}
use Rattle.exec_tree.specs.Walked.{place_from}
use Rattle.project_law.specs.Variables.{opening_of, opening_vars}
use Rattle.run_state.specs.State.{variable_by}
use Rattle.run_state.specs.Opening.{AreOpening, AreAssigned, IsOpening, opened, opening_number}

no_way : false ≡ true → ⊥
no_way g = cc

-- what follows of each value follows of what a result has
pub if_ok : {A E : Type 0} (r : Result A E) (P Q : A → Type 0) → ((a : A) → P a → Q a) → IfOk r P → IfOk r Q
if_ok (Ok a) P Q f h = f a h
if_ok (Err e) P Q f h = h

-- one pair more at the end
last_pushed : (pairs : List (ℕ × ℤ)) (m : ℕ) (x : ℤ) (n : ℕ) → last_value (pairs ++ (m, x) ∷ []) n ≡ (if m == n then Some x else last_value pairs n)
last_pushed [] m x n = refl
last_pushed (pair ∷ pairs) m x n = ap (λ (o : Option ℤ). option_or o (if pair.0 == n then Some pair.1 else None)) (last_pushed pairs m x n) ∙ go (m == n)
  where
    go : (b : Bool) → option_or (if b then Some x else last_value pairs n) (if pair.0 == n then Some pair.1 else None) ≡ (if b then Some x else last_value (pair ∷ pairs) n)
    go true = refl
    go false = refl

right_more : (store : List Entity) (o : Option ℕ) (pairs : List (ℕ × ℤ)) → ((m : ℕ) → IsOpening (opening_vars store m) (last_value pairs m)) → (m : ℕ) → IsOpening (opening_vars store m) (last_value (opened store o pairs) m)
right_more store None pairs h m = h m
right_more store (Some v) pairs h m = subst (IsOpening (opening_vars store m)) (sym (last_pushed pairs v (opening_vars store v) m)) (go (v == m) refl)
  where
    go : (b : Bool) → (v == m) ≡ b → IsOpening (opening_vars store m) (if b then Some (opening_vars store v) else last_value pairs m)
    go true e = let f : v ≡ m = grind (arith, nat_tests) in ap (opening_vars store) f
    go false e = h m

keeps : (store : List Entity) (o : Option ℕ) (pairs : List (ℕ × ℤ)) (m : ℕ) → IsSome (last_value pairs m) → IsSome (last_value (opened store o pairs) m)
keeps store None pairs m h = h
keeps store (Some v) pairs m h = subst IsSome (sym (last_pushed pairs v (opening_vars store v) m)) (go (v == m))
  where
    go : (b : Bool) → IsSome (if b then Some (opening_vars store v) else last_value pairs m)
    go true = refl
    go false = h

has_opened : (store : List Entity) (pairs : List (ℕ × ℤ)) (v : ℕ) → IsSome (last_value (opened store (Some v) pairs) v)
has_opened store pairs v = let e : (v == v) ≡ true = grind (arith, nat_tests) in subst IsSome (sym (last_pushed pairs v (opening_vars store v) v)) (rw e refl)

-- the opening value of one more entity
pub entity_opened : (store : List Entity) (i : ℕ) (pairs : List (ℕ × ℤ)) (entity : Entity) → slice_get store i ≡ Some entity → AreOpening store i pairs → AreOpening store (i + 1) (opened store (opening_number store entity.number) pairs)
entity_opened store i pairs entity e h = record {
  right = right_more store (opening_number store entity.number) pairs h.right;
  all = λ j other l f. go j other l f (j == i) refl;
}
  where
    here : (b : Bool) → int_eq (opening_vars store entity.number) (pos 0) ≡ b
        → (opening_vars store entity.number ≡ pos 0) ⊎ IsSome (last_value (opened store (if b then None else Some entity.number) pairs) entity.number)
    here true g = inl ((Decides-int_eq (opening_vars store entity.number) (pos 0)).0 g)
    here false g = inr (has_opened store pairs entity.number)

    before : (other : Entity) → (opening_vars store other.number ≡ pos 0) ⊎ IsSome (last_value pairs other.number)
        → (opening_vars store other.number ≡ pos 0) ⊎ IsSome (last_value (opened store (opening_number store entity.number) pairs) other.number)
    before other (inl z) = inl z
    before other (inr s) = inr (keeps store (opening_number store entity.number) pairs other.number s)

    go : (j : ℕ) (other : Entity) → j < i + 1 → slice_get store j ≡ Some other → (b : Bool) → (j == i) ≡ b
        → (opening_vars store other.number ≡ pos 0) ⊎ IsSome (last_value (opened store (opening_number store entity.number) pairs) other.number)
    go j other l f true g =
        let s : j ≡ i = grind (arith, nat_tests) in
        let t : Some entity ≡ Some other = sym e ∙ (ap (slice_get store) (sym s) ∙ f) in
        let u : entity ≡ other = cc in
        subst (λ (x : Entity). (opening_vars store x.number ≡ pos 0) ⊎ IsSome (last_value (opened store (opening_number store entity.number) pairs) x.number)) u (here (int_eq (opening_vars store entity.number) (pos 0)) refl)
    go j other l f false g = let k : j < i = grind (arith, nat_tests) in before other (h.all j other k f)

-- the opening value of the variable that one more node assigns
pub node_opened : (store : List Entity) (count i : ℕ) (said : List Said) (one : Option Said) (pairs : List (ℕ × ℤ)) → slice_get said i ≡ one → AreOpening store count pairs → AreAssigned said i pairs
    → AreOpening store count (opened store (variable_by one) pairs) × AreAssigned said (i + 1) (opened store (variable_by one) pairs)
node_opened store count i said one pairs e h a = (record { right = right_more store (variable_by one) pairs h.right; all = λ j other l f. before other (h.all j other l f) }, λ j v l f. go j v l f (j == i) refl)
  where
    before : (other : Entity) → (opening_vars store other.number ≡ pos 0) ⊎ IsSome (last_value pairs other.number)
        → (opening_vars store other.number ≡ pos 0) ⊎ IsSome (last_value (opened store (variable_by one) pairs) other.number)
    before other (inl z) = inl z
    before other (inr s) = inr (keeps store (variable_by one) pairs other.number s)

    go : (j v : ℕ) → j < i + 1 → variable_by (slice_get said j) ≡ Some v → (b : Bool) → (j == i) ≡ b → IsSome (last_value (opened store (variable_by one) pairs) v)
    go j v l f true g =
        let s : j ≡ i = grind (arith, nat_tests) in
        let t : variable_by one ≡ Some v = ap variable_by (sym e ∙ ap (slice_get said) (sym s)) ∙ f in
        subst (λ (o : Option ℕ). IsSome (last_value (opened store o pairs) v)) (sym t) (has_opened store pairs v)
    go j v l f false g = let k : j < i = grind (arith, nat_tests) in keeps store (variable_by one) pairs v (a j v k f)

-- an entity that is found stands somewhere
stands : (store : List Entity) (v : ℕ) (entity : Entity) → entity_at store v ≡ Some entity → (j : ℕ) × (j < length store) × (slice_get store j ≡ Some entity) × (v ≡ entity.number)
stands [] v entity e = absurd (cc)
stands (first ∷ store) v entity e = go (v == first.number) refl e (stands store v entity)
  where
    go : (b : Bool) → (v == first.number) ≡ b → (if b then Some first else entity_at store v) ≡ Some entity
        → (entity_at store v ≡ Some entity → (j : ℕ) × (j < length store) × (slice_get store j ≡ Some entity) × (v ≡ entity.number))
        → (j : ℕ) × (j < suc (length store)) × (slice_get (first ∷ store) j ≡ Some entity) × (v ≡ entity.number)
    go true g f rec = let s : v ≡ first.number = grind (arith, nat_tests) in let t : first ≡ entity = cc in (0, omega arith, f, s ∙ ap (λ (x : Entity). x.number) t)
    go false g f rec = let z = rec f in let l = z.1 in (suc z.0, omega (arith, l), z.2, z.3)

-- so the pairs tell what each variable opens with
pub opening_told : (store : List Entity) (pairs : List (ℕ × ℤ)) → AreOpening store (length store) pairs → (v : ℕ) → unwrap_or (last_value pairs v) (pos 0) ≡ opening_vars store v
opening_told store pairs h v = go (last_value pairs v) refl (h.right v)
  where
    none : (o : Option Entity) → entity_at store v ≡ o → last_value pairs v ≡ None → pos 0 ≡ opening_of o
    none None e f = refl
    none (Some entity) e f =
        let z = stands store v entity e in
        let s : v ≡ entity.number = z.3 in
        pick entity e s (h.all z.0 entity z.1 z.2)
      where
        pick : (entity : Entity) → entity_at store v ≡ Some entity → v ≡ entity.number → (opening_vars store entity.number ≡ pos 0) ⊎ IsSome (last_value pairs entity.number) → pos 0 ≡ opening_of (Some entity)
        pick entity e s (inl z) = sym z ∙ (ap (opening_vars store) (sym s) ∙ ap opening_of e)
        pick entity e s (inr some) = let t : IsSome (last_value pairs v) = subst (λ (k : ℕ). IsSome (last_value pairs k)) (sym s) some in absurd (no_way (rw f at t))

    go : (o : Option ℤ) → last_value pairs v ≡ o → IsOpening (opening_vars store v) o → unwrap_or o (pos 0) ≡ opening_vars store v
    go None e r = none (entity_at store v) refl e
    go (Some x) e r = r

-- and have each variable that a node assigns
pub assigned_there : (nodes : List BareNode) (said : List Said) (count : ℕ) (pairs : List (ℕ × ℤ)) → length said ≡ count → AreAssigned said count pairs
    → (n v : ℕ) → variable_by (option_map_or (λ p. slice_get said p) (place_from 0 nodes n) None) ≡ Some v → IsSome (last_value pairs v)
assigned_there nodes said count pairs e a n v f = go (place_from 0 nodes n) f
  where
    none_some : None ≡ Some v → ⊥
    none_some g = cc

    at : (p : ℕ) → variable_by (slice_get said p) ≡ Some v → (o : Option Said) → slice_get said p ≡ o → IsSome (last_value pairs v)
    at p g None h = absurd (none_some (subst (λ (o : Option Said). variable_by o ≡ Some v) h g))
    at p g (Some s) h = let l : p < length said = within p s h in a p v (subst (λ (k : ℕ). p < k) e l) g
      where
        within : (p : ℕ) (s : Said) → slice_get said p ≡ Some s → p < length said
        within p s h = slice_get_within said p s h

    go : (o : Option ℕ) → variable_by (option_map_or (λ p. slice_get said p) o None) ≡ Some v → IsSome (last_value pairs v)
    go None g = absurd (none_some g)
    go (Some p) g = at p g (slice_get said p) refl
