-- Constants that refer to nothing may be put.
use Rattle.std.proofs.Common.{◌≡◌, ℕ, zero, suc, ◌+◌, ◌<◌, ◌==◌, Bool, true, false, List, [], ◌∷◌, length, get_or, Some, refl, sym, ap, subst, ◌∙◌, arith}
use Rattle.std.specs.Prelude.{Contains, slice_get, flat_map}
use Rattle.std.proofs.lemmas.List.Elements.{Contains-append_left, Contains-append_right}
use Rattle.std.proofs.lemmas.Bool.Decides.{nat_tests}
use Rattle.entity_types.specs.declared.class.Class.{Class}
use Rattle.entity_types.specs.declared.class.Class.TheVariants.{NcConstant}
use Rattle.entity_types.specs.declared.entity.Entity.{Entity}
use Rattle.entity_types.specs.declared.field.Field.{Field}
use Rattle.entity_types.specs.declared.table.UsedPosition.{UsedPosition}
use Rattle.entity_types.specs.Class.{code_of}
use Rattle.entity_types.specs.Table.{used_of}
use Rattle.entity_types.specs.Entity.{field_at, references_of, uses_of}
use Rattle.project_store.specs.Entities.{entity_at}
use Rattle.project_store.specs.Putting.{CanPut}

-- a constant that refers to nothing, and is new or takes the place of a constant
pub record FitsIn (store : List Entity) (item : Entity) : Type 0 where
  pub constant : item.class ≡ NcConstant
  pub nothing : uses_of item ≡ []
  pub old : (old : Entity) → entity_at store item.number ≡ Some old → old.class ≡ NcConstant

used_there : (us : List UsedPosition) (fs : List Field) (p r : ℕ) (f : Field) → field_at us fs p ≡ Some f → Contains (references_of f) r → Contains (flat_map references_of fs) r
used_there [] fs p r f at c = absurd (let no : ⊥ = cc in no)
used_there (u ∷ us) [] p r f at c = absurd (let no : ⊥ = cc in no)
used_there (u ∷ us) (g ∷ fs) p r f at c = go (u.position == p) refl (used_there us fs p r f)
  where
    go : (b : Bool) → (u.position == p) ≡ b → (field_at us fs p ≡ Some f → Contains (references_of f) r → Contains (flat_map references_of fs) r) → Contains (flat_map references_of (g ∷ fs)) r
    go true h rest =
        let same : g ≡ f = let both : Some g ≡ Some f = rw h at at in cc in
        Contains-append_left (references_of g) (flat_map references_of fs) r (subst (λ (x : Field). Contains (references_of x) r) (sym same) c)
    go false h rest = Contains-append_right (references_of g) (flat_map references_of fs) r (rest (rw h at at) c)

none_in : (r : ℕ) → Contains [] r → ⊥
none_in r c = omega (arith, c.1)

at_place : (items : List Entity) (x : Entity) → Contains items x → (k : ℕ) × (slice_get items k ≡ Some x)
at_place items x c = by items c.0 c.1 c.2
  where
    by : (es : List Entity) (k : ℕ) → k < length es → get_or es k x ≡ x → (j : ℕ) × (slice_get es j ≡ Some x)
    by [] k l e = absurd (omega arith)
    by (y ∷ es) zero l e = (0, ap Some e)
    by (y ∷ es) (suc k) l e = let rest = by es k (omega arith) e in (suc rest.0, rest.1)

pub can_put : (store items : List Entity) → ((k : ℕ) (x : Entity) → slice_get items k ≡ Some x → FitsIn store x) → CanPut store items
can_put store items fit = record {
  resolved = λ x among p r t f at field c. absurd (none_in r (subst (λ (rs : List ℕ). Contains rs r) (of x among).nothing (used_there (used_of x.class) x.fields p r f field c)));
  kept = λ x old among there. (of x among).constant ∙ sym ((of x among).old old there);
  no_project = λ x among none. ap (λ (k : Class). code_of k == 1) (of x among).constant;
}
  where
    of : (x : Entity) → Contains items x → FitsIn store x
    of x among = let at = at_place items x among in fit at.0 x at.1

-- one item more that fits
pub one_more : (store items : List Entity) (i : ℕ) (y : Entity) → slice_get items i ≡ Some y → FitsIn store y
    → ((k : ℕ) (x : Entity) → k < i → slice_get items k ≡ Some x → FitsIn store x) → (k : ℕ) (x : Entity) → k < i + 1 → slice_get items k ≡ Some x → FitsIn store x
one_more store items i y here fit before k x l at = go (k == i) refl
  where
    go : (b : Bool) → (k == i) ≡ b → FitsIn store x
    go true e =
        let same : k ≡ i = grind (arith, nat_tests) in
        let one : y ≡ x = let both : Some y ≡ Some x = sym here ∙ ap (slice_get items) (sym same) ∙ at in cc in
        subst (FitsIn store) one fit
    go false e = let lt : k < i = grind (arith, nat_tests) in before k x lt at
