-- The place of the last item of a number.
use Rattle.std.proofs.Common.{◌≡◌, ℕ, suc, ◌+◌, ◌<◌, ◌==◌, Bool, true, false, cond, List, [], ◌∷◌, ◌++◌, length, Option, Some, None, ◌⊎◌, inl, inr, refl, sym, ap, subst, ◌∙◌, arith}
use Rattle.std.specs.Prelude.{slice_get}
use Rattle.std.specs.Option.{option_or}
use Rattle.std.proofs.lemmas.Option.{slice_get_within}
use Rattle.entity_types.specs.declared.entity.Entity.{Entity}
use Rattle.project_store.specs.Lasts.{last_place}
use Rattle.project_store.specs.Put.{last_of}

or_cond : (b : Bool) (k : ℕ) (o p : Option ℕ) → option_or (cond b (Some k) o) p ≡ cond b (Some k) (option_or o p)
or_cond true k o p = refl
or_cond false k o p = refl

-- one more item behind the others
pub last_place-push : (k : ℕ) (items : List Entity) (x : Entity) (n : ℕ) → last_place k (items ++ x ∷ []) n ≡ cond (n == x.number) (Some (k + length items)) (last_place k items n)
last_place-push k [] x n = ap (λ (i : ℕ). cond (n == x.number) (Some i) None) (omega arith)
last_place-push k (item ∷ items) x n =
    ap (λ o. option_or o (cond (n == item.number) (Some k) None)) (last_place-push (suc k) items x n)
    ∙ or_cond (n == x.number) (suc k + length items) (last_place (suc k) items n) (cond (n == item.number) (Some k) None)
    ∙ ap (λ (i : ℕ). cond (n == x.number) (Some i) (option_or (last_place (suc k) items n) (cond (n == item.number) (Some k) None))) (omega arith)

-- the last item of the number stands at this index
pub record IsLastAt (items : List Entity) (n : ℕ) (index : ℕ) : Type 0 where
  pub item : Entity
  pub there : slice_get items index ≡ Some item
  pub last : last_of items n ≡ Some item

-- no item is of the number, or the last one stands at its place
abbrev Lasts : ℕ → List Entity → ℕ → Type 0
Lasts k items n = ((last_place k items n ≡ None) × (last_of items n ≡ None)) ⊎ ((j : ℕ) × (last_place k items n ≡ Some (k + j)) × IsLastAt items n j)

pub lasts : (k : ℕ) (items : List Entity) (n : ℕ) → Lasts k items n
lasts k [] n = inl (refl, refl)
lasts k (x ∷ items) n = go (n == x.number) refl (lasts (suc k) items n)
  where
    go : (b : Bool) → (n == x.number) ≡ b → Lasts (suc k) items n → Lasts k (x ∷ items) n
    go b h (inr (j, place, is)) =
        let at : suc k + j ≡ k + suc j = omega arith in
        inr (suc j, rw place (ap Some at), record { item = is.item; there = is.there; last = rw is.last refl })
    go true h (inl (place, none)) = inr (0, rw (place, h) (ap Some (let e : k ≡ k + 0 = omega arith in e)), record { item = x; there = refl; last = rw (none, h) refl })
    go false h (inl (place, none)) = inl (rw (place, h) refl, rw (none, h) refl)

pub last_there : (items : List Entity) (n i : ℕ) → last_place 0 items n ≡ Some i → IsLastAt items n i
last_there items n i h =
    elim (lasts 0 items n) [
      | inl none ↦ absurd (let both : None ≡ Some i = sym none.0 ∙ h in cc)
      | inr at ↦ (let same : at.0 ≡ i = (let both : Some (0 + at.0) ≡ Some i = sym at.1 ∙ h in (let e : 0 + at.0 ≡ i = cc in omega (arith, e))) in subst (IsLastAt items n) same at.2)
    ]

pub last_nowhere : (items : List Entity) (n : ℕ) → last_place 0 items n ≡ None → last_of items n ≡ None
last_nowhere items n h =
    elim (lasts 0 items n) [
      | inl none ↦ none.1
      | inr at ↦ absurd (let both : None ≡ Some (0 + at.0) = sym h ∙ at.1 in cc)
    ]

pub last_within : (items : List Entity) (n i : ℕ) → IsLastAt items n i → i < length items
last_within items n i at = slice_get_within items i at.item at.there
