-- What an edit doesn't reach keeps its definition.
use Rattle.std.specs.Prelude.{◌≡◌, ℕ, Bool, true, false, ◌||◌, ◌==◌, List, [], ◌∷◌, Option}
use Rattle.std.proofs.Common.{refl, sym, ◌∙◌}
use Rattle.entity_types.specs.declared.entity.Entity.{Entity}
use Rattle.project_store.specs.Entities.{entity_at}
use Rattle.project_store.specs.Put.{put, put_all}
use Rattle.step_def.specs.Agree.{Agree}
use Rattle.step_def.specs.DefOf.{def_of}
use Rattle.project_versions.specs.Reach.{after, is_put, is_reached}
use Rattle.project_versions.proofs.LeadingLemmas.{decided}

no_way : false ≡ true → ⊥
no_way e = cc

-- what isn't put stands as it stood
pub not_put : (entities : ℕ → Option Entity) (items : List Entity) (m : ℕ) → is_put items m ≡ false → put_all entities items m ≡ entities m
not_put entities [] m h = refl
not_put entities (x ∷ items) m h = go (m == x.number) refl (not_put (put entities x) items m)
  where
    go : (b : Bool) → (m == x.number) ≡ b → (is_put items m ≡ false → put_all (put entities x) items m ≡ put entities x m) → put_all entities (x ∷ items) m ≡ entities m
    go true f rec = absurd (no_way (let g : (true || is_put items m) ≡ false = rw f at h in sym g))
    go false f rec = rec (rw f at h) ∙ rw f refl

agree : (store items : List Entity) (n : ℕ) → is_reached store items n ≡ false → Agree (after store items) (entity_at store) n
agree store items n out m reached = go (is_put items m) refl
  where
    go : (b : Bool) → is_put items m ≡ b → after store items m ≡ entity_at store m
    go true e = absurd (no_way (sym out ∙ (decided store items n).1 (m, reached, e)))
    go false e = not_put (entity_at store) items m e

pub kept : ((e f : ℕ → Option Entity) (n : ℕ) → Agree e f n → def_of e n ≡ def_of f n) → (store items : List Entity) (n : ℕ) → is_reached store items n ≡ false → def_of (after store items) n ≡ def_of (entity_at store) n
kept local store items n out = local (after store items) (entity_at store) n (agree store items n out)
