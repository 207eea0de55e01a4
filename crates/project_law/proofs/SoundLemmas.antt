-- The rules of a project and a script are sound, by the laws of the project's tree.
use Rattle.std.specs.Prelude.{◌≡◌, ◌<◌, ℕ, zero, suc, Bool, true, false, ◌==◌, ◌||◌, List, [], ◌∷◌, length, max}
use Rattle.std.proofs.Common.{refl, ◌∙◌, arith}
use Rattle.std.proofs.lemmas.Bool.Decides.{nat_tests}
use Rattle.std.proofs.lemmas.List.Folds.{list_any-append}
use Rattle.entity_types.specs.declared.entity.Entity.{Entity}
use Rattle.project_store.specs.Entities.{entity_at}
use Rattle.exec_tree.specs.Exec.{nodes, has, works, AreDistinct, HasChoices}
use Rattle.exec_tree.specs.declared.kind.Kind.{Kind}
use Rattle.exec_tree.specs.declared.kind.Kind.TheVariants as kind
use Rattle.exec_tree.specs.declared.role.Role.TheVariants.{Cutting}
use Rattle.exec_tree.specs.Executable.{kind_at}
use Rattle.exec_tree.specs.Said.{target_of}
use Rattle.exec_tree.specs.Role.{role_by}
use Rattle.exec_tree.specs.Built.{is_work}
use Rattle.run_law.specs.Sound.{IsSound}
use Rattle.project_law.specs.Script.{Edit}
use Rattle.project_law.specs.ProjectRules.{store_tree, store_channels, channel_among, rules_of, upto, channel_numbers}
use Rattle.project_law.proofs.MoveLemmas.{frozen_kept}

no_way : false ≡ true → ⊥
no_way h = absurd (cc)

cutting : (k : Kind) (mark : ℕ) → is_work k ≡ true → role_by k mark ≡ Cutting
cutting kind.Work mark h = refl
cutting _ mark h = absurd (no_way h)

pub sound : (store : List Entity) (script : List Edit) → AreDistinct (nodes (store_tree store)) → HasChoices (store_tree store)
    → ((n : ℕ) → has (works (store_tree store)) n ≡ true → is_work (kind_at (entity_at store n)) ≡ true) → IsSound (rules_of store script)
sound store script distinct choices works_are = record {
  distinct = λ t l. distinct;
  steps = λ t n l h. cutting (kind_at (entity_at store n)) (target_of (entity_at store n)) (works_are n h);
  kept = λ t x n e. refl;
  edited = λ t i w l f p. p;
  frozen = λ t x n h. frozen_kept script store n t x h;
  choices = λ t l. choices;
}

-- ---- the numbers of channels

pub below_is_there : (k m : ℕ) → m < k → has (upto k) m ≡ true
below_is_there zero m l = absurd (let f : ⊥ = omega (arith, l) in f)
below_is_there (suc k) m l = list_any-append (λ i. i == m) (upto k) (k ∷ []) ∙ go (k == m) refl (below_is_there k m)
  where
    below : (k m : ℕ) → m < suc k → (k == m) ≡ false → m < k
    below k m l e = grind (arith, nat_tests)

    or_true : (a : Bool) → (a || (true || false)) ≡ true
    or_true true = refl
    or_true false = refl

    go : (b : Bool) → (k == m) ≡ b → (m < k → has (upto k) m ≡ true) → (has (upto k) m || ((k == m) || false)) ≡ true
    go true e rec = rw e (or_true (has (upto k) m))
    go false e rec = rw (e, rec (below k m l e)) refl

pub channel_is_there : (store : List Entity) (n : ℕ) → channel_among (store_channels store) store n < max 1 (length (store_channels store))
    → has (channel_numbers store) (channel_among (store_channels store) store n) ≡ true
channel_is_there store n l = below_is_there (max 1 (length (store_channels store))) (channel_among (store_channels store) store n) l

one_or_more : (k : ℕ) → 0 < max 1 k
one_or_more k = grind arith

pub first_is_there : (store : List Entity) → has (channel_numbers store) 0 ≡ true
first_is_there store = below_is_there (max 1 (length (store_channels store))) 0 (one_or_more (length (store_channels store)))
