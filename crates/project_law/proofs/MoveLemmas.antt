-- How stores, versions, variables and paths move with one more entry, and what they are where there are no edits.
use Rattle.std.specs.Prelude.{◌≡◌, ℕ, ℤ, zero, suc, ◌+◌, Bool, true, false, ◌==◌, if◌then◌else◌, List, [], ◌∷◌, ◌++◌}
use Rattle.std.proofs.Common.{refl, ◌∙◌, ap, arith}
use Rattle.std.proofs.lemmas.Bool.Decides.{nat_tests}
use Rattle.nc_base.specs.declared.verdict.Verdict.TheVariants.{Accepted, Refused}
use Rattle.entity_types.specs.declared.entity.Entity.{Entity}
use Rattle.project_store.specs.Entities.{entity_at}
use Rattle.path_blocks.specs.declared.block.Block.{Block as PathBlock}
use Rattle.run_log.specs.declared.entry.Entry.{Entry}
use Rattle.run_log.specs.declared.entry.Entry.TheVariants.{Dispatch, Block, End, Pick, Test, Assign, Set, Pass, Note}
use Rattle.run_log.specs.declared.entry.Entry.TheVariants as entries
use Rattle.trace_law.specs.Of.{has_some}
use Rattle.trace_law.specs.State.{dispatched}
use Rattle.project_versions.specs.Versions.{Event, Judged, Other, store_by, store_from, rises_by, version_from}
use Rattle.project_law.specs.Script.{Edit, event_of, events_of, store_with, store_after, plan_with, plan_after}
use Rattle.project_law.specs.Variables.{vars_with, vars_from}
use Rattle.project_law.specs.Paths.{blocks_in, frozen_with, frozen_from}

-- ---- with one more entry

pub store_more : (script : List Edit) (store : List Entity) (t : List Entry) (x : Entry)
    → store_after script store (t ++ x ∷ []) ≡ store_with script (store_after script store t) x
store_more script store [] x = refl
store_more script store (y ∷ t) x = store_more script (store_with script store y) t x

sum_turned : (a b c : ℕ) → a + (b + c) ≡ (a + b) + c
sum_turned a b c = omega arith

pub version_more : (script : List Edit) (store : List Entity) (n : ℕ) (t : List Entry) (x : Entry)
    → version_from script store n (events_of (t ++ x ∷ [])) ≡ version_from script store n (events_of t) + rises_by script (store_after script store t) n (event_of x)
version_more script store n [] x = turned (rises_by script store n (event_of x))
  where
    turned : (a : ℕ) → a + 0 ≡ 0 + a
    turned a = omega arith
version_more script store n (y ∷ t) x =
    ap (λ (v : ℕ). rises_by script store n (event_of y) + v) (version_more script (store_with script store y) n t x)
    ∙ sum_turned (rises_by script store n (event_of y)) (version_from script (store_with script store y) n (events_of t)) (rises_by script (store_after script (store_with script store y) t) n (event_of x))

pub vars_more : (script : List Edit) (store : List Entity) (vars : ℕ → ℤ) (t : List Entry) (x : Entry) (v : ℕ)
    → vars_from script store vars (t ++ x ∷ []) v ≡ vars_with (plan_after script store t) (vars_from script store vars t) x v
vars_more script store vars [] x v = refl
vars_more script store vars (y ∷ t) x v = vars_more script (plan_with script store y) (vars_with store vars y) t x v

pub frozen_more : (script : List Edit) (store : List Entity) (n : ℕ) (path : List PathBlock) (t : List Entry) (x : Entry)
    → frozen_from script store n path (t ++ x ∷ []) ≡ frozen_with (store_after script store t) n (frozen_from script store n path t) x
frozen_more script store n path [] x = refl
frozen_more script store n path (y ∷ t) x = frozen_more script (store_with script store y) n (frozen_with store n path y) t x

-- ---- what a dispatch freezes, and what keeps it

pub no_start : (store : List Entity) (n : ℕ) (path : List PathBlock) (x : Entry) → has_some (n ∷ []) (dispatched x) ≡ false → frozen_with store n path x ≡ path
no_start store n path (Dispatch m v) e = go (m == n) refl
  where
    turned : (m n : ℕ) → (m == n) ≡ true → (n == m) ≡ true
    turned m n q = grind (arith, nat_tests)

    go : (b : Bool) → (m == n) ≡ b → (if m == n then blocks_in (entity_at store) n else path) ≡ path
    go true q = absurd (let z : true ≡ false = (rw (turned m n q) at e) in cc)
    go false q = rw q refl
no_start store n path (Block m k b) e = refl
no_start store n path (End m) e = refl
no_start store n path (Pick m k) e = refl
no_start store n path (Test m b) e = refl
no_start store n path (Assign m v) e = refl
no_start store n path (Set m) e = refl
no_start store n path (Pass m) e = refl
no_start store n path (Note m) e = refl
no_start store n path (entries.Edit i w) e = refl

pub frozen_kept : (script : List Edit) (store : List Entity) (n : ℕ) (t : List Entry) (x : Entry) → has_some (n ∷ []) (dispatched x) ≡ false
    → frozen_from script store n [] (t ++ x ∷ []) ≡ frozen_from script store n [] t
frozen_kept script store n t x e = frozen_more script store n [] t x ∙ no_start (store_after script store t) n (frozen_from script store n [] t) x e

same_number : (n : ℕ) → (n == n) ≡ true
same_number n = grind (arith, nat_tests)

pub frozen_there : (script : List Edit) (store : List Entity) (n v : ℕ) (t : List Entry)
    → frozen_from script store n [] (t ++ Dispatch n v ∷ []) ≡ blocks_in (entity_at (store_after script store t)) n
frozen_there script store n v t = frozen_more script store n [] t (Dispatch n v) ∙ rw (same_number n) refl

-- ---- without edits

none_is_put : (store : List Entity) (x : Event) → store_by [] store x ≡ store
none_is_put store (Judged zero Accepted) = refl
none_is_put store (Judged (suc i) Accepted) = refl
none_is_put store (Judged i (Refused code a b)) = refl
none_is_put store Other = refl

none_rises : (store : List Entity) (n : ℕ) (x : Event) → rises_by [] store n x ≡ 0
none_rises store n (Judged zero Accepted) = refl
none_rises store n (Judged (suc i) Accepted) = refl
none_rises store n (Judged i (Refused code a b)) = refl
none_rises store n Other = refl

pub store_stays : (store : List Entity) (t : List Event) → store_from [] store t ≡ store
store_stays store [] = refl
store_stays store (x ∷ t) = rw (none_is_put store x) (store_stays store t)

pub version_is_none : (store : List Entity) (n : ℕ) (t : List Event) → version_from [] store n t ≡ 0
version_is_none store n [] = refl
version_is_none store n (x ∷ t) = rw (none_rises store n x, none_is_put store x, version_is_none store n t) refl
