-- How an edit is judged by the steps that it reaches, in order of number.
use Rattle.std.specs.Prelude.{◌≡◌, ℕ, zero, suc, ◌<◌, ◌≤◌, Bool, true, false, ◌↔◌, Contains, IsTrue, IsSome, List, [], ◌∷◌, length, filter, Option, Some, None, option_map, unwrap_or, if◌then◌else◌, ◌⊎◌}
use Rattle.std.specs.Option.{option_or}
use Rattle.std.specs.List.{list_all}
use Rattle.std.proofs.Common.{refl, sym, ap, subst, ◌∙◌, arith, get_or, inl, inr}
use Rattle.nc_base.specs.declared.verdict.Verdict.{Verdict}
use Rattle.nc_base.specs.declared.verdict.Verdict.TheVariants.{Accepted}
use Rattle.entity_types.specs.declared.entity.Entity.{Entity}
use Rattle.project_store.specs.Entities.{entity_at}
use Rattle.project_store.specs.Build.{lesser}
use Rattle.step_def.specs.Condition.{is_workingstep}
use Rattle.exec_tree.specs.Exec.{has}
use Rattle.project_versions.specs.Reach.{after, is_reached}
use Rattle.project_versions.specs.Versioned.{AreReached}
use Rattle.edit_rules.specs.Judge.{least_step, sent_fault, step_fault, reached, refused_step, j1, j2, j3, j4, j5, first_refusal, judge}
use Rattle.edit_rules.specs.Judging.{first_step, item_refusal, early_refusal}
use Rattle.edit_rules.proofs.JudgeLemmas.{no_way, or_none, kept_in, same_steps}
use Rattle.edit_rules.proofs.StepFaultLemmas.{AreSame, first_is_least, few, split, later, here}
use Rattle.edit_rules.proofs.AcceptLemmas.{steps_stay}

-- ---- members, by a test and by their places

pub has_from : (ns : List ℕ) (n : ℕ) → Contains ns n → has ns n ≡ true
has_from ns n c = at ns c.0 c.1 c.2
  where
    at : (ms : List ℕ) (k : ℕ) → k < length ms → get_or ms k n ≡ n → has ms n ≡ true
    at [] k l e = absurd (omega arith)
    at (m ∷ ms) zero l e = subst (λ x. has (x ∷ ms) n ≡ true) (sym e) (here n ms)
    at (m ∷ ms) (suc k) l e = later m n ms (at ms k (omega arith) e)

pub contains_from : (ns : List ℕ) (n : ℕ) → has ns n ≡ true → Contains ns n
contains_from [] n h = absurd (no_way h)
contains_from (m ∷ ms) n h = elim (split m n ms h) [ inl e ↦ (0, omega arith, e) | inr i ↦ more (contains_from ms n i) ]
  where
    more : Contains ms n → Contains (m ∷ ms) n
    more c = (suc c.0, (let l = c.1 in omega arith), c.2)

kept_only : (test : ℕ → Bool) (ns : List ℕ) (n : ℕ) → has (filter test ns) n ≡ true → (has ns n ≡ true) × (test n ≡ true)
kept_only test [] n h = absurd (no_way h)
kept_only test (m ∷ ns) n h = go (test m) refl h (kept_only test ns n)
  where
    go : (b : Bool) → test m ≡ b → has (filter test (m ∷ ns)) n ≡ true → (has (filter test ns) n ≡ true → (has ns n ≡ true) × (test n ≡ true)) → (has (m ∷ ns) n ≡ true) × (test n ≡ true)
    go true q i rec = first (split m n (filter test ns) (rw q at i))
      where
        first : (m ≡ n) ⊎ (has (filter test ns) n ≡ true) → (has (m ∷ ns) n ≡ true) × (test n ≡ true)
        first (inl e) = (subst (λ k. has (m ∷ ns) k ≡ true) e (here m ns), subst (λ k. test k ≡ true) e q)
        first (inr j) = let r = rec j in (later m n ns r.0, r.1)
    go false q i rec = let r = rec (rw q at i) in (later m n ns r.0, r.1)

-- what Versions finds is what the definition filters out
pub same_reached : (store : List Entity) (steps : List ℕ) (items : List Entity) (ns : List ℕ) → AreReached store steps items ns → AreSame ns (reached store steps items)
same_reached store steps items ns are = (
  λ m i. let both = (are.members m).0 (contains_from ns m i) in kept_in (is_reached store items) steps m (has_from steps m both.0) both.1,
  λ m i. let both = kept_only (is_reached store items) steps m i in has_from ns m ((are.members m).1 (contains_from steps m both.0, both.1)),
)

-- a test that tells members is the test of them
pub decides : (b : Bool) (ns : List ℕ) (n : ℕ) → (IsTrue b ↔ Contains ns n) → b ≡ has ns n
decides b ns n told = by b (has ns n) (λ e. has_from ns n (told.0 e)) (λ i. told.1 (contains_from ns n i))
  where
    by : (x y : Bool) → (x ≡ true → y ≡ true) → (y ≡ true → x ≡ true) → x ≡ y
    by true y f g = sym (f refl)
    by false true f g = g refl
    by false false f g = refl

-- ---- the verdict

back : (a b c d : Option Verdict) → option_or a (option_or b c) ≡ None → option_or a (option_or b (option_or c d)) ≡ d
back None None None d e = refl
back None None (Some v) d e = absurd (let f : Some v ≡ None = e in cc)
back None (Some v) c d e = absurd (let f : Some v ≡ None = e in cc)
back (Some v) b c d e = absurd (let f : Some v ≡ None = e in cc)

front : (a b c d : Option Verdict) (v : Verdict) → option_or a (option_or b c) ≡ Some v → option_or a (option_or b (option_or c d)) ≡ Some v
front None None None d v e = absurd (let f : None ≡ Some v = e in cc)
front None None (Some w) d v e = e
front None (Some w) c d v e = e
front (Some w) b c d v e = e

-- where an item is refused, so is the edit
pub items_refuse : (store : List Entity) (steps sent : List ℕ) (items : List Entity) (verdict : Verdict) → item_refusal store items ≡ Some verdict → first_refusal store steps steps sent items ≡ Some verdict
items_refuse store steps sent items verdict e = front (j1 store items) (j2 store items) (j3 store items) (option_or (j4 store steps sent items) (j5 store steps steps items)) verdict e

-- what is found of the steps that rise is what the rules say
pub sent_is : (store : List Entity) (steps sent : List ℕ) (items : List Entity) (ns : List ℕ) → AreReached store steps items ns → option_map (refused_step 4) (first_step (sent_fault sent) ns) ≡ j4 store steps sent items
sent_is store steps sent items ns are = ap (option_map (refused_step 4)) (first_is_least (sent_fault sent) ns (reached store steps items) are.rising (same_reached store steps items ns are))

faulty_is : (store : List Entity) (steps : List ℕ) (items : List Entity) (ns : List ℕ) → AreReached store steps items ns → option_map (refused_step 5) (first_step (step_fault (after store items)) ns) ≡ j5 store steps steps items
faulty_is store steps items ns are =
    ap (option_map (refused_step 5)) (first_is_least (step_fault (after store items)) ns (reached store steps items) are.rising (same_reached store steps items ns are))
    ∙ ap (λ ms. option_map (refused_step 5) (least_step (step_fault (after store items)) ms)) (sym (same_steps store steps items))

-- where no item is refused, the steps decide
steps_decide : (store : List Entity) (steps sent : List ℕ) (items : List Entity) → item_refusal store items ≡ None → first_refusal store steps steps sent items ≡ option_or (j4 store steps sent items) (j5 store steps steps items)
steps_decide store steps sent items none = back (j1 store items) (j2 store items) (j3 store items) (option_or (j4 store steps sent items) (j5 store steps steps items)) none

some_first : (a b : Option Verdict) (v : Verdict) → a ≡ Some v → option_or a b ≡ Some v
some_first a b v e = rw e refl

none_or : (a b : Option Verdict) → a ≡ None → option_or a b ≡ b
none_or a b e = rw e refl

-- the first of the steps that was dispatched refuses the edit
pub sent_refuses : (store : List Entity) (steps sent : List ℕ) (items : List Entity) (ns : List ℕ) (verdict : Verdict) → item_refusal store items ≡ None → AreReached store steps items ns
    → Some verdict ≡ option_map (refused_step 4) (first_step (sent_fault sent) ns) → Some verdict ≡ first_refusal store steps steps sent items
sent_refuses store steps sent items ns verdict none are e =
    sym (steps_decide store steps sent items none ∙ some_first (j4 store steps sent items) (j5 store steps steps items) verdict (sym (e ∙ sent_is store steps sent items ns are)))

-- where none was dispatched, the first with a faulty definition decides
pub faulty_refuses : (store : List Entity) (steps sent : List ℕ) (items : List Entity) (ns : List ℕ) → item_refusal store items ≡ None → AreReached store steps items ns
    → option_map (refused_step 4) (first_step (sent_fault sent) ns) ≡ None → option_map (refused_step 5) (first_step (step_fault (after store items)) ns) ≡ first_refusal store steps steps sent items
faulty_refuses store steps sent items ns none are e =
    faulty_is store steps items ns are
    ∙ sym (steps_decide store steps sent items none ∙ none_or (j4 store steps sent items) (j5 store steps steps items) (sym (sent_is store steps sent items ns are) ∙ e))

-- ---- what is counted

pub reached_few : (store : List Entity) (steps : List ℕ) (items : List Entity) (ns : List ℕ) → AreReached store steps items ns → length ns ≤ length (reached store steps items)
reached_few store steps items ns are = few ns (reached store steps items) are.rising (same_reached store steps items ns are)

is_some_none : (o : Option Verdict) → o ≡ None → IsSome o → ⊥
is_some_none None e some = no_way some
is_some_none (Some v) e some = let f : Some v ≡ None = e in cc

-- where no item is refused and no step was dispatched, no rule applies before definitions are looked up
pub not_early : (store : List Entity) (steps sent : List ℕ) (items : List Entity) (ns : List ℕ) → item_refusal store items ≡ None → AreReached store steps items ns
    → option_map (refused_step 4) (first_step (sent_fault sent) ns) ≡ None → IsSome (early_refusal store steps sent items) → ⊥
not_early store steps sent items ns none are e some =
    is_some_none (early_refusal store steps sent items) (none_or (item_refusal store items) (j4 store steps sent items) none ∙ sym (sent_is store steps sent items ns are) ∙ e) some

-- ---- what is looked up

pub reached_steps_stay : (store : List Entity) (steps : List ℕ) (items : List Entity) (ns : List ℕ) → item_refusal store items ≡ None → AreReached store steps items ns → list_all (is_workingstep (entity_at store)) steps ≡ true
    → list_all (is_workingstep (after store items)) ns ≡ true
reached_steps_stay store steps items ns none are all =
    steps_stay store items steps ns (or_none (j1 store items) (option_or (j2 store items) (j3 store items)) none).0 all (λ n i. has_from steps n ((are.members n).0 (contains_from ns n i)).0)

pub third_none : (store items : List Entity) → item_refusal store items ≡ None → j3 store items ≡ None
third_none store items none = (or_none (j2 store items) (j3 store items) (or_none (j1 store items) (option_or (j2 store items) (j3 store items)) none).1).1

pub nothing_refused : (s t : List Entity) (items : List Entity) (r : Option Verdict) → s ≡ t → r ≡ item_refusal s items → r ≡ None → item_refusal t items ≡ None
nothing_refused s t items r e f n = subst (λ x. item_refusal x items ≡ None) e (sym f ∙ n)

-- ---- what is asked of the steps that were dispatched

same_least : (f g : ℕ → Option ℕ) (ns : List ℕ) → ((n : ℕ) → f n ≡ g n) → least_step f ns ≡ least_step g ns
same_least f g [] same = refl
same_least f g (n ∷ ns) same =
    ap (λ o. lesser (option_map {U = ℕ × ℕ} (λ fault. (n, fault)) o) (least_step f ns)) (same n) ∙ ap (lesser (option_map {U = ℕ × ℕ} (λ fault. (n, fault)) (g n))) (same_least f g ns same)

same_members : (ns ms : List ℕ) (n : ℕ) → (Contains ns n ↔ Contains ms n) → has ns n ≡ has ms n
same_members ns ms n same = decides (has ns n) ms n (λ e. same.0 (contains_from ns n e), λ c. has_from ns n (same.1 c))

-- a verdict asks only which steps were dispatched, not how often or in which order
pub same_verdict : (store : List Entity) (steps sent others : List ℕ) (items : List Entity) → ((n : ℕ) → Contains sent n ↔ Contains others n) → judge store steps sent items ≡ judge store steps others items
same_verdict store steps sent others items same =
    ap (λ o. unwrap_or (option_or (j1 store items) (option_or (j2 store items) (option_or (j3 store items) (option_or (option_map (refused_step 4) o) (j5 store steps steps items))))) Accepted)
    (same_least (sent_fault sent) (sent_fault others) (reached store steps items) (λ n. ap (λ b. if b then Some 0 else None) (same_members sent others n (same n))))
