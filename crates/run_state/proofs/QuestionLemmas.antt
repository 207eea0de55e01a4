-- What is asked of the nodes where a run can go on is what the rules say of them.
use Rattle.std.specs.Prelude.{◌≡◌, ◌==◌, ◌&&◌, ◌||◌, not, ℕ, Bool, true, false, if◌then◌else◌, is_some, is_none, List, [], ◌∷◌, find, Option, Some, None, IfSome}
use Rattle.std.specs.List.{list_any, list_all, filter}
use Rattle.std.proofs.Common.{refl, sym, ap, subst, ◌∙◌, arith, cond}
use Rattle.std.proofs.lemmas.Bool.Decides.{nat_tests}
use Rattle.entity_types.specs.declared.entity.Entity.{Entity}
use Rattle.entity_types.specs.declared.edit.Edit.{Edit as ScriptEdit}
use Rattle.project_store.specs.Entities.{entity_at}
use Rattle.exec_tree.specs.Exec.{nodes, has, works}
use Rattle.exec_tree.specs.declared.role.Role.TheVariants.{Free}
use Rattle.exec_tree.specs.Role.{role_of}
use Rattle.exec_tree.specs.TreeOf.{tree_of}
use Rattle.exec_tree.specs.Built.{TreeValue, IsTreeOf, main_of, channel_in, channel_of, role_in}
use Rattle.trace_law.specs.Below.{tree_in}
use Rattle.trace_law.specs.Next.{next}
use Rattle.trace_law.specs.State.{is_open}
use Rattle.run_log.specs.declared.entry.Entry.{Entry}
use Rattle.run_law.specs.Rules.{Rules}
use Rattle.run_law.specs.Fits.{plain, is_busy}
use Rattle.project_law.specs.ProjectRules.{rules_of}
use Rattle.run_state.specs.declared.open_steps.OpenStep.{OpenStep}
use Rattle.run_state.specs.State.{slot_at, is_step_of}
use Rattle.run_state.specs.Kept.{IsOpenStep, AreOpen}

-- ---- lists of numbers

pub first_has : (n : ℕ) (ns : List ℕ) → has (n ∷ ns) n ≡ true
first_has n ns = let e : (n == n) ≡ true = grind (arith, nat_tests) in rw e refl

pub later_has : (n : ℕ) (ns : List ℕ) (m : ℕ) → has ns m ≡ true → has (n ∷ ns) m ≡ true
later_has n ns m e = go (n == m)
  where
    go : (b : Bool) → (b || has ns m) ≡ true
    go true = refl
    go false = e

pub find_same : (p q : ℕ → Bool) (ns : List ℕ) → ((n : ℕ) → has ns n ≡ true → p n ≡ q n) → find p ns ≡ find q ns
find_same p q [] h = refl
find_same p q (n ∷ ns) h =
    ap (λ (b : Bool). cond b (Some n) (find p ns)) (h n (first_has n ns))
    ∙ ap (λ (o : Option ℕ). cond (q n) (Some n) o) (find_same p q ns (λ m e. h m (later_has n ns m e)))

pub all_same : (p q : ℕ → Bool) (ns : List ℕ) → ((n : ℕ) → has ns n ≡ true → p n ≡ q n) → list_all p ns ≡ list_all q ns
all_same p q [] h = refl
all_same p q (n ∷ ns) h = ap (λ (b : Bool). b && list_all p ns) (h n (first_has n ns)) ∙ ap (λ (b : Bool). q n && b) (all_same p q ns (λ m e. h m (later_has n ns m e)))

any_has : (p : ℕ → Bool) (ns : List ℕ) (n : ℕ) → has ns n ≡ true → p n ≡ true → list_any p ns ≡ true
any_has p [] n h e = h
any_has p (m ∷ ns) n h e = go (m == n) refl h (any_has p ns n)
  where
    or_true : (a b : Bool) → a ≡ true → (a || b) ≡ true
    or_true a b f = rw f refl

    or_later : (a b : Bool) → b ≡ true → (a || b) ≡ true
    or_later true b f = refl
    or_later false b f = f

    go : (b : Bool) → (m == n) ≡ b → (b || has ns n) ≡ true → (has ns n ≡ true → p n ≡ true → list_any p ns ≡ true) → (p m || list_any p ns) ≡ true
    go true g i rec = let s : n ≡ m = grind (arith, nat_tests) in or_true (p m) (list_any p ns) (subst (λ (k : ℕ). p k ≡ true) s e)
    go false g i rec = or_later (p m) (list_any p ns) (rec i e)

any_none : (p : ℕ → Bool) (ns : List ℕ) → ((n : ℕ) → p n ≡ false) → list_any p ns ≡ false
any_none p [] h = refl
any_none p (n ∷ ns) h = rw (h n) (any_none p ns h)

pub filter_has : (p : ℕ → Bool) (ns : List ℕ) (n : ℕ) → has (filter p ns) n ≡ true → has ns n ≡ true
filter_has p [] n h = h
filter_has p (m ∷ ns) n h = go (p m) h (filter_has p ns n)
  where
    both : (b c d : Bool) → (c ≡ true → d ≡ true) → (b || c) ≡ true → (b || d) ≡ true
    both true c d f e = refl
    both false c d f e = f e

    go : (b : Bool) → has (cond b (m ∷ filter p ns) (filter p ns)) n ≡ true → (has (filter p ns) n ≡ true → has ns n ≡ true) → has (m ∷ ns) n ≡ true
    go true e rec = both (m == n) (has (filter p ns) n) (has ns n) rec e
    go false e rec = later_has m ns n (rec e)

pub has_filter : (p : ℕ → Bool) (ns : List ℕ) (n : ℕ) → has ns n ≡ true → p n ≡ true → has (filter p ns) n ≡ true
has_filter p [] n h e = h
has_filter p (m ∷ ns) n h e = go (m == n) refl (p m) refl h (λ i. has_filter p ns n i e)
  where
    true_false : (x y : Bool) → x ≡ true → x ≡ y → y ≡ false → ⊥
    true_false x y f g i = cc

    go : (b : Bool) → (m == n) ≡ b → (c : Bool) → p m ≡ c → (b || has ns n) ≡ true → (has ns n ≡ true → has (filter p ns) n ≡ true) → has (cond c (m ∷ filter p ns) (filter p ns)) n ≡ true
    go true f true g i rec = rw f refl
    go true f false g i rec = let s : n ≡ m = grind (arith, nat_tests) in absurd (true_false (p n) (p m) e (ap p s) g)
    go false f true g i rec = later_has m (filter p ns) n (rec i)
    go false f false g i rec = rec i

-- ---- what a tree tells is what the rules say after these entries

pub record Told (r : Rules) (t : List Entry) (tree : TreeValue) : Type 0 where
  pub held : tree_in tree ≡ r.tree t
  pub channels : (n : ℕ) → channel_in tree.nodes n ≡ r.channel t n
  pub roles : (n : ℕ) → has (nodes (r.tree t)) n ≡ true → role_in tree n ≡ r.role t n
  pub within : (n : ℕ) → has (next (r.tree t) (plain t)) n ≡ true → has (nodes (r.tree t)) n ≡ true

pub told : (project : List Entity) (script : List ScriptEdit) (tree : TreeValue) (t : List Entry) → IsTreeOf (entity_at project) (main_of project) tree
    → ((n : ℕ) → channel_in tree.nodes n ≡ channel_of (entity_at project) (main_of project) n)
    → ((n : ℕ) → role_in tree n ≡ (if has (nodes (tree_of (entity_at project) (main_of project))) n then role_of (entity_at project) n else Free))
    → next (tree_of (entity_at project) (main_of project)) (plain t) ≡ filter (has (next (tree_of (entity_at project) (main_of project)) (plain t))) (nodes (tree_of (entity_at project) (main_of project)))
    → Told (rules_of project script) t tree
told project script tree t is channels roles order =
    let e = tree_of (entity_at project) (main_of project) in
    record {
      held = is.held;
      channels = channels;
      roles = λ n h. roles n ∙ ap (λ (b : Bool). if b then role_of (entity_at project) n else Free) h;
      within = λ n h. filter_has (has (next e (plain t))) (nodes e) n (subst (λ (ns : List ℕ). has ns n ≡ true) order h);
    }

-- ---- open steps

-- a channel is busy where it has an open step
pub busy_is : (r : Rules) (t : List Entry) (slots : List (Option OpenStep)) → AreOpen r t slots → (c : ℕ) → is_busy r t c ≡ is_some (slot_at slots c)
busy_is r t slots kept c = go (slot_at slots c) refl (kept.each c)
  where
    off : slot_at slots c ≡ None → (m : ℕ) (b : Bool) → (r.channel t m == c) ≡ b → (b && is_open m t) ≡ false
    off e m true g =
        let s : c ≡ r.channel t m = grind (arith, nat_tests) in
        kept.opens m ∙ ap (λ (o : Option OpenStep). is_step_of o m) (ap (slot_at slots) (sym s) ∙ e)
    off e m false g = refl

    go : (slot : Option OpenStep) → slot_at slots c ≡ slot → IfSome slot (λ o. IsOpenStep r t c o) → is_busy r t c ≡ is_some slot
    go None e h = any_none (λ m. (r.channel t m == c) && is_open m t) (works (r.tree t)) (λ m. off e m (r.channel t m == c) refl)
    go (Some o) e h = any_has (λ m. (r.channel t m == c) && is_open m t) (works (r.tree t)) o.step h.among on
      where
        on : ((r.channel t o.step == c) && is_open o.step t) ≡ true
        on =
            let here : (r.channel t o.step == c) ≡ true = let s = h.channel in grind (arith, nat_tests) in
            let same : (o.step == o.step) ≡ true = grind (arith, nat_tests) in
            let there : is_open o.step t ≡ true = kept.opens o.step ∙ (ap (λ (q : Option OpenStep). is_step_of q o.step) (ap (slot_at slots) h.channel ∙ e) ∙ same) in
            rw (here, there) refl

pub not_some : {A : Type 0} (o : Option A) → is_none o ≡ not (is_some o)
not_some None = refl
not_some (Some a) = refl
