-- What is kept of a script's edits is what the rules say of them.
use Rattle.std.specs.Prelude.{◌≡◌, ◌<◌, ◌≤◌, ◌+◌, ◌-◌, ◌==◌, ◌&&◌, ◌||◌, ⊤, not, ℕ, zero, suc, nat_eq, Bool, true, false, nat_le, is_none, is_some, if◌then◌else◌, List, [], ◌∷◌, ◌++◌, length, drop, map, slice_get, Option, Some, None, option_map, unwrap_or, IsSome, IfSome, IfOk, OnOk, Result, Ok, Err, Contains}
use Rattle.std.specs.Option.{option_map_or, option_or, option_to_list}
use Rattle.std.specs.List.{list_any, list_all}
use Rattle.std.proofs.Common.{refl, sym, subst, ap, ◌∙◌, arith, inl, inr}
use Rattle.std.proofs.lemmas.Bool.Decides.{nat_tests}
use Rattle.std.proofs.lemmas.Cmp.{nat_eq_equiv}
use Rattle.std.proofs.lemmas.Map.Views.{Contains-from_any, list_any-from_Contains}
use Rattle.nc_base.specs.declared.memory.NoMemory.{NoMemory}
use Rattle.nc_base.specs.declared.verdict.Verdict.{Verdict}
use Rattle.nc_base.specs.declared.verdict.Verdict.TheVariants.{Accepted, Refused}
use Rattle.entity_types.specs.declared.entity.Entity.{Entity}
use Rattle.entity_types.specs.declared.edit.Edit.{Edit}
use Rattle.project_store.specs.Entities.{entity_at}
use Rattle.project_store.specs.Put.{put_in, put_items}
use Rattle.step_def.specs.Condition.{is_workingstep}
use Rattle.exec_tree.specs.Exec.{has}
use Rattle.exec_tree.specs.declared.role.Role.{Role}
use Rattle.exec_tree.specs.declared.role.Role.TheVariants.{Cutting, Waiting, Free}
use Rattle.trace_law.specs.Of.{number_of}
use Rattle.trace_law.specs.State.{marks, sent, dispatched}
use Rattle.run_log.specs.declared.entry.Entry.{Entry}
use Rattle.run_log.specs.declared.entry.Entry.TheVariants as entries
use Rattle.run_law.specs.Rules.{Rules}
use Rattle.run_law.specs.Fits.{judged, is_plain, next_of, is_enabled, may_go_on, is_stuck, is_due}
use Rattle.run_law.specs.Endings.{waits, waits_by}
use Rattle.project_versions.specs.Versions.{Event, Judged, Other, version_from, rises_by, store_by, put_edit, reaches_edit, one_where}
use Rattle.project_versions.specs.Versioned.{version_of, new_instances}
use Rattle.project_versions.specs.StepSet.{Adds}
use Rattle.project_versions.specs.Reach.{is_reached}
use Rattle.edit_rules.specs.Faults.{has_def}
use Rattle.edit_rules.specs.Judge.{judge, j1, j2, j3, j5, least_step, reached, refused_step}
use Rattle.project_law.specs.Script.{store_after, event_of, events_of}
use Rattle.project_law.specs.ProjectRules.{rules_of, store_steps, version_after, verdict_after, verdict_on}
use Rattle.run_state.specs.declared.edits.Editing.{Editing}
use Rattle.run_state.specs.declared.edits.Edits.{Edits}
use Rattle.run_state.specs.Edits.{HasVersion, IsEditing, IsOpening, IsPut, PutsNext, AreKept, now_store, version_now, items_in, due_by}

no_way : false ≡ true → ⊥
no_way e = cc

-- ---- numbers in a list, as a test and as a fact

same_number : (n m : ℕ) → nat_eq n m ≡ true → n ≡ m
same_number n m e = grind (arith, nat_tests)

has_among : (ns : List ℕ) (n : ℕ) → has ns n ≡ list_any (nat_eq n) ns
has_among [] n = refl
has_among (m ∷ ns) n = ap (λ (b : Bool). b || has ns n) (turned m n) ∙ ap (λ (b : Bool). nat_eq n m || b) (has_among ns n)
  where
    turned : (a b : ℕ) → (a == b) ≡ nat_eq b a
    turned a b = grind (arith, nat_tests)

pub has_contains : (ns : List ℕ) (n : ℕ) → has ns n ≡ true → Contains ns n
has_contains ns n h = Contains-from_any same_number n ns (sym (has_among ns n) ∙ h)

pub contains_has : (ns : List ℕ) (n : ℕ) → Contains ns n → has ns n ≡ true
contains_has ns n h = has_among ns n ∙ list_any-from_Contains nat_eq_equiv n ns h

-- a test that all of a list pass each of it passes
pub each_passes : (p : ℕ → Bool) (ns : List ℕ) (n : ℕ) → list_all p ns ≡ true → has ns n ≡ true → p n ≡ true
each_passes p [] n h i = absurd (no_way i)
each_passes p (m ∷ ns) n h i = go (each_passes p ns n) (p m) refl h (m == n) refl i
  where
    go : (list_all p ns ≡ true → has ns n ≡ true → p n ≡ true) → (a : Bool) → p m ≡ a → (a && list_all p ns) ≡ true → (b : Bool) → (m == n) ≡ b → (b || has ns n) ≡ true → p n ≡ true
    go others false e f b g j = absurd (no_way f)
    go others true e f true g j = let s : m ≡ n = grind (arith, nat_tests) in subst (λ (k : ℕ). p k ≡ true) s e
    go others true e f false g j = others f j

pub all_pass : (p : ℕ → Bool) (ns : List ℕ) → ((n : ℕ) → has ns n ≡ true → p n ≡ true) → list_all p ns ≡ true
all_pass p [] h = refl
all_pass p (n ∷ ns) h =
    let here : (n == n) ≡ true = grind (arith, nat_tests) in
    let first : p n ≡ true = h n (rw here refl) in
    rw first (all_pass p ns (λ m g. h m (or_right (n == m) (has ns m) g)))
  where
    or_right : (a b : Bool) → b ≡ true → (a || b) ≡ true
    or_right true b q = refl
    or_right false b q = q

-- each workingstep has a version, where versions are kept
pub step_has_version : (project : List Entity) (t : List Entry) (edits : Edits) (n : ℕ) → AreKept project t edits → has (store_steps project) n ≡ true → HasVersion edits.editing n
step_has_version project t edits n kept h = go edits.editing kept.each
  where
    go : (o : Option Editing) → IfSome o (λ e. IsEditing project edits.script t e) → IfSome o (λ e. Contains e.versions.steps n × Contains e.sent.steps n)
    go None k = tt
    go (Some e) k = (subst (λ (ns : List ℕ). Contains ns n) (sym k.steps) (has_contains (store_steps project) n h), subst (λ (ns : List ℕ). Contains ns n) (sym k.known) (has_contains (store_steps project) n h))

-- ---- which edit is the next, and whether it is due

edit_at : (script : List Edit) (i : ℕ) → slice_get (map (λ edit. edit.at) script) i ≡ option_map (λ edit. edit.at) (slice_get script i)
edit_at [] i = refl
edit_at (edit ∷ script) zero = refl
edit_at (edit ∷ script) (suc i) = edit_at script i

pub judged_is : (project : List Entity) (script : List Edit) (i : ℕ) → is_none (slice_get script i) ≡ is_none (slice_get (rules_of project script).edits i)
judged_is project script i = go (slice_get script i) ∙ ap is_none (sym (edit_at script i))
  where
    go : (o : Option Edit) → is_none o ≡ is_none (option_map (λ edit. edit.at) o)
    go None = refl
    go (Some edit) = refl

pub due_is : (project : List Entity) (script : List Edit) (t : List Entry) (i : ℕ) (stuck : Bool) → i ≡ judged t → stuck ≡ is_stuck (rules_of project script) t
    → due_by (slice_get script i) (length t) stuck ≡ is_due (rules_of project script) t
due_is project script t i stuck e f =
    ap (λ (k : ℕ). due_by (slice_get script k) (length t) stuck) e
    ∙ (ap (due_by (slice_get script (judged t)) (length t)) f
    ∙ (go (slice_get script (judged t)) ∙ ap (λ (o : Option ℕ). option_map_or (λ at. nat_le at (length t) || is_stuck (rules_of project script) t) o false) (sym (edit_at script (judged t)))))
  where
    go : (o : Option Edit) → due_by o (length t) (is_stuck (rules_of project script) t) ≡ option_map_or (λ at. nat_le at (length t) || is_stuck (rules_of project script) t) (option_map (λ edit. edit.at) o) false
    go None = refl
    go (Some edit) = refl

-- ---- a run is stuck where each node waits

waiting_off : (r : Rules) (t : List Entry) (n : ℕ) → waits r t n ≡ true → is_enabled r t n ≡ false
waiting_off r t n h = go (r.role t n) h
  where
    go : (role : Role) → waits_by t role ≡ true → may_go_on r t n role ≡ false
    go Cutting i = absurd (no_way i)
    go (Waiting m) i = one (has (marks t) m) refl i
      where
        one : (b : Bool) → has (marks t) m ≡ b → not (has (marks t) m) ≡ true → has (marks t) m ≡ false
        one false e j = e
        one true e j = absurd (no_way (subst (λ (c : Bool). not c ≡ true) e j))
    go Free i = absurd (no_way i)

all_off : (r : Rules) (t : List Entry) (ns : List ℕ) → list_all (waits r t) ns ≡ true → list_any (is_enabled r t) ns ≡ false
all_off r t [] h = refl
all_off r t (n ∷ ns) h = go (all_off r t ns) (waits r t n) refl h
  where
    go : (list_all (waits r t) ns ≡ true → list_any (is_enabled r t) ns ≡ false) → (b : Bool) → waits r t n ≡ b → (b && list_all (waits r t) ns) ≡ true → (is_enabled r t n || list_any (is_enabled r t) ns) ≡ false
    go others true e i = rw (waiting_off r t n e) (others i)
    go others false e i = absurd (no_way i)

pub stuck_is : (r : Rules) (t : List Entry)
    → ((n : ℕ) → is_stuck r t ≡ true → has (next_of r t) n ≡ true → (m : ℕ) × (r.role t n ≡ Waiting m) × (has (marks t) m ≡ false))
    → list_all (waits r t) (next_of r t) ≡ is_stuck r t
stuck_is r t h = go (list_any (is_enabled r t) (next_of r t)) refl (list_all (waits r t) (next_of r t)) refl
  where
    waits_there : is_stuck r t ≡ true → (n : ℕ) → has (next_of r t) n ≡ true → waits r t n ≡ true
    waits_there e n g =
        let z = h n e g in
        ap (waits_by t) z.1 ∙ ap not z.2

    go : (b : Bool) → list_any (is_enabled r t) (next_of r t) ≡ b → (a : Bool) → list_all (waits r t) (next_of r t) ≡ a → list_all (waits r t) (next_of r t) ≡ not (list_any (is_enabled r t) (next_of r t))
    go false e a f =
        let stuck : is_stuck r t ≡ true = ap not e in
        all_pass (waits r t) (next_of r t) (waits_there stuck) ∙ sym stuck
    go true e true f = absurd (no_way (sym (all_off r t (next_of r t) f) ∙ e))
    go true e false f = f ∙ sym (ap not e)

-- ---- before the first entry

pub opened : (store : List Entity) (steps : List ℕ) (edits : Edits) → edits.judged ≡ 0 → steps ≡ store_steps store → list_all (has_def store) (store_steps store) ≡ true
    → list_all (is_workingstep (entity_at store)) (store_steps store) ≡ true → (edits.editing ≡ None → edits.script ≡ []) → IfSome edits.editing (λ e. IsOpening store steps edits.script e)
    → AreKept store [] edits
opened store steps edits zeroed same defined workingsteps none some = record {
  count = zeroed;
  store_is = stores edits.editing some;
  versions_are = λ n h. versions edits.editing some n;
  defined = λ n h. each_passes (has_def store) (store_steps store) n defined h;
  steps_are = λ n h. each_passes (is_workingstep (entity_at store)) (store_steps store) n workingsteps h;
  none = none;
  each = each edits.editing some;
}
  where
    stores : (o : Option Editing) → IfSome o (λ e. IsOpening store steps edits.script e) → now_store store o ≡ store
    stores None k = refl
    stores (Some e) k = k.store_is

    versions : (o : Option Editing) → IfSome o (λ e. IsOpening store steps edits.script e) → (n : ℕ) → version_now o n ≡ 0
    versions None k n = refl
    versions (Some e) k n = k.versions n

    each : (o : Option Editing) → IfSome o (λ e. IsOpening store steps edits.script e) → IfSome o (λ e. IsEditing store edits.script [] e)
    each None k = tt
    each (Some e) k = record {
      steps = k.same_steps ∙ same;
      known = k.same_known ∙ same;
      sent_are = λ n. ap (λ (ns : List ℕ). has ns n) k.empty;
      room = let r = k.room in omega (arith, r);
    }

-- ---- after an entry of a node

some_number : (x : Entry) → is_plain x ≡ true → (n : ℕ) × (number_of x ≡ Some n)
some_number x h = go (number_of x) refl h
  where
    go : (o : Option ℕ) → number_of x ≡ o → is_some o ≡ true → (n : ℕ) × (number_of x ≡ Some n)
    go None e f = absurd (no_way f)
    go (Some n) e f = (n, e)

-- edits see nothing in it
plain_event : (x : Entry) → is_plain x ≡ true → event_of x ≡ Other
plain_event (entries.Dispatch n v) h = refl
plain_event (entries.Block n k b) h = refl
plain_event (entries.End n) h = refl
plain_event (entries.Pick n k) h = refl
plain_event (entries.Test n b) h = refl
plain_event (entries.Assign n x) h = refl
plain_event (entries.Set n) h = refl
plain_event (entries.Pass n) h = refl
plain_event (entries.Note n) h = refl
plain_event (entries.Edit i w) h = absurd (no_way h)

-- what the laws say of the entries with one more of a node
pub record Moves (project : List Entity) (script : List Edit) (t : List Entry) (x : Entry) : Type 0 where
  pub judged_same : judged (t ++ x ∷ []) ≡ judged t
  pub store_same : store_after script project (t ++ x ∷ []) ≡ store_after script project t
  pub version_same : (n : ℕ) → version_after script project (t ++ x ∷ []) n ≡ version_after script project t n
  pub sent_more : sent (t ++ x ∷ []) ≡ sent t ++ option_to_list (dispatched x)

pub moves : (project : List Entity) (script : List Edit) (t : List Entry) (x : Entry) → is_plain x ≡ true
    → ((n : ℕ) → number_of x ≡ Some n → judged (t ++ x ∷ []) ≡ judged t)
    → store_after script project (t ++ x ∷ []) ≡ store_by script (store_after script project t) (event_of x)
    → ((n : ℕ) → version_after script project (t ++ x ∷ []) n ≡ version_after script project t n + rises_by script (store_after script project t) n (event_of x))
    → sent (t ++ x ∷ []) ≡ sent t ++ option_to_list (dispatched x) → Moves project script t x
moves project script t x plain judged_law store_law version_law sent_law = record {
  judged_same = let z = some_number x plain in judged_law z.0 z.1;
  store_same = store_law ∙ ap (store_by script (store_after script project t)) (plain_event x plain);
  version_same = λ n. version_law n ∙ (ap (λ (event : Event). version_after script project t n + rises_by script (store_after script project t) n event) (plain_event x plain) ∙ nothing_more (version_after script project t n));
  sent_more = sent_law;
}
  where
    nothing_more : (k : ℕ) → k + 0 ≡ k
    nothing_more k = omega arith

-- the steps that were dispatched, after an entry
abbrev pub SentMore : Entry → Editing → Editing → Type 0
SentMore x old new = (new.versions ≡ old.versions) × (new.sent.steps ≡ old.sent.steps) × ((n : ℕ) → has new.sent.members n ≡ (has old.sent.members n || has (option_to_list (dispatched x)) n))

-- two that go on
abbrev pub GoOn : Entry → Option Editing → Option Editing → Type 0
GoOn x None new = new ≡ None
GoOn x (Some old) new = (e : Editing) × (new ≡ Some e) × SentMore x old e

has_append : (ks ms : List ℕ) (n : ℕ) → has (ks ++ ms) n ≡ (has ks n || has ms n)
has_append [] ms n = refl
has_append (k ∷ ks) ms n = ap (λ (b : Bool). (k == n) || b) (has_append ks ms n) ∙ assoc (k == n) (has ks n) (has ms n)
  where
    assoc : (a b c : Bool) → (a || (b || c)) ≡ ((a || b) || c)
    assoc true b c = refl
    assoc false b c = refl

-- with a step more they go on
pub adds_go_on : (n v : ℕ) (old new : Editing) → new.versions ≡ old.versions → Adds old.sent new.sent n → SentMore (entries.Dispatch n v) old new
adds_go_on n v old new versions adds = (versions, adds.steps, λ m. go m (has new.sent.members m) refl (has old.sent.members m) refl (n == m) refl)
  where
    no_true : (b : Bool) → b ≡ true → b ≡ false → ⊥
    no_true b e f = cc

    go : (m : ℕ) (a : Bool) → has new.sent.members m ≡ a → (b : Bool) → has old.sent.members m ≡ b → (c : Bool) → (n == m) ≡ c → has new.sent.members m ≡ (has old.sent.members m || (c || false))
    go m a e true f c g =
        let z = contains_has new.sent.members m ((adds.members m).1 (inr (has_contains old.sent.members m f))) in
        z ∙ sym (rw f refl)
    go m a e false f true g =
        let s : m ≡ n = grind (arith, nat_tests) in
        let z = contains_has new.sent.members m ((adds.members m).1 (inl s)) in
        z ∙ sym (rw f refl)
    go m true e false f false g = absurd (elim ((adds.members m).0 (has_contains new.sent.members m e)) [ inl s ↦ apart s | inr i ↦ no_true (has old.sent.members m) (contains_has old.sent.members m i) f ])
      where
        apart : m ≡ n → ⊥
        apart s = let z : (n == m) ≡ true = grind (arith, nat_tests) in no_true (n == m) z g
    go m false e false f false g = e ∙ sym (rw f refl)

-- an entry that dispatches nothing leaves them
pub none_go_on : (x : Entry) (o : Option Editing) → dispatched x ≡ None → GoOn x o o
none_go_on x None e = refl
none_go_on x (Some a) e = (a, refl, (refl, refl, λ n. or_none (has a.sent.members n) ∙ ap (λ (d : Option ℕ). has a.sent.members n || has (option_to_list d) n) (sym e)))
  where
    or_none : (b : Bool) → b ≡ (b || false)
    or_none true = refl
    or_none false = refl

pub followed : (project : List Entity) (t : List Entry) (x : Entry) (old new : Edits) → new.script ≡ old.script → new.judged ≡ old.judged → Moves project old.script t x → GoOn x old.editing new.editing
    → AreKept project t old → AreKept project (t ++ x ∷ []) new
followed project t x old new scripts counts m g k =
    subst (λ (script : List Edit). AreKept project (t ++ x ∷ []) (record { script = script; judged = new.judged; editing = new.editing })) (sym scripts) (record {
      count = counts ∙ (k.count ∙ sym m.judged_same);
      store_is = stores old.editing new.editing g ∙ (k.store_is ∙ sym m.store_same);
      versions_are = λ n h. versions old.editing new.editing g n ∙ (k.versions_are n h ∙ sym (m.version_same n));
      defined = λ n h. subst (λ (store : List Entity). has_def store n ≡ true) (sym m.store_same) (k.defined n h);
      steps_are = λ n h. subst (λ (store : List Entity). is_workingstep (entity_at store) n ≡ true) (sym m.store_same) (k.steps_are n h);
      none = λ h. k.none (nones old.editing new.editing g h);
      each = each old.editing new.editing g k.each;
    })
  where
    none_some : (e : Editing) → Some e ≡ None → ⊥
    none_some e f = cc

    stores : (o p : Option Editing) → GoOn x o p → now_store project p ≡ now_store project o
    stores None p h = ap (now_store project) h
    stores (Some a) p h = ap (now_store project) h.1 ∙ ap (λ v. v.store) h.2.0

    versions : (o p : Option Editing) → GoOn x o p → (n : ℕ) → version_now p n ≡ version_now o n
    versions None p h n = ap (λ (q : Option Editing). version_now q n) h
    versions (Some a) p h n = ap (λ (q : Option Editing). version_now q n) h.1 ∙ ap (λ v. version_of v.versions n) h.2.0

    nones : (o p : Option Editing) → GoOn x o p → p ≡ None → o ≡ None
    nones None p h e = refl
    nones (Some a) p h e = absurd (none_some h.0 (sym h.1 ∙ e))

    each : (o p : Option Editing) → GoOn x o p → IfSome o (λ e. IsEditing project old.script t e) → IfSome p (λ e. IsEditing project old.script (t ++ x ∷ []) e)
    each None p h i = subst (λ (q : Option Editing). IfSome q (λ e. IsEditing project old.script (t ++ x ∷ []) e)) (sym h) tt
    each (Some a) p h i = subst (λ (q : Option Editing). IfSome q (λ e. IsEditing project old.script (t ++ x ∷ []) e)) (sym h.1) (record {
      steps = ap (λ v. v.steps) h.2.0 ∙ i.steps;
      known = h.2.1 ∙ i.known;
      sent_are = λ n. h.2.2 n ∙ (ap (λ (b : Bool). b || has (option_to_list (dispatched x)) n) (i.sent_are n) ∙ (sym (has_append (sent t) (option_to_list (dispatched x)) n) ∙ ap (λ (ns : List ℕ). has ns n) (sym m.sent_more)));
      room = subst (λ (v : ℕ). items_in (drop (judged (t ++ x ∷ [])) old.script) ≤ v) (sym (ap (λ v. v.spare) h.2.0)) (subst (λ (j : ℕ). items_in (drop j old.script) ≤ a.versions.spare) (sym m.judged_same) i.room);
    })

-- ---- after a verdict

append_none : (ns : List ℕ) → ns ++ [] ≡ ns
append_none [] = refl
append_none (n ∷ ns) = ap (λ (ms : List ℕ). n ∷ ms) (append_none ns)

put_longer : (store : List Entity) (item : Entity) → length (put_in store item) ≤ length store + 1
put_longer [] item = omega arith
put_longer (entity ∷ store) item = go (put_longer store item) (entity.number == item.number)
  where
    go : length (put_in store item) ≤ length store + 1 → (b : Bool) → length (if b then item ∷ store else entity ∷ put_in store item) ≤ length (entity ∷ store) + 1
    go h true = omega arith
    go h false = omega (arith, h)

all_longer : (store items : List Entity) → length (put_items store items) ≤ length store + length items
all_longer store [] = omega arith
all_longer store (item ∷ items) =
    let h = all_longer (put_in store item) items in
    let g = put_longer store item in
    omega (arith, h, g)

few_new : (store items : List Entity) → new_instances store items ≤ length items
few_new store items = let h = all_longer store items in omega (arith, h)

items_next : (script : List Edit) (i : ℕ) (edit : Edit) → slice_get script i ≡ Some edit → items_in (drop i script) ≡ length edit.items + items_in (drop (suc i) script)
items_next [] i edit e = absurd (none_some edit e)
  where
    none_some : (edit : Edit) → None ≡ Some edit → ⊥
    none_some edit e = cc
items_next (first ∷ script) zero edit e = let s : first ≡ edit = cc in ap (λ it. length it.items + items_in script) s
items_next (first ∷ script) (suc i) edit e = items_next script i edit e

-- there is room for the new instances of the next edit, and behind it for those of the others
pub record HasRoom (store : List Entity) (script : List Edit) (count spare : ℕ) (edit : Edit) : Type 0 where
  pub enough : new_instances store edit.items ≤ spare
  pub left : (less : ℕ) → less + new_instances store edit.items ≡ spare → items_in (drop (suc count) script) ≤ less

pub room_for : (store : List Entity) (script : List Edit) (count spare : ℕ) (edit : Edit) → slice_get script count ≡ Some edit → items_in (drop count script) ≤ spare → HasRoom store script count spare edit
room_for store script count spare edit e h =
    let f = few_new store edit.items in
    let g = items_next script count edit e in
    record { enough = omega (arith, f, g, h); left = λ less s. omega (arith, f, g, h, s) }

rises_little : (script : List Edit) (store : List Entity) (n i : ℕ) (w : Verdict) → rises_by script store n (Judged i w) ≤ 1
rises_little script store n i (Refused rule a b) = omega arith
rises_little script store n i Accepted = go (slice_get script i)
  where
    one : (b : Bool) → one_where b ≤ 1
    one true = omega arith
    one false = omega arith

    go : (o : Option Edit) → reaches_edit store o n ≤ 1
    go None = omega arith
    go (Some edit) = one (is_reached store edit.items n)

plain_low : (script : List Edit) (store : List Entity) (n : ℕ) (t : List Entry) → version_from script store n (events_of t) ≤ judged t → rises_by script store n Other + version_from script store n (events_of t) ≤ judged t
plain_low script store n t h = omega (arith, h)

-- a version is no more than the verdicts so far
pub version_low : (script : List Edit) (store : List Entity) (n : ℕ) (t : List Entry) → version_from script store n (events_of t) ≤ judged t
version_low script store n [] = omega arith
version_low script store n (entries.Edit i w ∷ t) =
    let h = version_low script (store_by script store (Judged i w)) n t in
    let g = rises_little script store n i w in
    omega (arith, g, h)
version_low script store n (entries.Dispatch m v ∷ t) = plain_low script store n t (version_low script store n t)
version_low script store n (entries.Block m k b ∷ t) = plain_low script store n t (version_low script store n t)
version_low script store n (entries.End m ∷ t) = plain_low script store n t (version_low script store n t)
version_low script store n (entries.Pick m k ∷ t) = plain_low script store n t (version_low script store n t)
version_low script store n (entries.Test m b ∷ t) = plain_low script store n t (version_low script store n t)
version_low script store n (entries.Assign m x ∷ t) = plain_low script store n t (version_low script store n t)
version_low script store n (entries.Set m ∷ t) = plain_low script store n t (version_low script store n t)
version_low script store n (entries.Pass m ∷ t) = plain_low script store n t (version_low script store n t)
version_low script store n (entries.Note m ∷ t) = plain_low script store n t (version_low script store n t)

-- the verdict is that of the sent steps in whatever order
pub verdict_is : (project : List Entity) (script : List Edit) (t : List Entry) (i : ℕ) (edit : Edit) (members : List ℕ) → slice_get script i ≡ Some edit → ((n : ℕ) → has members n ≡ has (sent t) n)
    → judge (store_after script project t) (store_steps project) members edit.items ≡ verdict_after script project t i
verdict_is project script t i edit members e same =
    ap judge_by (λ j n. (ap (λ (b : Bool). if b then Some 0 else None) (same n)) j) ∙ ap (verdict_on (store_after script project t) (store_steps project) (sent t)) (sym e)
  where
    judge_by : (ℕ → Option ℕ) → Verdict
    judge_by fault_of =
        let store = store_after script project t in
        let steps = store_steps project in
        unwrap_or (option_or (j1 store edit.items) (option_or (j2 store edit.items) (option_or (j3 store edit.items)
        (option_or (option_map (refused_step 4) (least_step fault_of (reached store steps edit.items))) (j5 store steps steps edit.items))))) Accepted

-- what the laws say of the entries with one verdict more
pub record Settles (project : List Entity) (script : List Edit) (t : List Entry) (i : ℕ) (w : Verdict) : Type 0 where
  pub judged_more : judged (t ++ entries.Edit i w ∷ []) ≡ judged t + 1
  pub store_more : store_after script project (t ++ entries.Edit i w ∷ []) ≡ store_by script (store_after script project t) (Judged i w)
  pub version_more : (n : ℕ) → version_after script project (t ++ entries.Edit i w ∷ []) n ≡ version_after script project t n + rises_by script (store_after script project t) n (Judged i w)
  pub sent_same : sent (t ++ entries.Edit i w ∷ []) ≡ sent t ++ []

-- what is kept stays where nothing is put
pub refused : (project : List Entity) (t : List Entry) (old new : Edits) (edit : Edit) (rule a b : ℕ) → slice_get old.script old.judged ≡ Some edit → new.script ≡ old.script → new.judged ≡ old.judged + 1 → new.editing ≡ old.editing
    → Settles project old.script t old.judged (Refused rule a b) → AreKept project t old → AreKept project (t ++ entries.Edit old.judged (Refused rule a b) ∷ []) new
refused project t old new edit rule a b e scripts counts same m k =
    subst (λ (script : List Edit). AreKept project later (record { script = script; judged = new.judged; editing = new.editing })) (sym scripts)
    (subst (λ (o : Option Editing). AreKept project later (record { script = old.script; judged = new.judged; editing = o })) (sym same) (record {
      count = counts ∙ (ap (λ (i : ℕ). i + 1) k.count ∙ sym m.judged_more);
      store_is = k.store_is ∙ sym m.store_more;
      versions_are = λ n h. k.versions_are n h ∙ (nothing_more (version_after old.script project t n) ∙ sym (m.version_more n));
      defined = λ n h. subst (λ (store : List Entity). has_def store n ≡ true) (sym m.store_more) (k.defined n h);
      steps_are = λ n h. subst (λ (store : List Entity). is_workingstep (entity_at store) n ≡ true) (sym m.store_more) (k.steps_are n h);
      none = k.none;
      each = each old.editing k.each;
    }))
  where
    later : List Entry
    later = t ++ entries.Edit old.judged (Refused rule a b) ∷ []

    nothing_more : (n : ℕ) → n ≡ n + 0
    nothing_more n = omega arith

    fewer : (i spare : ℕ) → i ≡ old.judged → items_in (drop i old.script) ≤ spare → items_in (drop (i + 1) old.script) ≤ spare
    fewer i spare f h =
        let g = items_next old.script i edit (ap (slice_get old.script) f ∙ e) in
        let s : i + 1 ≡ suc i = omega arith in
        subst (λ (j : ℕ). items_in (drop j old.script) ≤ spare) (sym s) (omega (arith, g, h))

    each : (o : Option Editing) → IfSome o (λ it. IsEditing project old.script t it) → IfSome o (λ it. IsEditing project old.script later it)
    each None h = tt
    each (Some it) h = record {
      steps = h.steps;
      known = h.known;
      sent_are = λ n. h.sent_are n ∙ ap (λ (ns : List ℕ). has ns n) (sym (m.sent_same ∙ append_none (sent t)));
      room = subst (λ (j : ℕ). items_in (drop j old.script) ≤ it.versions.spare) (sym m.judged_more) (fewer (judged t) it.versions.spare (sym k.count) h.room);
    }

-- what is kept after an edit that is accepted, and put
pub accepted : (project : List Entity) (t : List Entry) (old new : Edits) (edit : Edit) (before after : Editing) → slice_get old.script old.judged ≡ Some edit → new.script ≡ old.script → new.judged ≡ old.judged + 1
    → old.editing ≡ Some before → new.editing ≡ Some after → IsPut edit before after
    → ((n : ℕ) → has (store_steps project) n ≡ true → has_def before.versions.store n ≡ true → has_def (put_items before.versions.store edit.items) n ≡ true)
    → ((n : ℕ) → is_workingstep (entity_at before.versions.store) n ≡ true → is_workingstep (entity_at (put_items before.versions.store edit.items)) n ≡ true)
    → Settles project old.script t old.judged Accepted → AreKept project t old → AreKept project (t ++ entries.Edit old.judged Accepted ∷ []) new
accepted project t old new edit before after e scripts counts held holds put keeps_defs keeps_steps m k =
    subst (λ (script : List Edit). AreKept project later (record { script = script; judged = new.judged; editing = new.editing })) (sym scripts)
    (subst (λ (o : Option Editing). AreKept project later (record { script = old.script; judged = new.judged; editing = o })) (sym holds) (record {
      count = counts ∙ (ap (λ (i : ℕ). i + 1) k.count ∙ sym m.judged_more);
      store_is = put.stores ∙ (ap (λ (store : List Entity). put_items store edit.items) store_before ∙ sym store_behind);
      versions_are = λ n h. put.versions n (subst (λ (ns : List ℕ). Contains ns n) (sym own.steps) (has_contains (store_steps project) n h))
          ∙ (ap (λ (v : ℕ). v + one_where (is_reached before.versions.store edit.items n)) (sym (ap (λ (o : Option Editing). version_now o n) held) ∙ k.versions_are n h)
          ∙ (ap (λ (store : List Entity). version_after old.script project t n + one_where (is_reached store edit.items n)) store_before
          ∙ sym (m.version_more n ∙ ap (λ (o : Option Edit). version_after old.script project t n + reaches_edit (store_after old.script project t) o n) e)));
      defined = λ n h. subst (λ (store : List Entity). has_def store n ≡ true) (ap (λ (store : List Entity). put_items store edit.items) store_before ∙ sym store_behind)
          (keeps_defs n h (subst (λ (store : List Entity). has_def store n ≡ true) (sym store_before) (k.defined n h)));
      steps_are = λ n h. subst (λ (store : List Entity). is_workingstep (entity_at store) n ≡ true) (ap (λ (store : List Entity). put_items store edit.items) store_before ∙ sym store_behind)
          (keeps_steps n (subst (λ (store : List Entity). is_workingstep (entity_at store) n ≡ true) (sym store_before) (k.steps_are n h)));
      none = λ h. absurd (some_none after h);
      each = record {
        steps = put.same_steps ∙ own.steps;
        known = ap (λ it. it.steps) put.sets ∙ own.known;
        sent_are = λ n. ap (λ it. has it.members n) put.sets ∙ (own.sent_are n ∙ ap (λ (ns : List ℕ). has ns n) (sym (m.sent_same ∙ append_none (sent t))));
        room = subst (λ (j : ℕ). items_in (drop j old.script) ≤ after.versions.spare) (sym (m.judged_more ∙ next_one)) ((room_for before.versions.store old.script (judged t) before.versions.spare edit here own.room).left after.versions.spare put.spares);
      };
    }))
  where
    later : List Entry
    later = t ++ entries.Edit old.judged Accepted ∷ []

    some_none : (it : Editing) → Some it ≡ None → ⊥
    some_none it f = cc

    own : IsEditing project old.script t before
    own = subst (λ (o : Option Editing). IfSome o (λ it. IsEditing project old.script t it)) held k.each

    store_before : before.versions.store ≡ store_after old.script project t
    store_before = sym (ap (now_store project) held) ∙ k.store_is

    store_behind : store_after old.script project later ≡ put_items (store_after old.script project t) edit.items
    store_behind = m.store_more ∙ ap (put_edit (store_after old.script project t)) e

    here : slice_get old.script (judged t) ≡ Some edit
    here = ap (slice_get old.script) (sym k.count) ∙ e

    next_one : judged t + 1 ≡ suc (judged t)
    next_one = omega arith

-- ---- results

pub if_ok : {A : Type 0} (r : Result A NoMemory) (P Q : A → Type 0) → IfOk r P → ((a : A) → P a → Q a) → IfOk r Q
if_ok (Ok a) P Q h f = f a h
if_ok (Err e) P Q h f = tt

-- where there is an edit something is kept
pub is_kept : (project : List Entity) (t : List Entry) (edits : Edits) (edit : Edit) → AreKept project t edits → slice_get edits.script edits.judged ≡ Some edit → edits.editing ≡ None → ⊥
is_kept project t edits edit k e f = none_some (sym (ap (λ (script : List Edit). slice_get script edits.judged) (k.none f)) ∙ e)
  where
    none_some : slice_get [] edits.judged ≡ Some edit → ⊥
    none_some g = cc

pub kept_of : (project : List Entity) (t : List Entry) (edits : Edits) (e : Editing) → AreKept project t edits → edits.editing ≡ Some e → IsEditing project edits.script t e
kept_of project t edits e k f = subst (λ (o : Option Editing). IfSome o (λ it. IsEditing project edits.script t it)) f k.each

pub store_of : (project : List Entity) (t : List Entry) (edits : Edits) (e : Editing) → AreKept project t edits → edits.editing ≡ Some e → e.versions.store ≡ store_after edits.script project t
store_of project t edits e k f = sym (ap (now_store project) f) ∙ k.store_is

pub both_ok : (r : Result ⊤ NoMemory) (A B C : Type 0) → OnOk r A → OnOk r B → (A → B → C) → OnOk r C
both_ok (Ok u) A B C a b f = f a b
both_ok (Err e) A B C a b f = tt

-- ---- which entries dispatch

pub not_dispatched : (x : Entry) → ((n v : ℕ) → x ≡ entries.Dispatch n v → ⊥) → dispatched x ≡ None
not_dispatched (entries.Dispatch n v) h = absurd (h n v refl)
not_dispatched (entries.Block n k b) h = refl
not_dispatched (entries.End n) h = refl
not_dispatched (entries.Pick n k) h = refl
not_dispatched (entries.Test n b) h = refl
not_dispatched (entries.Assign n x) h = refl
not_dispatched (entries.Set n) h = refl
not_dispatched (entries.Pass n) h = refl
not_dispatched (entries.Note n) h = refl
not_dispatched (entries.Edit i w) h = refl

pub go_on_none : (x : Entry) (old new : Option Editing) → old ≡ None → new ≡ None → GoOn x old new
go_on_none x old new e f = subst (λ (o : Option Editing). GoOn x o new) (sym e) f

pub none_there : (o : Option Editing) → ((e : Editing) → o ≡ Some e → ⊥) → o ≡ None
none_there None h = refl
none_there (Some e) h = absurd (h e refl)

pub go_on_some : (x : Entry) (old new : Option Editing) (a b : Editing) → old ≡ Some a → new ≡ Some b → SentMore x a b → GoOn x old new
go_on_some x old new a b e f g = subst (λ (o : Option Editing). GoOn x o new) (sym e) (b, f, g)

pub sent_step : (o : Option Editing) (e : Editing) (n : ℕ) → o ≡ Some e → HasVersion o n → Contains e.sent.steps n
sent_step o e n f h = (subst (λ (q : Option Editing). HasVersion q n) f h).1

-- ---- what an edit that is accepted asks of what is kept

pub item_verdict : (project : List Entity) (t : List Entry) (edits : Edits) (edit : Edit) (e : Editing) → AreKept project t edits → edits.editing ≡ Some e → slice_get edits.script edits.judged ≡ Some edit
    → judge e.versions.store (store_steps project) (sent t) edit.items ≡ verdict_after edits.script project t edits.judged
item_verdict project t edits edit e k f s =
    ap (λ (store : List Entity). judge store (store_steps project) (sent t) edit.items) (store_of project t edits e k f)
    ∙ ap (verdict_on (store_after edits.script project t) (store_steps project) (sent t)) (sym s)

pub room_there : (project : List Entity) (t : List Entry) (edits : Edits) (edit : Edit) (e : Editing) → AreKept project t edits → edits.editing ≡ Some e → slice_get edits.script edits.judged ≡ Some edit
    → new_instances e.versions.store edit.items ≤ e.versions.spare
room_there project t edits edit e k f s =
    (room_for e.versions.store edits.script (judged t) e.versions.spare edit (ap (slice_get edits.script) (sym k.count) ∙ s) (kept_of project t edits e k f).room).enough

pub version_fits : (project : List Entity) (t : List Entry) (edits : Edits) (e : Editing) (n limit : ℕ) → AreKept project t edits → edits.editing ≡ Some e → edits.judged + 1 < limit → Contains e.versions.steps n
    → version_of e.versions.versions n + 1 < limit
version_fits project t edits e n limit k f l h =
    let own = kept_of project t edits e k f in
    let among : has (store_steps project) n ≡ true = contains_has (store_steps project) n (subst (λ (ns : List ℕ). Contains ns n) own.steps h) in
    let same : version_of e.versions.versions n ≡ version_after edits.script project t n = sym (ap (λ (o : Option Editing). version_now o n) f) ∙ k.versions_are n among in
    let low : version_after edits.script project t n ≤ judged t = version_low edits.script project n t in
    let count = k.count in
    omega (arith, same, low, count, l)

pub index_small : (script : List Edit) (i : ℕ) (edit : Edit) → slice_get script i ≡ Some edit → i < length script
index_small [] i edit e = absurd (none_some edit e)
  where
    none_some : (edit : Edit) → None ≡ Some edit → ⊥
    none_some edit e = cc
index_small (first ∷ script) zero edit e = omega arith
index_small (first ∷ script) (suc i) edit e = let h = index_small script i edit e in omega (arith, h)

-- ---- after the verdict on the next edit

pub settles : (project : List Entity) (script : List Edit) (t : List Entry) (i : ℕ) (w : Verdict) → judged (t ++ entries.Edit i w ∷ []) ≡ judged t + 1
    → store_after script project (t ++ entries.Edit i w ∷ []) ≡ store_by script (store_after script project t) (Judged i w)
    → ((n : ℕ) → version_after script project (t ++ entries.Edit i w ∷ []) n ≡ version_after script project t n + rises_by script (store_after script project t) n (Judged i w))
    → sent (t ++ entries.Edit i w ∷ []) ≡ sent t ++ [] → Settles project script t i w
settles project script t i w a b c d = record { judged_more = a; store_more = b; version_more = c; sent_same = d }

pub accepted_next : (project : List Entity) (t : List Entry) (old new : Edits) → new.script ≡ old.script → new.judged ≡ old.judged + 1 → PutsNext (slice_get old.script old.judged) old.editing new.editing
    → ((store : List Entity) (steps sent : List ℕ) (items : List Entity) (n : ℕ) → judge store steps sent items ≡ Accepted → has steps n ≡ true → has_def store n ≡ true → has_def (put_items store items) n ≡ true)
    → ((store : List Entity) (steps sent : List ℕ) (items : List Entity) (n : ℕ) → judge store steps sent items ≡ Accepted → is_workingstep (entity_at store) n ≡ true → is_workingstep (entity_at (put_items store items)) n ≡ true)
    → Accepted ≡ verdict_after old.script project t old.judged → Settles project old.script t old.judged Accepted → AreKept project t old → AreKept project (t ++ entries.Edit old.judged Accepted ∷ []) new
accepted_next project t old new scripts counts puts defs steps told m k = go (slice_get old.script old.judged) refl puts
  where
    go : (o : Option Edit) → slice_get old.script old.judged ≡ o → PutsNext o old.editing new.editing → AreKept project (t ++ entries.Edit old.judged Accepted ∷ []) new
    go None e h = absurd h
    go (Some edit) e h =
        let is : judge h.0.versions.store (store_steps project) (sent t) edit.items ≡ Accepted = item_verdict project t old edit h.0 k h.2 e ∙ sym told in
        accepted project t old new edit h.0 h.1 e scripts counts h.2 h.3 h.4
        (λ n. defs h.0.versions.store (store_steps project) (sent t) edit.items n is) (λ n. steps h.0.versions.store (store_steps project) (sent t) edit.items n is) m k

pub refused_next : (project : List Entity) (t : List Entry) (old new : Edits) (w : Verdict) (rule a b : ℕ) → w ≡ Refused rule a b → IsSome (slice_get old.script old.judged) → new.script ≡ old.script → new.judged ≡ old.judged + 1 → new.editing ≡ old.editing
    → Settles project old.script t old.judged w → AreKept project t old → AreKept project (t ++ entries.Edit old.judged w ∷ []) new
refused_next project t old new w rule a b e some scripts counts same m k =
    subst (λ (v : Verdict). Settles project old.script t old.judged v → AreKept project (t ++ entries.Edit old.judged v ∷ []) new) (sym e) (λ n. go (slice_get old.script old.judged) refl some n) m
  where
    go : (o : Option Edit) → slice_get old.script old.judged ≡ o → IsSome o → Settles project old.script t old.judged (Refused rule a b) → AreKept project (t ++ entries.Edit old.judged (Refused rule a b) ∷ []) new
    go None f h n = absurd (no_way h)
    go (Some edit) f h n = refused project t old new edit rule a b f scripts counts same n k
