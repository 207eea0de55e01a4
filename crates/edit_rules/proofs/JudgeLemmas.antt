-- What a verdict says of the rules.
use Rattle.std.specs.Prelude.{◌≡◌, ℕ, Bool, true, false, ◌==◌, ◌||◌, not, nat_lt, if◌then◌else◌, List, [], ◌∷◌, filter, Option, Some, None, option_map, unwrap_or}
use Rattle.std.specs.Option.{option_or}
use Rattle.std.proofs.Common.{refl, sym, ap, ◌∙◌, subst, arith}
use Rattle.std.proofs.lemmas.Bool.Decides.{nat_tests}
use Rattle.nc_base.specs.declared.verdict.Verdict.{Verdict}
use Rattle.nc_base.specs.declared.verdict.Verdict.TheVariants.{Accepted, Refused}
use Rattle.entity_types.specs.declared.entity.Entity.{Entity}
use Rattle.project_store.specs.Entities.{entity_at}
use Rattle.project_store.specs.Build.{lesser}
use Rattle.exec_tree.specs.Exec.{has}
use Rattle.project_versions.specs.Reach.{after, is_reached}
use Rattle.edit_rules.specs.Judge.{first_given, class_fault, class_fault_by, missing_fault, missing_reference, kind_fault, least_step, sent_fault, step_fault, reached, touched, refused_step, j1, j2, j3, j4, j5, first_refusal, judge}

pub no_way : false ≡ true → ⊥
no_way e = cc

-- ---- what a rule gives refuses

abbrev Refuses : Option Verdict → Type 0
Refuses None = Unit {0}
Refuses (Some Accepted) = ⊥
Refuses (Some (Refused rule a b)) = Unit {0}

told : {A : Type 0} (rule : A → Verdict) → ((a : A) → Refuses (Some (rule a))) → (o : Option A) → Refuses (option_map rule o)
told rule h None = tt
told rule h (Some a) = h a

either : (a b : Option Verdict) → Refuses a → Refuses b → Refuses (option_or a b)
either None b h g = g
either (Some v) b h g = h

each_given : {A : Type 0} (test : A → Option Verdict) → ((a : A) → Refuses (test a)) → (xs : List A) → Refuses (first_given test xs)
each_given test h [] = tt
each_given test h (x ∷ xs) = either (test x) (first_given test xs) (h x) (each_given test h xs)

j1_refuses : (store items : List Entity) → Refuses (j1 store items)
j1_refuses store items = each_given (class_fault (entity_at store)) (λ item. told (λ class. Refused 1 item.number class) (λ class. tt) (class_fault_by (entity_at store item.number) item)) items

j2_refuses : (store items : List Entity) → Refuses (j2 store items)
j2_refuses store items = each_given (missing_fault (after store items)) (λ item. told (λ reference. Refused 2 item.number reference) (λ reference. tt) (missing_reference (after store items) item.fields)) items

j3_refuses : (store items : List Entity) → Refuses (j3 store items)
j3_refuses store items = each_given (kind_fault (after store items)) (λ item. told (λ position. Refused 3 item.number position) (λ position. tt) _) items

least_refuses : (rule : ℕ) (found : Option (ℕ × ℕ)) → Refuses (option_map (refused_step rule) found)
least_refuses rule found = told (refused_step rule) (λ f. tt) found

-- ---- accepted

accepts_none : (o : Option Verdict) → Refuses o → unwrap_or o Accepted ≡ Accepted → o ≡ None
accepts_none None h e = refl
accepts_none (Some Accepted) h e = absurd h
accepts_none (Some (Refused rule a b)) h e = absurd (let f : Refused rule a b ≡ Accepted = e in cc)

pub or_none : (a b : Option Verdict) → option_or a b ≡ None → (a ≡ None) × (b ≡ None)
or_none None b e = (refl, e)
or_none (Some v) b e = absurd (let f : Some v ≡ None = e in cc)

abbrev pub NoneApplies : List Entity → List ℕ → List ℕ → List Entity → Type 0
NoneApplies store steps sent items = (j1 store items ≡ None) × (j2 store items ≡ None) × (j3 store items ≡ None) × (j4 store steps sent items ≡ None) × (j5 store steps steps items ≡ None)

pub none_applies : (store : List Entity) (steps sent : List ℕ) (items : List Entity) → judge store steps sent items ≡ Accepted → NoneApplies store steps sent items
none_applies store steps sent items e =
    let r4 = least_refuses 4 (least_step (sent_fault sent) (reached store steps items)) in
    let r5 = least_refuses 5 (least_step (step_fault (after store items)) (touched store steps steps items)) in
    let r45 = either (j4 store steps sent items) (j5 store steps steps items) r4 r5 in
    let r345 = either (j3 store items) (option_or (j4 store steps sent items) (j5 store steps steps items)) (j3_refuses store items) r45 in
    let r2345 = either (j2 store items) (option_or (j3 store items) (option_or (j4 store steps sent items) (j5 store steps steps items))) (j2_refuses store items) r345 in
    let r = either (j1 store items) (option_or (j2 store items) (option_or (j3 store items) (option_or (j4 store steps sent items) (j5 store steps steps items)))) (j1_refuses store items) r2345 in
    let n = accepts_none (first_refusal store steps steps sent items) r e in
    let a = or_none (j1 store items) (option_or (j2 store items) (option_or (j3 store items) (option_or (j4 store steps sent items) (j5 store steps steps items)))) n in
    let b = or_none (j2 store items) (option_or (j3 store items) (option_or (j4 store steps sent items) (j5 store steps steps items))) a.1 in
    let c = or_none (j3 store items) (option_or (j4 store steps sent items) (j5 store steps steps items)) b.1 in
    let d = or_none (j4 store steps sent items) (j5 store steps steps items) c.1 in
    (a.0, b.0, c.0, d.0, d.1)

all_none : (a b c d e : Option Verdict) → a ≡ None → b ≡ None → c ≡ None → d ≡ None → e ≡ None → unwrap_or (option_or a (option_or b (option_or c (option_or d e)))) Accepted ≡ Accepted
all_none a b c d e ea eb ec ed ee = rw (ea, eb, ec, ed, ee) refl

pub accepted : (store : List Entity) (steps sent : List ℕ) (items : List Entity) → NoneApplies store steps sent items → judge store steps sent items ≡ Accepted
accepted store steps sent items h =
    all_none (j1 store items) (j2 store items) (j3 store items) (j4 store steps sent items) (j5 store steps steps items) h.0 h.1 h.2 h.3 h.4

-- ---- which steps are looked at

same_filter : (test : ℕ → Bool) (all ns : List ℕ) → ((n : ℕ) → has ns n ≡ true → has all n ≡ true) → filter (λ n. test n || not (has all n)) ns ≡ filter test ns
same_filter test all [] h = refl
same_filter test all (n ∷ ns) h = go (test n) refl (same_filter test all ns (λ m i. h m (later m i)))
  where
    later : (m : ℕ) → has ns m ≡ true → has (n ∷ ns) m ≡ true
    later m i = by (n == m)
      where
        by : (b : Bool) → (b || has ns m) ≡ true
        by true = refl
        by false = i

    own : (n == n) ≡ true
    own = grind (arith, nat_tests)

    here : has all n ≡ true
    here = h n (rw own refl)

    go : (b : Bool) → test n ≡ b → filter (λ n. test n || not (has all n)) ns ≡ filter test ns → filter (λ n. test n || not (has all n)) (n ∷ ns) ≡ filter test (n ∷ ns)
    go true e rec = rw e (ap (λ (ms : List ℕ). n ∷ ms) rec)
    go false e rec = rw (e, here) rec

pub same_steps : (store : List Entity) (steps : List ℕ) (items : List Entity) → touched store steps steps items ≡ reached store steps items
same_steps store steps items = same_filter (is_reached store items) steps steps (λ n i. i)

-- ---- where no step has a fault

lesser_none : (a b : Option (ℕ × ℕ)) → lesser a b ≡ None → (a ≡ None) × (b ≡ None)
lesser_none None b e = (refl, e)
lesser_none (Some x) None e = absurd (let f : Some x ≡ None = e in cc)
lesser_none (Some x) (Some y) e = absurd (go (nat_lt y.0 x.0) e)
  where
    go : (b : Bool) → (if b then Some y else Some x) ≡ None → ⊥
    go true f = cc
    go false f = cc

no_fault : (n : ℕ) (o : Option ℕ) → option_map {U = ℕ × ℕ} (λ fault. (n, fault)) o ≡ None → o ≡ None
no_fault n None e = refl
no_fault n (Some fault) e = absurd (let f : Some (n, fault) ≡ None = e in cc)

none_has : (fault_of_one : ℕ → Option ℕ) (ns : List ℕ) (n : ℕ) → least_step fault_of_one ns ≡ None → has ns n ≡ true → fault_of_one n ≡ None
none_has fault_of_one [] n e h = absurd (no_way h)
none_has fault_of_one (m ∷ ns) n e h =
    let z = lesser_none (option_map {U = ℕ × ℕ} (λ fault. (m, fault)) (fault_of_one m)) (least_step fault_of_one ns) e in
    go (m == n) refl h z.0 (none_has fault_of_one ns n z.1)
  where
    go : (b : Bool) → (m == n) ≡ b → (b || has ns n) ≡ true → option_map {U = ℕ × ℕ} (λ fault. (m, fault)) (fault_of_one m) ≡ None → (has ns n ≡ true → fault_of_one n ≡ None) → fault_of_one n ≡ None
    go true q i f rec = let s : m ≡ n = grind (arith, nat_tests) in subst (λ (k : ℕ). fault_of_one k ≡ None) s (no_fault m (fault_of_one m) f)
    go false q i f rec = rec i

pub kept_in : (test : ℕ → Bool) (ns : List ℕ) (n : ℕ) → has ns n ≡ true → test n ≡ true → has (filter test ns) n ≡ true
kept_in test [] n h e = h
kept_in test (m ∷ ns) n h e = go (m == n) (test m) refl refl h (λ i. kept_in test ns n i e)
  where
    go : (b c : Bool) → (m == n) ≡ b → test m ≡ c → (b || has ns n) ≡ true → (has ns n ≡ true → has (filter test ns) n ≡ true) → has (filter test (m ∷ ns)) n ≡ true
    go true true q t i rec = rw (t, q) refl
    go true false q t i rec = absurd (let s : m ≡ n = grind (arith, nat_tests) in no_way (sym t ∙ subst (λ (k : ℕ). test k ≡ true) (sym s) e))
    go false true q t i rec = rw (t, q) (rec i)
    go false false q t i rec = rw t (rec i)

no_refusal : (rule : ℕ) (found : Option (ℕ × ℕ)) → option_map (refused_step rule) found ≡ None → found ≡ None
no_refusal rule None e = refl
no_refusal rule (Some f) e = absurd (let g : Some (refused_step rule f) ≡ None = e in cc)

pub spares_sent : (store : List Entity) (steps sent : List ℕ) (items : List Entity) (n : ℕ) → judge store steps sent items ≡ Accepted → has steps n ≡ true → has sent n ≡ true → is_reached store items n ≡ false
spares_sent store steps sent items n e h s = go (is_reached store items n) refl
  where
    zero_or_none : Bool → Option ℕ
    zero_or_none b = if b then Some 0 else None

    some : (b : Bool) → zero_or_none b ≡ None → b ≡ false
    some true f = absurd (cc)
    some false f = refl

    faults : (b : Bool) → has sent n ≡ b → sent_fault sent n ≡ None → b ≡ false
    faults b q f = some b (rw q at f)

    go : (b : Bool) → is_reached store items n ≡ b → b ≡ false
    go false q = refl
    go true q =
        let none = no_refusal 4 (least_step (sent_fault sent) (reached store steps items)) (none_applies store steps sent items e).3 in
        let f = none_has (sent_fault sent) (reached store steps items) n none (kept_in (is_reached store items) steps n h q) in
        absurd (no_way (sym (faults true s f)))

pub defined : (store : List Entity) (steps sent : List ℕ) (items : List Entity) (n : ℕ) → judge store steps sent items ≡ Accepted → has steps n ≡ true → is_reached store items n ≡ true → step_fault (after store items) n ≡ None
defined store steps sent items n e h q =
    let none = no_refusal 5 (least_step (step_fault (after store items)) (touched store steps steps items)) (none_applies store steps sent items e).4 in
    none_has (step_fault (after store items)) (touched store steps steps items) n none
    (subst (λ (ns : List ℕ). has ns n ≡ true) (sym (same_steps store steps items)) (kept_in (is_reached store items) steps n h q))
