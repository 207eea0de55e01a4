-- What a list without a fault keeps.
use Rattle.std.proofs.Common.{◌≡◌, ℕ, zero, suc, ◌+◌, ◌<◌, ◌==◌, ◌&&◌, Bool, true, false, cond, nat_lt, List, [], ◌∷◌, length, get_or, drop, refl, ap, sym, subst, ◌∙◌, arith, IsTrue}
use Rattle.std.specs.Prelude.{Option, Some, None, option_map, find, is_none, slice_get, Contains}
use Rattle.std.specs.Option.{option_map_or}
use Rattle.std.specs.List.{list_all}
use Rattle.std.proofs.lemmas.Bool.{false≢true}
use Rattle.std.proofs.lemmas.List.{at_drop_more}
use Rattle.std.proofs.lemmas.Option.{get_or_from_slice_get, slice_get_within}
use Rattle.entity_types.specs.declared.entity.Entity.{Entity}
use Rattle.entity_types.specs.declared.field.Field.{Field}
use Rattle.entity_types.specs.declared.table.Target.{Target}
use Rattle.entity_types.specs.declared.table.UsedPosition.{UsedPosition}
use Rattle.entity_types.specs.Table.{used_of}
use Rattle.entity_types.specs.Target.{accepts}
use Rattle.entity_types.specs.Entity.{field_at, references_of, uses_of}
use Rattle.project_store.specs.declared.error.StoreErr.{StoreErr}
use Rattle.project_store.specs.declared.error.StoreErr.TheVariants.{WrongKind, Unresolved}
use Rattle.project_store.specs.Entities.{entity_at}
use Rattle.project_store.specs.Build.{is_project, count_fault, projects_of, first_of, missing_fault, kind_fault, fault_of, lesser, least_fault, is_of_target, wrong_among, wrong_position, missing_among, missing_reference}
use Rattle.project_store.specs.Inserts.{uses_at}
use Rattle.project_store.specs.Resolved.{target_among, IsResolved}

first_none : (a b : Option StoreErr) → first_of a b ≡ None → a ≡ None
first_none None b h = refl
first_none (Some x) b h = h

second_none : (a b : Option StoreErr) → first_of a b ≡ None → b ≡ None
second_none None b h = h
second_none (Some x) b h = cc

pub mapped_none : {A B : Type 0} (f : A → B) (o : Option A) → option_map f o ≡ None → o ≡ None
mapped_none f None h = refl
mapped_none f (Some x) h = cc

never_none : {A : Type 0} (b : Bool) (x y : A) → cond b (Some x) (Some y) ≡ None → ⊥
never_none true x y h = cc
never_none false x y h = cc

pub lesser_left : (a b : Option (ℕ × ℕ)) → lesser a b ≡ None → a ≡ None
lesser_left None b h = refl
lesser_left (Some x) None h = h
lesser_left (Some x) (Some y) h = absurd (never_none (nat_lt y.0 x.0) y x h)

pub lesser_right : (a b : Option (ℕ × ℕ)) → lesser a b ≡ None → b ≡ None
lesser_right None b h = h
lesser_right (Some x) None h = refl
lesser_right (Some x) (Some y) h = absurd (never_none (nat_lt y.0 x.0) y x h)

no_fault_by : (fault : Entity → Option ℕ) (x e : Entity) (found : Option Entity) (b : Bool) → fault x ≡ None → (found ≡ Some e → fault e ≡ None) → cond b (Some x) found ≡ Some e → fault e ≡ None
no_fault_by fault x e found true h rest g =
    let same : x ≡ e = cc in
    subst (λ (y : Entity). fault y ≡ None) same h
no_fault_by fault x e found false h rest g = rest g

-- where there is no least fault, no entity that can be found has a fault
no_fault : (fault : Entity → Option ℕ) (test : Entity → Bool) (es : List Entity) (e : Entity) → least_fault fault es ≡ None → find test es ≡ Some e → fault e ≡ None
no_fault fault test [] e h f = cc
no_fault fault test (x ∷ es) e h f =
    no_fault_by fault x e (find test es) (test x) (mapped_none (λ n. (x.number, n)) (fault x) (lesser_left _ _ h))
    (no_fault fault test es e (lesser_right _ _ h)) f

pub and_left : (a b : Bool) → a && b ≡ true → a ≡ true
and_left true b h = refl
and_left false b h = h

pub and_right : (a b : Bool) → a && b ≡ true → b ≡ true
and_right true b h = h
and_right false b h = absurd (false≢true h)

-- what all pass, each passes
each_passes : (test : ℕ → Bool) (xs : List ℕ) (r : ℕ) (k : ℕ) → list_all test xs ≡ true → k < length xs → get_or xs k r ≡ r → test r ≡ true
each_passes test [] r k h l e = absurd (omega arith)
each_passes test (x ∷ xs) r zero h l e = subst (λ y. test y ≡ true) e (and_left (test x) (list_all test xs) h)
each_passes test (x ∷ xs) r (suc k) h l e = each_passes test xs r k (and_right (test x) (list_all test xs) h) (omega arith) e

right_by : (all : List Entity) (used : UsedPosition) (field : Field) (t : Target) (f : Field) (b : Bool) (more_t : Option Target) (more_f : Option Field)
    → list_all (is_of_target all used.target) (references_of field) ≡ true
    → (more_t ≡ Some t → more_f ≡ Some f → list_all (is_of_target all t) (references_of f) ≡ true)
    → cond b (Some used.target) more_t ≡ Some t → cond b (Some field) more_f ≡ Some f → list_all (is_of_target all t) (references_of f) ≡ true
right_by all used field t f true more_t more_f right rest v g =
    let same_target : used.target ≡ t = cc in
    let same_field : field ≡ f = cc in
    subst (λ x. list_all (is_of_target all x) (references_of f) ≡ true) same_target
    (subst (λ x. list_all (is_of_target all used.target) (references_of x) ≡ true) same_field right)
right_by all used field t f false more_t more_f right rest v g = rest v g

pub none_then : (b : Bool) (rest : Option ℕ) (p : ℕ) → cond b rest (Some p) ≡ None → (b ≡ true) × (rest ≡ None)
none_then true rest p h = (refl, h)
none_then false rest p h = cc

-- where no position is wrong, each field refers to the target of its position
all_right : (all : List Entity) (used : List UsedPosition) (fields : List Field) (p : ℕ) (t : Target) (f : Field)
    → wrong_among all used fields ≡ None → target_among used p ≡ Some t → field_at used fields p ≡ Some f → list_all (is_of_target all t) (references_of f) ≡ true
all_right all [] fields p t f w u h = cc
all_right all (used ∷ others) [] p t f w u h = cc
all_right all (used ∷ others) (field ∷ fields) p t f w u h =
    let both = none_then (list_all (is_of_target all used.target) (references_of field)) (wrong_among all others fields) used.position w in
    right_by all used field t f (used.position == p) (target_among others p) (field_at others fields p) both.0 (all_right all others fields p t f both.1) u h

of_target : (t : Target) (o : Option Entity) → option_map_or (λ entity. accepts t entity.class) o false ≡ true
    → (other : Entity) × (o ≡ Some other) × IsTrue (accepts t other.class)
of_target t None h = absurd (false≢true h)
of_target t (Some other) h = (other, refl, h)

-- a list without a fault has its references resolved
pub resolved : (all : List Entity) → fault_of all ≡ None → IsResolved all
resolved all h n p r entity target field at t f c =
    let none = second_none (missing_fault all) (kind_fault all) (second_none (count_fault (projects_of all)) _ h) in
    let no_wrong = no_fault (wrong_position all) (λ e. n == e.number) all entity (mapped_none (λ x. WrongKind x.0 x.1) (least_fault (wrong_position all) all) none) at in
    let right = all_right all (used_of entity.class) entity.fields p target field no_wrong t f in
    of_target target (entity_at all r) (each_passes (is_of_target all target) (references_of field) r c.0 right c.1 c.2)

-- a list without a fault has one project
pub one_project : (all : List Entity) → fault_of all ≡ None → count_fault (projects_of all) ≡ None
one_project all h = first_none (count_fault (projects_of all)) _ h

pub project_first : (e : Entity) (rest : List Entity) → count_fault (e ∷ rest) ≡ None → e ∷ rest ≡ e ∷ []
project_first e [] h = refl
project_first e (x ∷ rest) h = cc

kept : (b : Bool) (x : Entity) (xs : List Entity) → b ≡ true → cond b (x ∷ xs) xs ≡ x ∷ xs
kept true x xs h = refl
kept false x xs h = absurd (false≢true h)

left_out : (b : Bool) (x : Entity) (xs : List Entity) → b ≡ false → cond b (x ∷ xs) xs ≡ xs
left_out false x xs h = refl
left_out true x xs h = absurd (false≢true (sym h))

at_place : (es : List Entity) (i : ℕ) (e : Entity) → slice_get es i ≡ Some e → projects_of (drop i es) ≡ projects_of (e ∷ drop (i + 1) es)
at_place es i e at =
    at_drop_more projects_of es i e (slice_get_within es i e at) ∙ ap (λ y. projects_of (y ∷ drop (i + 1) es)) (get_or_from_slice_get es i e e at)

-- a project found is the only one
pub project_found : (es : List Entity) (i : ℕ) (e : Entity) → count_fault (projects_of es) ≡ None → slice_get es i ≡ Some e → is_project e ≡ true
    → projects_of (drop i es) ≡ projects_of es → projects_of es ≡ e ∷ []
project_found es i e one at h inv =
    let step = at_place es i e at ∙ kept (is_project e) e (projects_of (drop (i + 1) es)) h in
    let whole : projects_of es ≡ e ∷ projects_of (drop (i + 1) es) = sym inv ∙ step in
    whole ∙ project_first e (projects_of (drop (i + 1) es)) (subst (λ ps. count_fault ps ≡ None) whole one)

pub project_not_yet : (es : List Entity) (i : ℕ) (e : Entity) → slice_get es i ≡ Some e → is_project e ≡ false
    → projects_of (drop i es) ≡ projects_of es → projects_of (drop (i + 1) es) ≡ projects_of es
project_not_yet es i e at h inv = sym (at_place es i e at ∙ left_out (is_project e) e (projects_of (drop (i + 1) es)) h) ∙ inv

-- ---- what is used is there

present : (o : Option Entity) → is_none o ≡ false → o ≡ None → ⊥
present None h e = absurd (false≢true (sym h))
present (Some x) h e = absurd (cc)

by_test : (b : Bool) (x : ℕ) (rest : Option ℕ) → cond b (Some x) rest ≡ None → (b ≡ false) × (rest ≡ None)
by_test true x rest h = absurd (cc)
by_test false x rest h = (refl, h)

not_missing : (all : List Entity) (rs : List ℕ) (r k : ℕ) → missing_among all rs ≡ None → k < length rs → get_or rs k r ≡ r → entity_at all r ≡ None → ⊥
not_missing all [] r k h l e none = absurd (omega arith)
not_missing all (x ∷ rs) r zero h l e none =
    present (entity_at all r) (subst (λ (y : ℕ). is_none (entity_at all y) ≡ false) e (by_test (is_none (entity_at all x)) x (missing_among all rs) h).0) none
not_missing all (x ∷ rs) r (suc k) h l e none = not_missing all rs r k (by_test (is_none (entity_at all x)) x (missing_among all rs) h).1 (omega arith) e none

-- in a list without a fault what an entity uses is there
pub closed : (all : List Entity) → fault_of all ≡ None → (n r : ℕ) → Contains (uses_at (entity_at all) n) r → entity_at all r ≡ None → ⊥
closed all h n r c none = go (entity_at all n) refl c
  where
    none_missing : least_fault (missing_reference all) all ≡ None
    none_missing = mapped_none (λ x. Unresolved x.0 x.1) (least_fault (missing_reference all) all) (first_none (missing_fault all) (kind_fault all) (second_none (count_fault (projects_of all)) _ h))

    go : (o : Option Entity) → entity_at all n ≡ o → Contains (option_map_or uses_of o []) r → ⊥
    go None e u = absurd (omega (arith, u.1))
    go (Some entity) e u = not_missing all (uses_of entity) r u.0 (no_fault (missing_reference all) (λ x. n == x.number) all entity none_missing e) u.1 u.2 none
