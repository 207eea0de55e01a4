-- What an edit that is accepted does to a store.
use Rattle.std.specs.Prelude.{◌≡◌, ℕ, zero, suc, ◌<◌, Bool, true, false, ◌&&◌, ◌||◌, ◌==◌, is_ok, IsTrue, Contains, if◌then◌else◌, List, [], ◌∷◌, length, Option, Some, None, option_map, Result, Ok, Err, ◌⊎◌}
use Rattle.std.specs.Option.{option_map_or}
use Rattle.std.specs.List.{list_all}
use Rattle.std.proofs.Common.{refl, sym, ap, subst, ◌∙◌, arith, get_or, inl, inr}
use Rattle.std.proofs.lemmas.Bool.Decides.{nat_tests}
use Rattle.nc_base.specs.declared.verdict.Verdict.{Verdict}
use Rattle.nc_base.specs.declared.verdict.Verdict.TheVariants.{Accepted, Refused}
use Rattle.path_blocks.specs.declared.def.Def.{Def}
use Rattle.entity_types.specs.declared.class.Class.{Class}
use Rattle.entity_types.specs.declared.class.Class.TheVariants.{Project, Workplan, Parallel, NonSequential, Selective, IfStatement, WhileStatement, Assignment, SetMark, WaitForMark, MachiningWorkingstep, Note, Channel, NcVariable, NcConstant, ComparisonEqual, ComparisonNotEqual, ComparisonGreater, ComparisonGreaterEqual, ComparisonLess, ComparisonLessEqual, AndExpression, OrExpression, XorExpression, NotExpression, NcSum, NcDifference, NcProduct, RoundHole, PlanarFace, ClosedPocket, LinearPath, LinearProfile, RectangularClosedProfile, GeneralClosedProfile, Polyline, Plane, Axis2Placement3d, CartesianPoint, Direction, Drilling, CenterDrilling, Reaming, Boring, PlaneRoughMilling, PlaneFinishMilling, BottomAndSideRoughMilling, BottomAndSideFinishMilling, Bidirectional, Unidirectional, MillingTechnology, MillingCuttingTool, Endmill, TaperedEndmill, BallEndmill, Facemill, TwistDrill, MillingToolDimension, TolerancedLengthMeasure, NumericParameter, Opaque}
use Rattle.entity_types.specs.declared.entity.Entity.{Entity}
use Rattle.entity_types.specs.declared.field.Field.{Field}
use Rattle.entity_types.specs.declared.table.Target.{Target}
use Rattle.entity_types.specs.declared.table.UsedPosition.{UsedPosition}
use Rattle.entity_types.specs.Class.{code_of}
use Rattle.entity_types.specs.Table.{used_of}
use Rattle.entity_types.specs.Target.{accepts}
use Rattle.entity_types.specs.Entity.{references_of, field_at}
use Rattle.project_store.specs.Entities.{entity_at}
use Rattle.project_store.specs.Put.{put, put_all, put_items}
use Rattle.project_store.specs.Build.{is_project}
use Rattle.project_store.specs.Resolved.{target_among}
use Rattle.project_store.specs.Putting.{ResolvesIn, CanPut}
use Rattle.step_def.specs.declared.fault.DefFault.{DefFault}
use Rattle.step_def.specs.Agree.{Agree}
use Rattle.step_def.specs.Condition.{is_workingstep}
use Rattle.step_def.specs.Lookup.{is_of}
use Rattle.step_def.specs.FaultCode.{fault_code}
use Rattle.step_def.specs.DefOf.{def_of}
use Rattle.exec_tree.specs.Exec.{has}
use Rattle.project_versions.specs.Reach.{after, is_reached}
use Rattle.edit_rules.specs.Judge.{first_given, is_of_program, is_replaceable, class_fault_by, class_fault, is_of_target, wrong_among, kind_fault, code_in, j1, judge}
use Rattle.edit_rules.specs.Faults.{has_def}
use Rattle.edit_rules.proofs.JudgeLemmas.{no_way, or_none, none_applies, defined}

some_none : {A : Type 0} (a : A) → Some a ≡ None → ⊥
some_none a e = cc

map_none : {A : Type 0} (f : A → Verdict) (o : Option A) → option_map f o ≡ None → o ≡ None
map_none f None e = refl
map_none f (Some a) e = absurd (some_none (f a) e)

-- where no item has a fault, this one has none
each_none : (test : Entity → Option Verdict) (items : List Entity) (item : Entity) (k : ℕ) → first_given test items ≡ None → k < length items → get_or items k item ≡ item → test item ≡ None
each_none test [] item k none l e = absurd (omega arith)
each_none test (x ∷ items) item zero none l e = subst (λ y. test y ≡ None) e (or_none (test x) (first_given test items) none).0
each_none test (x ∷ items) item (suc k) none l e = each_none test items item k (or_none (test x) (first_given test items) none).1 (omega arith) e

-- ---- classes

classes : List Class
classes = Opaque ∷ Project ∷ Workplan ∷ Parallel ∷ NonSequential ∷ Selective ∷ IfStatement ∷ WhileStatement ∷ Assignment ∷ SetMark ∷ WaitForMark ∷ MachiningWorkingstep ∷ Note ∷ Channel ∷ NcVariable ∷ NcConstant ∷ ComparisonEqual ∷ ComparisonNotEqual ∷ ComparisonGreater ∷ ComparisonGreaterEqual ∷ ComparisonLess ∷ ComparisonLessEqual ∷ AndExpression ∷ OrExpression ∷ XorExpression ∷ NotExpression ∷ NcSum ∷ NcDifference ∷ NcProduct ∷ RoundHole ∷ PlanarFace ∷ ClosedPocket ∷ LinearPath ∷ LinearProfile ∷ RectangularClosedProfile ∷ GeneralClosedProfile ∷ Polyline ∷ Plane ∷ Axis2Placement3d ∷ CartesianPoint ∷ Direction ∷ Drilling ∷ CenterDrilling ∷ Reaming ∷ Boring ∷ PlaneRoughMilling ∷ PlaneFinishMilling ∷ BottomAndSideRoughMilling ∷ BottomAndSideFinishMilling ∷ Bidirectional ∷ Unidirectional ∷ MillingTechnology ∷ MillingCuttingTool ∷ Endmill ∷ TaperedEndmill ∷ BallEndmill ∷ Facemill ∷ TwistDrill ∷ MillingToolDimension ∷ TolerancedLengthMeasure ∷ NumericParameter ∷ Opaque ∷ []

class_at_code : (class : Class) → get_or classes (code_of class) Opaque ≡ class
unfolding classes
class_at_code Project = refl
class_at_code _ = refl

-- classes of one code are one class
same_class : (a b : Class) → (code_of a == code_of b) ≡ true → a ≡ b
same_class a b e =
    let f : code_of a ≡ code_of b = grind (arith, nat_tests) in
    sym (class_at_code a) ∙ ap (λ k. get_or classes k Opaque) f ∙ class_at_code b

not_project : (class : Class) → is_of_program class ≡ false → (code_of class == 1) ≡ false
not_project Project h = absurd (no_way (sym h))
not_project _ h = refl

-- ---- the first rule: what is replaced, and what is new

pub and_both : (a b : Bool) → (a && b) ≡ true → (a ≡ true) × (b ≡ true)
and_both true true h = (refl, refl)
and_both true false h = absurd (no_way h)
and_both false b h = absurd (no_way h)

-- an item may take the place of an entity that may be put again, and of its class alone
replaced_by : (old item : Entity) → class_fault_by (Some old) item ≡ None → (is_replaceable old.class ≡ true) × ((code_of old.class == code_of item.class) ≡ true)
replaced_by old item e = and_both (is_replaceable old.class) (code_of old.class == code_of item.class) (go (is_replaceable old.class && code_of old.class == code_of item.class) e)
  where
    go : (b : Bool) → (if b then None else Some (code_of old.class)) ≡ None → b ≡ true
    go true f = refl
    go false f = absurd (some_none (code_of old.class) f)

replaced : (o : Option Entity) (old item : Entity) → o ≡ Some old → class_fault_by o item ≡ None → (is_replaceable old.class ≡ true) × ((code_of old.class == code_of item.class) ≡ true)
replaced o old item s e = replaced_by old item (subst (λ x. class_fault_by x item ≡ None) s e)

new_by : (o : Option Entity) (item : Entity) → o ≡ None → class_fault_by o item ≡ None → is_project item ≡ false
new_by o item s e = go (is_of_program item.class) refl (subst (λ x. class_fault_by x item ≡ None) s e)
  where
    go : (b : Bool) → is_of_program item.class ≡ b → (if b then Some (code_of item.class) else None) ≡ None → is_project item ≡ false
    go true p f = absurd (some_none (code_of item.class) f)
    go false p f = not_project item.class p

class_none : (store items : List Entity) (item : Entity) → j1 store items ≡ None → Contains items item → class_fault_by (entity_at store item.number) item ≡ None
class_none store items item none c = map_none (λ class. Refused 1 item.number class) (class_fault_by (entity_at store item.number) item) (each_none (class_fault (entity_at store)) items item c.0 none c.1 c.2)

-- ---- the third rule: each used reference is of its position's target

each_passes : (test : ℕ → Bool) (xs : List ℕ) (r k : ℕ) → list_all test xs ≡ true → k < length xs → get_or xs k r ≡ r → test r ≡ true
each_passes test [] r k h l e = absurd (omega arith)
each_passes test (x ∷ xs) r zero h l e = subst (λ y. test y ≡ true) e (and_both (test x) (list_all test xs) h).0
each_passes test (x ∷ xs) r (suc k) h l e = each_passes test xs r k (and_both (test x) (list_all test xs) h).1 (omega arith) e

none_then : (b : Bool) (rest : Option ℕ) (p : ℕ) → (if b then rest else Some p) ≡ None → (b ≡ true) × (rest ≡ None)
none_then true rest p h = (refl, h)
none_then false rest p h = absurd (some_none p h)

all_right : (entities : ℕ → Option Entity) (used : List UsedPosition) (fields : List Field) (p : ℕ) (t : Target) (f : Field)
    → wrong_among entities used fields ≡ None → target_among used p ≡ Some t → field_at used fields p ≡ Some f → list_all (is_of_target entities t) (references_of f) ≡ true
all_right entities [] fields p t f w u h = absurd (some_none t (sym u))
all_right entities (used ∷ others) [] p t f w u h = absurd (some_none f (sym h))
all_right entities (used ∷ others) (field ∷ fields) p t f w u h =
    let both = none_then (list_all (is_of_target entities used.target) (references_of field)) (wrong_among entities others fields) used.position w in
    go (used.position == p) u h both.0 (all_right entities others fields p t f both.1)
  where
    go : (b : Bool) → (if b then Some used.target else target_among others p) ≡ Some t → (if b then Some field else field_at others fields p) ≡ Some f
        → list_all (is_of_target entities used.target) (references_of field) ≡ true
        → (target_among others p ≡ Some t → field_at others fields p ≡ Some f → list_all (is_of_target entities t) (references_of f) ≡ true)
        → list_all (is_of_target entities t) (references_of f) ≡ true
    go true v g right rest =
        let same_target : used.target ≡ t = cc in
        let same_field : field ≡ f = cc in
        subst (λ x. list_all (is_of_target entities x) (references_of f) ≡ true) same_target
        (subst (λ x. list_all (is_of_target entities used.target) (references_of x) ≡ true) same_field right)
    go false v g right rest = rest v g

of_target : (t : Target) (o : Option Entity) → option_map_or (λ entity. accepts t entity.class) o false ≡ true → (other : Entity) × (o ≡ Some other) × IsTrue (accepts t other.class)
of_target t None h = absurd (no_way h)
of_target t (Some other) h = (other, refl, h)

-- where the third rule doesn't apply, the references of each item resolve
pub resolves : (entities : ℕ → Option Entity) (items : List Entity) → first_given (kind_fault entities) items ≡ None → (item : Entity) → Contains items item → ResolvesIn entities item
resolves entities items none item c p r target field t f d =
    let no_wrong = map_none (λ position. Refused 3 item.number position) (wrong_among entities (used_of item.class) item.fields) (each_none (kind_fault entities) items item c.0 none c.1 c.2) in
    of_target target (entities r) (each_passes (is_of_target entities target) (references_of field) r d.0 (all_right entities (used_of item.class) item.fields p target field no_wrong t f) d.1 d.2)

pub can_put : (store : List Entity) (steps sent : List ℕ) (items : List Entity) → judge store steps sent items ≡ Accepted → CanPut store items
can_put store steps sent items e =
    let none = none_applies store steps sent items e in
    record {
      resolved = resolves (after store items) items none.2;
      kept = λ item old c s. sym (same_class old.class item.class (replaced (entity_at store item.number) old item s (class_none store items item none.0 c)).1);
      no_project = λ item c s. new_by (entity_at store item.number) item s (class_none store items item none.0 c);
    }

-- ---- what stands under a number with the items put

-- what stood there, or an item of that number
abbrev Stands : (ℕ → Option Entity) → List Entity → ℕ → Type 0
Stands entities items n = (put_all entities items n ≡ entities n) ⊎ ((item : Entity) × Contains items item × (item.number ≡ n) × (put_all entities items n ≡ Some item))

stands : (entities : ℕ → Option Entity) (items : List Entity) (n : ℕ) → Stands entities items n
stands entities [] n = inl refl
stands entities (x ∷ items) n = elim (stands (put entities x) items n) [ inl e ↦ go (n == x.number) refl e | inr s ↦ inr (s.0, more s.0 s.1, s.2, s.3) ]
  where
    more : (item : Entity) → Contains items item → Contains (x ∷ items) item
    more item c = (suc c.0, let l = c.1 in omega arith, c.2)

    go : (b : Bool) → (n == x.number) ≡ b → put_all (put entities x) items n ≡ put entities x n → Stands entities (x ∷ items) n
    go true q e = inr (x, (0, omega arith, refl), (let s : x.number ≡ n = grind (arith, nat_tests) in s), e ∙ rw q refl)
    go false q e = inl (e ∙ rw q refl)

-- an entity that no edit may put again stays
stays_at : (store items : List Entity) (n : ℕ) (old : Entity) → j1 store items ≡ None → entity_at store n ≡ Some old → is_replaceable old.class ≡ false → after store items n ≡ entity_at store n
stays_at store items n old none s r = elim (stands (entity_at store) items n) [
  | inl e ↦ e
  | inr i ↦ absurd (no_way (sym r ∙ (replaced (entity_at store i.0.number) old i.0 (subst (λ k. entity_at store k ≡ Some old) (sym i.2) s) (class_none store items i.0 none i.1)).0))
]

-- ---- workingsteps

abbrev is_a_step : Option Entity → Bool
is_a_step o = option_map_or (is_of MachiningWorkingstep) o false

step_by : (o : Option Entity) (item : Entity) → is_a_step o ≡ true → class_fault_by o item ≡ None → is_a_step (Some item) ≡ true
step_by None item w c = absurd (no_way w)
step_by (Some old) item w c = let same : old.class ≡ item.class = same_class old.class item.class (replaced_by old item c).1 in subst (λ class. (code_of class == code_of MachiningWorkingstep) ≡ true) same w

-- a workingstep stays one: what takes its place is of its class
step_stays : (store items : List Entity) (n : ℕ) → j1 store items ≡ None → is_workingstep (entity_at store) n ≡ true → is_workingstep (after store items) n ≡ true
step_stays store items n none w = elim (stands (entity_at store) items n) [
  | inl e ↦ subst (λ o. is_a_step o ≡ true) (sym e) w
  | inr i ↦
      subst (λ o. is_a_step o ≡ true) (sym i.3)
      (step_by (entity_at store i.0.number) i.0 (subst (λ k. is_a_step (entity_at store k) ≡ true) (sym i.2) w) (class_none store items i.0 none i.1))
]

each_member : (test : ℕ → Bool) (ns : List ℕ) (n : ℕ) → list_all test ns ≡ true → has ns n ≡ true → test n ≡ true
each_member test [] n h i = absurd (no_way i)
each_member test (m ∷ ns) n h i =
    let both = and_both (test m) (list_all test ns) h in
    go (m == n) refl i both.0 (each_member test ns n both.1)
  where
    go : (b : Bool) → (m == n) ≡ b → (b || has ns n) ≡ true → test m ≡ true → (has ns n ≡ true → test n ≡ true) → test n ≡ true
    go true q j first rec = let s : m ≡ n = grind (arith, nat_tests) in subst (λ k. test k ≡ true) s first
    go false q j first rec = rec j

all_members : (test : ℕ → Bool) (ns : List ℕ) → ((n : ℕ) → has ns n ≡ true → test n ≡ true) → list_all test ns ≡ true
all_members test [] h = refl
all_members test (n ∷ ns) h = rw (h n own) (all_members test ns (λ m i. h m (more (n == m) m i)))
  where
    own : has (n ∷ ns) n ≡ true
    own = let same : (n == n) ≡ true = grind (arith, nat_tests) in rw same refl

    more : (b : Bool) (m : ℕ) → has ns m ≡ true → (b || has ns m) ≡ true
    more true m i = refl
    more false m i = i

-- those of the workingsteps that are looked at are workingsteps of the store with the edit put
pub steps_stay : (store items : List Entity) (steps ns : List ℕ) → j1 store items ≡ None → list_all (is_workingstep (entity_at store)) steps ≡ true → ((n : ℕ) → has ns n ≡ true → has steps n ≡ true)
    → list_all (is_workingstep (after store items)) ns ≡ true
steps_stay store items steps ns none all sub = all_members (is_workingstep (after store items)) ns (λ n i. step_stays store items n none (each_member (is_workingstep (entity_at store)) steps n all (sub n i)))

-- ---- the store as a list

-- a store as a list finds what was put into it as a map
abbrev Finds : Type 0
Finds = (store items : List Entity) (n : ℕ) → entity_at (put_items store items) n ≡ put_all (entity_at store) items n

pub step_kept : Finds → (store : List Entity) (steps sent : List ℕ) (items : List Entity) (n : ℕ) → judge store steps sent items ≡ Accepted → is_workingstep (entity_at store) n ≡ true → is_workingstep (entity_at (put_items store items)) n ≡ true
step_kept finds store steps sent items n e w = subst (λ o. is_a_step o ≡ true) (sym (finds store items n)) (step_stays store items n (none_applies store steps sent items e).0 w)

pub steps_kept : Finds → (store : List Entity) (steps sent : List ℕ) (items : List Entity) → judge store steps sent items ≡ Accepted → list_all (is_workingstep (entity_at store)) steps ≡ true → list_all (is_workingstep (entity_at (put_items store items))) steps ≡ true
steps_kept finds store steps sent items e all =
    all_members (is_workingstep (entity_at (put_items store items))) steps (λ n i. step_kept finds store steps sent items n e (each_member (is_workingstep (entity_at store)) steps n all i))

pub program_kept : Finds → (store : List Entity) (steps sent : List ℕ) (items : List Entity) (n : ℕ) (old : Entity) → judge store steps sent items ≡ Accepted → entity_at store n ≡ Some old → is_replaceable old.class ≡ false
    → entity_at (put_items store items) n ≡ entity_at store n
program_kept finds store steps sent items n old e s r = finds store items n ∙ stays_at store items n old (none_applies store steps sent items e).0 s r

-- ---- definitions

ok_by : (d : Result Def DefFault) → code_in d ≡ None → is_ok d ≡ true
ok_by (Ok def) e = refl
ok_by (Err fault) e = absurd (some_none (fault_code fault) e)

abbrev Local : Type 0
Local = (e f : ℕ → Option Entity) (n : ℕ) → Agree e f n → def_of e n ≡ def_of f n

abbrev Unreached : Type 0
Unreached = (store items : List Entity) (n : ℕ) → is_reached store items n ≡ false → def_of (after store items) n ≡ def_of (entity_at store) n

-- a step keeps its definition where it isn't reached, and where it is has one by the fifth rule
defined_after : Unreached → (store : List Entity) (steps sent : List ℕ) (items : List Entity) (n : ℕ) → judge store steps sent items ≡ Accepted → has steps n ≡ true → has_def store n ≡ true → is_ok (def_of (after store items) n) ≡ true
defined_after unreached store steps sent items n e i d = go (is_reached store items n) refl
  where
    go : (b : Bool) → is_reached store items n ≡ b → is_ok (def_of (after store items) n) ≡ true
    go true r = ok_by (def_of (after store items) n) (defined store steps sent items n e i r)
    go false r = subst (λ x. is_ok x ≡ true) (sym (unreached store items n r)) d

pub def_kept : Finds → Local → Unreached → (store : List Entity) (steps sent : List ℕ) (items : List Entity) (n : ℕ) → judge store steps sent items ≡ Accepted → has steps n ≡ true → has_def store n ≡ true → has_def (put_items store items) n ≡ true
def_kept finds local unreached store steps sent items n e i d =
    subst (λ x. is_ok x ≡ true) (sym (local (entity_at (put_items store items)) (after store items) n (λ m r. finds store items m)))
    (defined_after unreached store steps sent items n e i d)

pub defs_kept : Finds → Local → Unreached → (store : List Entity) (steps sent : List ℕ) (items : List Entity) → judge store steps sent items ≡ Accepted → list_all (has_def store) steps ≡ true → list_all (has_def (put_items store items)) steps ≡ true
defs_kept finds local unreached store steps sent items e all =
    all_members (has_def (put_items store items)) steps (λ n i. def_kept finds local unreached store steps sent items n e i (each_member (has_def store) steps n all i))
