-- A store with items put that may be put is a store.
use Rattle.std.proofs.Common.{◌≡◌, ℕ, suc, ◌==◌, ◌&&◌, ◌||◌, nat_eq, Bool, true, false, cond, List, [], ◌∷◌, length, Option, Some, None, refl, sym, ap, subst, ◌∙◌, arith}
use Rattle.std.specs.Prelude.{slice_get, Contains, IsTrue, not}
use Rattle.std.specs.Option.{option_map_or}
use Rattle.std.specs.List.{IsDistinct, AllByRecursion, list_all}
use Rattle.std.proofs.lemmas.Bool.Decides.{nat_tests}
use Rattle.entity_types.specs.declared.class.Class.{Class}
use Rattle.entity_types.specs.declared.class.Class.TheVariants.{Project}
use Rattle.entity_types.specs.declared.entity.Entity.{Entity}
use Rattle.entity_types.specs.declared.field.Field.{Field}
use Rattle.entity_types.specs.declared.table.Target.{Target}
use Rattle.entity_types.specs.declared.table.UsedPosition.{UsedPosition}
use Rattle.entity_types.specs.Class.{code_of}
use Rattle.entity_types.specs.Table.{used_of}
use Rattle.entity_types.specs.Target.{accepts}
use Rattle.entity_types.specs.Entity.{is_among, field_at, references_of}
use Rattle.project_store.specs.Entities.{numbers_of, entity_at}
use Rattle.project_store.specs.Build.{is_project, projects_of, count_fault, fault_of, is_of_target, wrong_among, wrong_position, least_fault}
use Rattle.project_store.specs.Put.{put, put_all, put_in, put_items}
use Rattle.project_store.specs.Putting.{ResolvesIn, CanPut}
use Rattle.project_store.specs.Resolved.{target_among}
use Rattle.project_store.proofs.PlaceLemmas.{found_there}
use Rattle.project_store.proofs.PuttingLemmas.{no_way, found_put, found_all}
use Rattle.project_store.proofs.MissingLemmas.{no_fault}
use Rattle.project_store.proofs.Sound.{resolved, one_project, and_right}

first_in : (x : Entity) (xs : List Entity) → Contains (x ∷ xs) x
first_in x xs = (0, omega arith, refl)

rest_in : (x : Entity) (xs : List Entity) (y : Entity) → Contains xs y → Contains (x ∷ xs) y
rest_in x xs y c = (suc c.0, omega (arith, c.1), c.2)

-- ---- the one project

-- there is a project of this number
abbrev project_at : List Entity → ℕ → Bool
project_at es n = option_map_or is_project (entity_at es n) false

-- the item is a project exactly where it takes the place of one
abbrev Keeps : List Entity → Entity → Type 0
Keeps es x = is_project x ≡ project_at es x.number

one_more : (a b : Bool) (x y : Entity) (ps qs : List Entity) → a ≡ b → length ps ≡ length qs → length (cond a (x ∷ ps) ps) ≡ length (cond b (y ∷ qs) qs)
one_more true true x y ps qs e h = ap suc h
one_more true false x y ps qs e h = absurd (no_way (sym e))
one_more false true x y ps qs e h = absurd (no_way e)
one_more false false x y ps qs e h = h

as_many : (es : List Entity) (x : Entity) → Keeps es x → length (projects_of (put_in es x)) ≡ length (projects_of es)
as_many [] x keeps = rw keeps refl
as_many (e ∷ es) x keeps = go (x.number == e.number) refl (as_many es x)
  where
    go : (b : Bool) → (x.number == e.number) ≡ b → (Keeps es x → length (projects_of (put_in es x)) ≡ length (projects_of es))
        → length (projects_of (put_in (e ∷ es) x)) ≡ length (projects_of (e ∷ es))
    go true h rest =
        let f : (e.number == x.number) ≡ true = grind (arith, nat_tests) in
        rw f (one_more (is_project x) (is_project e) x e (projects_of es) (projects_of es) (rw h at keeps) refl)
    go false h rest =
        let f : (e.number == x.number) ≡ false = grind (arith, nat_tests) in
        rw f (one_more (is_project e) (is_project e) e e (projects_of (put_in es x)) (projects_of es) refl (rest (rw h at keeps)))

still_keeps : (es : List Entity) (x y : Entity) → Keeps es x → Keeps es y → Keeps (put_in es x) y
still_keeps es x y keeps kept = rw (found_put es x y.number) (go (y.number == x.number) refl)
  where
    go : (b : Bool) → (y.number == x.number) ≡ b → is_project y ≡ option_map_or is_project (cond b (Some x) (entity_at es y.number)) false
    go true h =
        let same : y.number ≡ x.number = grind (arith, nat_tests) in
        kept ∙ ap (project_at es) same ∙ sym keeps
    go false h = kept

as_many_all : (es items : List Entity) → ((y : Entity) → Contains items y → Keeps es y) → length (projects_of (put_items es items)) ≡ length (projects_of es)
as_many_all es [] keeps = refl
as_many_all es (x ∷ items) keeps =
    as_many_all (put_in es x) items (λ y c. still_keeps es x y (keeps x (first_in x items)) (keeps y (rest_in x items y c))) ∙ as_many es x (keeps x (first_in x items))

one_by_length : (ps qs : List Entity) → length ps ≡ length qs → count_fault qs ≡ None → count_fault ps ≡ None
one_by_length [] [] h one = one
one_by_length [] (q ∷ qs) h one = absurd (omega (arith, h))
one_by_length (p ∷ ps) [] h one = absurd (omega (arith, h))
one_by_length (p ∷ []) (q ∷ qs) h one = refl
one_by_length (p ∷ r ∷ ps) (q ∷ []) h one = absurd (omega (arith, h))
one_by_length (p ∷ r ∷ ps) (q ∷ s ∷ qs) h one = absurd (let e : Some _ ≡ None = one in cc)

keeps_one : (store items : List Entity) → CanPut store items → (y : Entity) → Contains items y → Keeps store y
keeps_one store items can y c = go (entity_at store y.number) refl
  where
    go : (o : Option Entity) → entity_at store y.number ≡ o → is_project y ≡ option_map_or is_project (entity_at store y.number) false
    go None e = rw e (can.no_project y c e)
    go (Some old) e = rw e (ap (λ (k : Class). code_of k == 1) (can.kept y old c e))

-- ---- the references

-- no two of these are one position
abbrev are_apart : List UsedPosition → Bool
are_apart [] = true
are_apart (u ∷ us) = not (is_among u.position us) && are_apart us

table_apart : (class : Class) → are_apart (used_of class) ≡ true
table_apart Project = refl
table_apart _ = refl

apart_first : (u : UsedPosition) (us : List UsedPosition) → are_apart (u ∷ us) ≡ true → is_among u.position us ≡ false
apart_first u us h = go (is_among u.position us) refl
  where
    go : (b : Bool) → is_among u.position us ≡ b → is_among u.position us ≡ false
    go false e = e
    go true e = absurd (no_way (rw e at h))

apart_rest : (u : UsedPosition) (us : List UsedPosition) → are_apart (u ∷ us) ≡ true → are_apart us ≡ true
apart_rest u us h = and_right (not (is_among u.position us)) (are_apart us) h

other_position : (us : List UsedPosition) (q p : ℕ) (t : Target) → is_among q us ≡ false → target_among us p ≡ Some t → (q == p) ≡ false
other_position [] q p t none some = absurd (cc)
other_position (u ∷ us) q p t none some = go (u.position == q) (u.position == p) refl refl (other_position us q p t)
  where
    go : (a b : Bool) → (u.position == q) ≡ a → (u.position == p) ≡ b → (is_among q us ≡ false → target_among us p ≡ Some t → (q == p) ≡ false) → (q == p) ≡ false
    go true b ea eb rest = absurd (no_way (let f : (true || is_among q us) ≡ false = rw ea at none in sym f))
    go false true ea eb rest = grind (arith, nat_tests)
    go false false ea eb rest = rest (rw ea at none) (rw eb at some)

-- the reference names one of these entities, of the target
abbrev IsOf : List Entity → Target → ℕ → Type 0
IsOf all t r = (other : Entity) × (entity_at all r ≡ Some other) × IsTrue (accepts t other.class)

is_of : (all : List Entity) (t : Target) (r : ℕ) → IsOf all t r → is_of_target all t r ≡ true
is_of all t r of = rw of.1 of.2

all_of : (all : List Entity) (t : Target) (rs : List ℕ) → ((r : ℕ) → Contains rs r → IsOf all t r) → list_all (is_of_target all t) rs ≡ true
all_of all t [] h = refl
all_of all t (r ∷ rs) h =
    let here : is_of_target all t r ≡ true = is_of all t r (h r (0, omega arith, refl)) in
    rw here (all_of all t rs (λ s c. h s (suc c.0, omega (arith, c.1), c.2)))

-- each position of these whose field refers to something refers to its target
abbrev AreRight : List Entity → List UsedPosition → List Field → Type 0
AreRight all us fs = (p r : ℕ) (t : Target) (f : Field) → target_among us p ≡ Some t → field_at us fs p ≡ Some f → Contains (references_of f) r → IsOf all t r

itself : (n : ℕ) → (n == n) ≡ true
itself n = grind (arith, nat_tests)

none_wrong : (all : List Entity) (us : List UsedPosition) (fs : List Field) → are_apart us ≡ true → AreRight all us fs → wrong_among all us fs ≡ None
none_wrong all [] fs apart right = refl
none_wrong all (u ∷ us) [] apart right = refl
none_wrong all (u ∷ us) (f ∷ fs) apart right =
    let here : list_all (is_of_target all u.target) (references_of f) ≡ true =
    all_of all u.target (references_of f) (λ r c. right u.position r u.target f (rw (itself u.position) refl) (rw (itself u.position) refl) c) in
    rw here
    (none_wrong all us fs (apart_rest u us apart) (λ p r t g at field c.
    let other : (u.position == p) ≡ false = other_position us u.position p t (apart_first u us apart) at in
    right p r t g (rw other at) (rw other field) c))

no_wrong_position : (all : List Entity) (e : Entity) → ResolvesIn (entity_at all) e → wrong_position all e ≡ None
no_wrong_position all e right = none_wrong all (used_of e.class) e.fields (table_apart e.class) (λ p r t f at field c. right p r t f at field c)

none_least : (all es : List Entity) → AllByRecursion (λ e. wrong_position all e ≡ None) es → least_fault (wrong_position all) es ≡ None
none_least all [] h = refl
none_least all (e ∷ es) h = rw (h.0, none_least all es h.1) refl

module _ (P : Entity → Type 0) where
  all_put_in : (es : List Entity) (x : Entity) → AllByRecursion P es → P x → AllByRecursion P (put_in es x)
  all_put_in [] x all one = (one, tt)
  all_put_in (e ∷ es) x all one = go (e.number == x.number) refl (all_put_in es x all.1 one)
    where
      go : (b : Bool) → (e.number == x.number) ≡ b → AllByRecursion P (put_in es x) → AllByRecursion P (put_in (e ∷ es) x)
      go true h rest = rw h (one, all.1)
      go false h rest = rw h (all.0, rest)

  all_put : (es items : List Entity) → AllByRecursion P es → ((x : Entity) → Contains items x → P x) → AllByRecursion P (put_items es items)
  all_put es [] all h = all
  all_put es (x ∷ items) all h = all_put (put_in es x) items (all_put_in es x all (h x (first_in x items))) (λ y c. h y (rest_in x items y c))

  all_at : (es : List Entity) → ((j : ℕ) (e : Entity) → slice_get es j ≡ Some e → P e) → AllByRecursion P es
  all_at [] h = tt
  all_at (e ∷ es) h = (h 0 e refl, all_at es (λ j. h (suc j)))

-- an entity, with items put, is one of the class that it was of
put_class : (entities : ℕ → Option Entity) (items : List Entity) (r : ℕ) (class : Class) (other : Entity) → entities r ≡ Some other → other.class ≡ class
    → ((x : Entity) → Contains items x → x.number ≡ r → x.class ≡ class) → (now : Entity) × (put_all entities items r ≡ Some now) × (now.class ≡ class)
put_class entities [] r class other there is same = (other, there, is)
put_class entities (x ∷ items) r class other there is same = go (r == x.number) refl (λ o at k. put_class (put entities x) items r class o at k (λ y c. same y (rest_in x items y c)))
  where
    go : (b : Bool) → (r == x.number) ≡ b
        → ((o : Entity) → put entities x r ≡ Some o → o.class ≡ class → (now : Entity) × (put_all (put entities x) items r ≡ Some now) × (now.class ≡ class))
        → (now : Entity) × (put_all (put entities x) items r ≡ Some now) × (now.class ≡ class)
    go true h rest = let number : x.number ≡ r = grind (arith, nat_tests) in rest x (rw h refl) (same x (first_in x items) number)
    go false h rest = rest other (rw h there) is

still_of : (store items : List Entity) (t : Target) (r : ℕ) → CanPut store items → IsOf store t r → IsOf (put_items store items) t r
still_of store items t r can of =
    let same : (x : Entity) → Contains items x → x.number ≡ r → x.class ≡ of.0.class = λ x c number. can.kept x of.0 c (ap (entity_at store) number ∙ of.1) in
    let now = put_class (entity_at store) items r of.0.class of.0 of.1 refl same in
    (now.0, found_all store items r ∙ now.1, subst (λ (k : Class). IsTrue (accepts t k)) (sym now.2) of.2)

old_right : (store items : List Entity) → fault_of store ≡ None → IsDistinct nat_eq (numbers_of store) → CanPut store items → (j : ℕ) (e : Entity) → slice_get store j ≡ Some e
    → ResolvesIn (entity_at (put_items store items)) e
old_right store items none distinct can j e there p r t f at field c =
    still_of store items t r can (resolved store none e.number p r e t f (found_there store j e distinct there) at field c)

new_right : (store items : List Entity) → CanPut store items → (x : Entity) → Contains items x → ResolvesIn (entity_at (put_items store items)) x
new_right store items can x among p r t f at field c =
    let of = can.resolved x among p r t f at field c in
    (of.0, found_all store items r ∙ of.1, of.2)

-- with items put that may be put a list without a fault has none
pub no_fault_put : (store items : List Entity) → fault_of store ≡ None → IsDistinct nat_eq (numbers_of store) → CanPut store items → fault_of (put_items store items) ≡ None
no_fault_put store items none distinct can =
    let all : List Entity = put_items store items in
    let one : count_fault (projects_of all) ≡ None =
    one_by_length (projects_of all) (projects_of store) (as_many_all store items (keeps_one store items can)) (one_project store none) in
    let right : AllByRecursion (λ e. wrong_position all e ≡ None) all =
    all_put (λ e. wrong_position all e ≡ None) store items
    (all_at (λ e. wrong_position all e ≡ None) store (λ j e there. no_wrong_position all e (old_right store items none distinct can j e there)))
    (λ x among. no_wrong_position all x (new_right store items can x among)) in
    no_fault all one (none_least all all right)
