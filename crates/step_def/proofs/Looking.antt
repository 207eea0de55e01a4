-- What is looked up from a step is the same in stores that agree on what it reaches.
use Rattle.std.specs.Prelude.{◌≡◌, ◌<◌, ℕ, ℤ, Bool, true, false, ◌==◌, if◌then◌else◌, List, [], ◌∷◌, length, get_or, flat_map, Option, Some, None, option_map, option_and_then, Result, Ok, Err, Contains}
use Rattle.std.proofs.Common.{refl, sym, ap, subst, ◌∙◌, arith}
use Rattle.std.proofs.Props.{props}
use Rattle.std.proofs.lemmas.List.Elements.{Contains-append_left, Contains-append_right, Contains-push}
use Rattle.entity_types.specs.declared.class.Class.{Class}
use Rattle.entity_types.specs.declared.class.Class.TheVariants.{RoundHole, PlanarFace, ClosedPocket, LinearPath, LinearProfile, RectangularClosedProfile, GeneralClosedProfile, Polyline, Plane, Axis2Placement3d, CartesianPoint, Direction, MillingTechnology, MillingCuttingTool, MillingToolDimension}
use Rattle.entity_types.specs.declared.table.UsedPosition.{UsedPosition}
use Rattle.entity_types.specs.declared.field.Field.{Field}
use Rattle.entity_types.specs.declared.field.Field.TheVariants.{Absent, Present, Ref, Value, Refs, Values}
use Rattle.entity_types.specs.declared.entity.Entity.{Entity}
use Rattle.entity_types.specs.Table.{used_of}
use Rattle.entity_types.specs.Entity.{field_at, field_of, references_of, uses_of}
use Rattle.project_store.specs.Reach.{Reaches, root, used}
use Rattle.step_def.specs.declared.fault.DefFault.{DefFault}
use Rattle.step_def.specs.Steps.{◌>>=◌}
use Rattle.step_def.specs.Lookup.{referred, found, is_of, of_class, instance_at, class_at, is_absent, free, coordinates_in, coordinates_at, placement_at, plane_at, measure_of, length_in, quantity, length_at, free_length_at, kind_at, hole_part, face_part, corner_at, points_alone, four_corners, five_corners, corners_at, corners_in, contour_of, outline_of, pocket_part, feature_part_of, technology_of, is_drilling, is_facing, is_pocketing, is_tool_body, is_strategy, diameter_at, strategy_of, facing_part, pocketing_part, operation_part_of, lookup_of}
use Rattle.path_blocks.specs.Numbers.{Numbers}
use Rattle.step_def.specs.Numbers.{numbers_at}
use Rattle.step_def.specs.Ranges.{KeepsRanges, def_with}
use Rattle.step_def.specs.Sound.{keeps_ranges}
use Rattle.step_def.specs.DefOf.{with_ranges, def_of}
use Rattle.path_blocks.specs.declared.def.Def.{Def}
use Rattle.step_def.specs.Agree.{Agree}

-- ---- what stands at a position is used

nothing_in : (m : ℕ) → Contains [] m → ⊥
nothing_in m (k, l, e) = omega (arith, l)

among_fields : (us : List UsedPosition) (fs : List Field) (position : ℕ) (f : Field) (r : ℕ) → field_at us fs position ≡ Some f → Contains (references_of f) r → Contains (flat_map references_of fs) r
among_fields [] fs position f r e c = absurd (none_some f e)
  where
    none_some : (f : Field) → None ≡ Some f → ⊥
    none_some f e = cc
among_fields (u ∷ us) [] position f r e c = absurd (none_some f e)
  where
    none_some : (f : Field) → None ≡ Some f → ⊥
    none_some f e = cc
among_fields (u ∷ us) (x ∷ fs) position f r e c = go (u.position == position) refl (among_fields us fs position f r)
  where
    go : (b : Bool) → (u.position == position) ≡ b → (field_at us fs position ≡ Some f → Contains (references_of f) r → Contains (flat_map references_of fs) r) → Contains (flat_map references_of (x ∷ fs)) r
    go true q rec =
        let h : Some x ≡ Some f = rw q at e in
        let s : x ≡ f = cc in
        Contains-append_left (references_of x) (flat_map references_of fs) r (subst (λ (y : Field). Contains (references_of y) r) (sym s) c)
    go false q rec = Contains-append_right (references_of x) (flat_map references_of fs) r (rec (rw q at e) c)

uses_field : (entity : Entity) (position : ℕ) (f : Field) (r : ℕ) → field_of entity position ≡ Some f → Contains (references_of f) r → Contains (uses_of entity) r
uses_field entity position f r e c = among_fields (used_of entity.class) entity.fields position f r e c

one_in : (n : ℕ) → Contains (n ∷ []) n
one_in n = Contains-push [] n

-- ---- one look-up after the other

bind_same : {A B : Type 0} (r s : Result A DefFault) (f g : A → Result B DefFault) → r ≡ s → ((x : A) → r ≡ Ok x → f x ≡ g x) → (r >>= f) ≡ (s >>= g)
bind_same (Ok x) s f g e h = h x refl ∙ ap (λ t. t >>= g) e
bind_same (Err d) s f g e h = ap (λ t. t >>= g) e

found_some : {A : Type 0} (n position : ℕ) (o : Option A) (x : A) → found n position o ≡ Ok x → o ≡ Some x
found_some n position (Some y) x e = let s : y ≡ x = cc in ap (λ z. Some z) s
found_some n position None x e = absurd (cc)

-- ---- what is looked up

-- the instance is reached, and there
abbrev pub At : (ℕ → Option Entity) → ℕ → ℕ × Entity → Type 0
At e n x = Reaches e n x.0 × (e x.0 ≡ Some x.1)

one_at : (e : ℕ → Option Entity) (n : ℕ) (x : ℕ × Entity) (position r : ℕ) (f : Field) → At e n x → field_of x.1 position ≡ Some f → Contains (references_of f) r → Reaches e n r
one_at e n x position r f at is c = used x.0 r x.1 at.0 at.1 (uses_field x.1 position f r is c)

referred_same : (e f : ℕ → Option Entity) (n : ℕ) → Agree e f n → (x : ℕ × Entity) (position : ℕ) → At e n x → (o : Option Field) → field_of x.1 position ≡ o → referred e o ≡ referred f o
referred_same e f n agree x position at None is = refl
referred_same e f n agree x position at (Some (Ref r)) is = ap (λ (o : Option Entity). option_map (λ entity. (r, entity)) o) (agree r (one_at e n x position r (Ref r) at is (one_in r)))
referred_same e f n agree x position at (Some Absent) is = refl
referred_same e f n agree x position at (Some Present) is = refl
referred_same e f n agree x position at (Some (Value z)) is = refl
referred_same e f n agree x position at (Some (Refs rs)) is = refl
referred_same e f n agree x position at (Some (Values c y z w)) is = refl

none_is : {A : Type 0} (x : A) → None ≡ Some x → ⊥
none_is x e = cc

mapped : (r : ℕ) (o : Option Entity) (y : ℕ × Entity) → option_map (λ entity. (r, entity)) o ≡ Some y → (r ≡ y.0) × (o ≡ Some y.1)
mapped r None y e = absurd (none_is y e)
mapped r (Some entity) y e = let s : (r, entity) ≡ y = cc in (ap (λ (z : ℕ × Entity). z.0) s, ap (λ (z : ℕ × Entity). Some z.1) s)

referred_at : (e : ℕ → Option Entity) (n : ℕ) (x : ℕ × Entity) (position : ℕ) → At e n x → (o : Option Field) → field_of x.1 position ≡ o → (y : ℕ × Entity) → referred e o ≡ Some y → At e n y
referred_at e n x position at None is y h = absurd (none_is y h)
referred_at e n x position at (Some (Ref r)) is y h =
    let z = mapped r (e r) y h in
    (subst (λ (m : ℕ). Reaches e n m) z.0 (one_at e n x position r (Ref r) at is (one_in r)), subst (λ (m : ℕ). e m ≡ Some y.1) z.0 z.1)
referred_at e n x position at (Some Absent) is y h = absurd (none_is y h)
referred_at e n x position at (Some Present) is y h = absurd (none_is y h)
referred_at e n x position at (Some (Value v)) is y h = absurd (none_is y h)
referred_at e n x position at (Some (Refs rs)) is y h = absurd (none_is y h)
referred_at e n x position at (Some (Values c v z w)) is y h = absurd (none_is y h)

picked : {A : Type 0} (b : Bool) (x y : A) → (if b then Some x else None) ≡ Some y → x ≡ y
picked true x y e = cc
picked false x y e = absurd (none_is y e)

tested : (test : Entity → Bool) (o : Option (ℕ × Entity)) (y : ℕ × Entity) → option_and_then (λ (instance : ℕ × Entity). if test instance.1 then Some instance else None) o ≡ Some y → o ≡ Some y
tested test None y h = absurd (none_is y h)
tested test (Some x) y h = ap (λ (z : ℕ × Entity). Some z) (picked (test x.1) x y h)

first_in : (m : ℕ) (ms : List ℕ) → Contains (m ∷ ms) m
first_in m ms = Contains-append_left (m ∷ []) ms m (Contains-push [] m)

in_list : (ms : List ℕ) (i m : ℕ) → i < length ms → get_or ms i m ≡ m → Contains ms m
in_list ms i m l e = (i, l, e)

one_keeps : (x : Numbers) (p q : KeepsRanges x) → p ≡ q
one_keeps x p q = let set : IsProp (KeepsRanges x) = hlevel props in set p q

with_same : (x y : Numbers) → x ≡ y → (p : KeepsRanges x) (q : KeepsRanges y) → def_with x p ≡ def_with y q
with_same x y same p = subst (λ (z : Numbers). (q : KeepsRanges z) → def_with x p ≡ def_with z q) same (λ q. ap (λ (k : KeepsRanges x). def_with x k) (one_keeps x p q))

ranges_same : (r s : Result Numbers DefFault) (h : (x : Numbers) → r ≡ Ok x → KeepsRanges x) (g : (x : Numbers) → s ≡ Ok x → KeepsRanges x) → r ≡ s → with_ranges r h ≡ with_ranges s g
ranges_same (Ok x) (Ok y) h g e = let same : x ≡ y = cc in ap (λ (d : Def). Ok d) (with_same x y same (h x refl) (g y refl))
ranges_same (Ok x) (Err d) h g e = absurd (cc)
ranges_same (Err c) (Ok y) h g e = absurd (cc)
ranges_same (Err c) (Err d) h g e = let same : c ≡ d = cc in ap (λ (z : DefFault). Err z) same

module _ (e f : ℕ → Option Entity) (n : ℕ) (agree : Agree e f n) where
  refers : (x : ℕ × Entity) (position : ℕ) → At e n x → referred e (field_of x.1 position) ≡ referred f (field_of x.1 position)
  refers x position at = referred_same e f n agree x position at (field_of x.1 position) refl

  instance_same : (x : ℕ × Entity) (position : ℕ) → At e n x → instance_at e x.0 x.1 position ≡ instance_at f x.0 x.1 position
  unfolding instance_at
  instance_same x position at = ap (λ (o : Option (ℕ × Entity)). found x.0 position o) (refers x position at)

  instance_is : (x : ℕ × Entity) (position : ℕ) (y : ℕ × Entity) → At e n x → instance_at e x.0 x.1 position ≡ Ok y → At e n y
  unfolding instance_at
  instance_is x position y at h = referred_at e n x position at (field_of x.1 position) refl y (found_some x.0 position (referred e (field_of x.1 position)) y h)

  class_same : (x : ℕ × Entity) (position : ℕ) (class : Class) → At e n x → class_at e x.0 x.1 position class ≡ class_at f x.0 x.1 position class
  unfolding class_at
  class_same x position class at = ap (λ (o : Option (ℕ × Entity)). found x.0 position (option_and_then (of_class class) o)) (refers x position at)

  class_is : (x : ℕ × Entity) (position : ℕ) (class : Class) (y : ℕ × Entity) → At e n x → class_at e x.0 x.1 position class ≡ Ok y → At e n y
  unfolding class_at
  class_is x position class y at h =
      referred_at e n x position at (field_of x.1 position) refl y
      (tested (is_of class) (referred e (field_of x.1 position)) y (found_some x.0 position (option_and_then (of_class class) (referred e (field_of x.1 position))) y h))

  kind_same : (test : Entity → Bool) (x : ℕ × Entity) (position : ℕ) → At e n x → kind_at test e x.0 x.1 position ≡ kind_at test f x.0 x.1 position
  unfolding kind_at
  kind_same test x position at = ap (λ (o : Option (ℕ × Entity)). found x.0 position (option_and_then (λ (instance : ℕ × Entity). if test instance.1 then Some instance else None) o)) (refers x position at)

  kind_is : (test : Entity → Bool) (x : ℕ × Entity) (position : ℕ) (y : ℕ × Entity) → At e n x → kind_at test e x.0 x.1 position ≡ Ok y → At e n y
  unfolding kind_at
  kind_is test x position y at h =
      referred_at e n x position at (field_of x.1 position) refl y
      (tested test (referred e (field_of x.1 position)) y (found_some x.0 position (option_and_then (λ (instance : ℕ × Entity). if test instance.1 then Some instance else None) (referred e (field_of x.1 position))) y h))

  coordinates_same : (x : ℕ × Entity) (position : ℕ) (class : Class) → At e n x → coordinates_at e x.0 x.1 position class ≡ coordinates_at f x.0 x.1 position class
  unfolding coordinates_at
  coordinates_same x position class at = bind_same (class_at e x.0 x.1 position class) (class_at f x.0 x.1 position class) _ _ (class_same x position class at) (λ y h. refl)

  free_same : {A : Type 0} (o : Option Field) (r s : Result A DefFault) → r ≡ s → free o r ≡ free o s
  free_same {A = A} o r s h = ap (λ (t : Result A DefFault). free o t) h

  placement_same : (x : ℕ × Entity) (position : ℕ) → At e n x → placement_at e x.0 x.1 position ≡ placement_at f x.0 x.1 position
  unfolding placement_at
  placement_same x position at =
      bind_same (class_at e x.0 x.1 position Axis2Placement3d) (class_at f x.0 x.1 position Axis2Placement3d) _ _ (class_same x position Axis2Placement3d at) (λ y h.
      let there = class_is x position Axis2Placement3d y at h in
      bind_same (coordinates_at e y.0 y.1 2 CartesianPoint) (coordinates_at f y.0 y.1 2 CartesianPoint) _ _ (coordinates_same y 2 CartesianPoint there) (λ point g.
      bind_same (free (field_of y.1 3) (coordinates_at e y.0 y.1 3 Direction)) (free (field_of y.1 3) (coordinates_at f y.0 y.1 3 Direction)) _ _
      (free_same (field_of y.1 3) (coordinates_at e y.0 y.1 3 Direction) (coordinates_at f y.0 y.1 3 Direction) (coordinates_same y 3 Direction there)) (λ axis k.
      bind_same (free (field_of y.1 4) (coordinates_at e y.0 y.1 4 Direction)) (free (field_of y.1 4) (coordinates_at f y.0 y.1 4 Direction)) _ _
      (free_same (field_of y.1 4) (coordinates_at e y.0 y.1 4 Direction) (coordinates_at f y.0 y.1 4 Direction) (coordinates_same y 4 Direction there)) (λ reference l. refl))))

  plane_same : (x : ℕ × Entity) (position : ℕ) → At e n x → plane_at e x.0 x.1 position ≡ plane_at f x.0 x.1 position
  unfolding plane_at
  plane_same x position at =
      bind_same (class_at e x.0 x.1 position Plane) (class_at f x.0 x.1 position Plane) _ _ (class_same x position Plane at) (λ y h. placement_same y 2 (class_is x position Plane y at h))

  -- ---- numbers

  length_in_same : (x : ℕ × Entity) (position : ℕ) → At e n x → (o : Option Field) → field_of x.1 position ≡ o → length_in e o ≡ length_in f o
  length_in_same x position at None is = refl
  length_in_same x position at (Some (Ref r)) is = ap (λ (o : Option Entity). option_and_then measure_of o) (agree r (one_at e n x position r (Ref r) at is (one_in r)))
  length_in_same x position at (Some Absent) is = refl
  length_in_same x position at (Some Present) is = refl
  length_in_same x position at (Some (Value z)) is = refl
  length_in_same x position at (Some (Refs rs)) is = refl
  length_in_same x position at (Some (Values c y z w)) is = refl

  length_same : (x : ℕ × Entity) (position : ℕ) → At e n x → length_at e x.0 x.1 position ≡ length_at f x.0 x.1 position
  unfolding length_at
  length_same x position at = ap (λ (o : Option ℤ). found x.0 position (option_map (quantity x.0 position) o)) (length_in_same x position at (field_of x.1 position) refl)

  free_length_same : (x : ℕ × Entity) (position : ℕ) → At e n x → free_length_at e x.0 x.1 position ≡ free_length_at f x.0 x.1 position
  free_length_same x position at = free_same (field_of x.1 position) (length_at e x.0 x.1 position) (length_at f x.0 x.1 position) (length_same x position at)

  -- ---- features

  hole_same : (x : ℕ × Entity) → At e n x → hole_part e x ≡ hole_part f x
  unfolding hole_part
  hole_same x at = bind_same (length_at e x.0 x.1 6) (length_at f x.0 x.1 6) _ _ (length_same x 6 at) (λ y h. refl)

  face_same : (x : ℕ × Entity) → At e n x → face_part e x ≡ face_part f x
  unfolding face_part
  face_same x at =
      bind_same (class_at e x.0 x.1 6 LinearPath) (class_at f x.0 x.1 6 LinearPath) _ _ (class_same x 6 LinearPath at) (λ y h.
      let there = class_is x 6 LinearPath y at h in
      bind_same (length_at e y.0 y.1 2) (length_at f y.0 y.1 2) _ _ (length_same y 2 there) (λ l g.
      bind_same (coordinates_at e y.0 y.1 3 Direction) (coordinates_at f y.0 y.1 3 Direction) _ _ (coordinates_same y 3 Direction there) (λ c k.
      bind_same (class_at e x.0 x.1 7 LinearProfile) (class_at f x.0 x.1 7 LinearProfile) _ _ (class_same x 7 LinearProfile at) (λ z i.
      bind_same (length_at e z.0 z.1 2) (length_at f z.0 z.1 2) _ _ (length_same z 2 (class_is x 7 LinearProfile z at i)) (λ w j. refl)))))

  corner_same : (k m : ℕ) → e m ≡ f m → corner_at e k m ≡ corner_at f k m
  unfolding corner_at
  corner_same k m h = ap (λ (o : Option Entity). found k 2 (option_and_then (λ (point : Entity). if is_of CartesianPoint point then coordinates_in m (field_of point 2) else None) o)) h

  four_same : (k a b c d : ℕ) → e a ≡ f a → e b ≡ f b → e c ≡ f c → e d ≡ f d → four_corners e k a b c d ≡ four_corners f k a b c d
  unfolding four_corners
  four_same k a b c d ea eb ec ed =
      bind_same (corner_at e k a) (corner_at f k a) _ _ (corner_same k a ea) (λ p g.
      bind_same (corner_at e k b) (corner_at f k b) _ _ (corner_same k b eb) (λ q h.
      bind_same (corner_at e k c) (corner_at f k c) _ _ (corner_same k c ec) (λ r i.
      bind_same (corner_at e k d) (corner_at f k d) _ _ (corner_same k d ed) (λ t j. refl))))

  five_same : (k a b c d x : ℕ) → e a ≡ f a → e b ≡ f b → e c ≡ f c → e d ≡ f d → e x ≡ f x → five_corners e k a b c d x ≡ five_corners f k a b c d x
  unfolding five_corners
  five_same k a b c d x ea eb ec ed ex =
      bind_same (corner_at e k a) (corner_at f k a) _ _ (corner_same k a ea) (λ p g.
      bind_same (corner_at e k b) (corner_at f k b) _ _ (corner_same k b eb) (λ q h.
      bind_same (corner_at e k c) (corner_at f k c) _ _ (corner_same k c ec) (λ r i.
      bind_same (corner_at e k d) (corner_at f k d) _ _ (corner_same k d ed) (λ t j.
      bind_same (corner_at e k x) (corner_at f k x) _ _ (corner_same k x ex) (λ u l. refl)))))

  points_same : (k : ℕ) (ms : List ℕ) → ((m : ℕ) → Contains ms m → e m ≡ f m) → points_alone e k ms ≡ points_alone f k ms
  points_same k [] all = refl
  points_same k (m ∷ ms) all =
      bind_same (corner_at e k m) (corner_at f k m) _ _ (corner_same k m (all m (first_in m ms))) (λ p h. points_same k ms (λ i c. all i (Contains-append_right (m ∷ []) ms i c)))

  corners_same : (k : ℕ) (ms : List ℕ) → ((m : ℕ) → Contains ms m → e m ≡ f m) → corners_at e k ms ≡ corners_at f k ms
  unfolding corners_at
  corners_same k [] all = refl
  corners_same k (a ∷ []) all = points_same k (a ∷ []) all
  corners_same k (a ∷ b ∷ []) all = points_same k (a ∷ b ∷ []) all
  corners_same k (a ∷ b ∷ c ∷ []) all = points_same k (a ∷ b ∷ c ∷ []) all
  corners_same k (a ∷ b ∷ c ∷ d ∷ []) all = four_same k a b c d (all a (in_list (a ∷ b ∷ c ∷ d ∷ []) 0 a (omega arith) refl)) (all b (in_list (a ∷ b ∷ c ∷ d ∷ []) 1 b (omega arith) refl)) (all c (in_list (a ∷ b ∷ c ∷ d ∷ []) 2 c (omega arith) refl)) (all d (in_list (a ∷ b ∷ c ∷ d ∷ []) 3 d (omega arith) refl))
  corners_same k (a ∷ b ∷ c ∷ d ∷ x ∷ []) all = five_same k a b c d x (all a (in_list (a ∷ b ∷ c ∷ d ∷ x ∷ []) 0 a (omega arith) refl)) (all b (in_list (a ∷ b ∷ c ∷ d ∷ x ∷ []) 1 b (omega arith) refl)) (all c (in_list (a ∷ b ∷ c ∷ d ∷ x ∷ []) 2 c (omega arith) refl)) (all d (in_list (a ∷ b ∷ c ∷ d ∷ x ∷ []) 3 d (omega arith) refl)) (all x (in_list (a ∷ b ∷ c ∷ d ∷ x ∷ []) 4 x (omega arith) refl))
  corners_same k (a ∷ b ∷ c ∷ d ∷ x ∷ y ∷ ms) all = points_same k (a ∷ b ∷ c ∷ d ∷ x ∷ y ∷ ms) all

  corners_in_same : (x : ℕ × Entity) → At e n x → (o : Option Field) → field_of x.1 2 ≡ o → corners_in e x.0 o ≡ corners_in f x.0 o
  corners_in_same x at None is = refl
  corners_in_same x at (Some (Refs rs)) is = corners_same x.0 rs (λ m c. agree m (one_at e n x 2 m (Refs rs) at is c))
  corners_in_same x at (Some (Ref r)) is = refl
  corners_in_same x at (Some Absent) is = refl
  corners_in_same x at (Some Present) is = refl
  corners_in_same x at (Some (Value z)) is = refl
  corners_in_same x at (Some (Values c y z w)) is = refl

  if_same : {A : Type 0} (b : Bool) (x x' y y' : A) → x ≡ x' → y ≡ y' → (if b then x else y) ≡ (if b then x' else y')
  if_same true x x' y y' p q = p
  if_same false x x' y y' p q = q

  contour_same : (x : ℕ × Entity) → At e n x → contour_of e x ≡ contour_of f x
  unfolding contour_of
  contour_same x at = if_same (is_of Polyline x.1) _ _ _ _ (corners_in_same x at (field_of x.1 2) refl) refl

  outline_same : (x : ℕ × Entity) → At e n x → outline_of e x ≡ outline_of f x
  unfolding outline_of
  outline_same x at =
      if_same (is_of RectangularClosedProfile x.1) _ _ _ _
      (bind_same (length_at e x.0 x.1 2) (length_at f x.0 x.1 2) _ _ (length_same x 2 at) (λ y h. bind_same (length_at e x.0 x.1 3) (length_at f x.0 x.1 3) _ _ (length_same x 3 at) (λ z g. refl)))
      (if_same (is_of GeneralClosedProfile x.1) _ _ _ _
      (bind_same (instance_at e x.0 x.1 2) (instance_at f x.0 x.1 2) _ _ (instance_same x 2 at) (λ y h. contour_same y (instance_is x 2 y at h))) refl)

  pocket_same : (x : ℕ × Entity) → At e n x → pocket_part e x ≡ pocket_part f x
  unfolding pocket_part
  pocket_same x at =
      bind_same (instance_at e x.0 x.1 11) (instance_at f x.0 x.1 11) _ _ (instance_same x 11 at) (λ y h.
      bind_same (outline_of e y) (outline_of f y) _ _ (outline_same y (instance_is x 11 y at h)) (λ z g. refl))

  feature_same : (k : ℕ) (x : ℕ × Entity) → At e n x → feature_part_of e k x ≡ feature_part_of f k x
  unfolding feature_part_of
  feature_same k x at =
      if_same (is_of RoundHole x.1) _ _ _ _ (hole_same x at) (if_same (is_of PlanarFace x.1) _ _ _ _ (face_same x at) (if_same (is_of ClosedPocket x.1) _ _ _ _ (pocket_same x at) refl))

  -- ---- operations

  cut_same : (x : ℕ × Entity) → At e n x → technology_of e x ≡ technology_of f x
  unfolding technology_of
  cut_same x at =
      bind_same (free_length_at e x.0 x.1 4) (free_length_at f x.0 x.1 4) _ _ (free_length_same x 4 at) (λ r h.
      bind_same (class_at e x.0 x.1 6 MillingCuttingTool) (class_at f x.0 x.1 6 MillingCuttingTool) _ _ (class_same x 6 MillingCuttingTool at) (λ t g.
      bind_same (class_at e x.0 x.1 7 MillingTechnology) (class_at f x.0 x.1 7 MillingTechnology) _ _ (class_same x 7 MillingTechnology at) (λ y i. refl)))

  diameter_same : (x : ℕ × Entity) → At e n x → diameter_at e x ≡ diameter_at f x
  unfolding diameter_at
  diameter_same x at =
      bind_same (class_at e x.0 x.1 6 MillingCuttingTool) (class_at f x.0 x.1 6 MillingCuttingTool) _ _ (class_same x 6 MillingCuttingTool at) (λ t h.
      let tool = class_is x 6 MillingCuttingTool t at h in
      bind_same (kind_at is_tool_body e t.0 t.1 2) (kind_at is_tool_body f t.0 t.1 2) _ _ (kind_same is_tool_body t 2 tool) (λ b g.
      let body = kind_is is_tool_body t 2 b tool g in
      bind_same (class_at e b.0 b.1 1 MillingToolDimension) (class_at f b.0 b.1 1 MillingToolDimension) _ _ (class_same b 1 MillingToolDimension body) (λ d i.
      length_same d 1 (class_is b 1 MillingToolDimension d body i))))

  strategy_same : (x : ℕ × Entity) → At e n x → strategy_of e x ≡ strategy_of f x
  unfolding strategy_of
  strategy_same x at =
      if_same (is_absent (field_of x.1 12)) _ _ _ _ refl
      (bind_same (kind_at is_strategy e x.0 x.1 12) (kind_at is_strategy f x.0 x.1 12) _ _ (kind_same is_strategy x 12 at) (λ y h. refl))

  facing_same : (x : ℕ × Entity) → At e n x → facing_part e x ≡ facing_part f x
  unfolding facing_part
  facing_same x at =
      bind_same (diameter_at e x) (diameter_at f x) _ _ (diameter_same x at) (λ d h.
      bind_same (strategy_of e x) (strategy_of f x) _ _ (strategy_same x at) (λ t g.
      bind_same (free_length_at e x.0 x.1 13) (free_length_at f x.0 x.1 13) _ _ (free_length_same x 13 at) (λ a i.
      bind_same (free_length_at e x.0 x.1 14) (free_length_at f x.0 x.1 14) _ _ (free_length_same x 14 at) (λ b j. refl))))

  pocketing_same : (x : ℕ × Entity) → At e n x → pocketing_part e x ≡ pocketing_part f x
  unfolding pocketing_part
  pocketing_same x at =
      bind_same (diameter_at e x) (diameter_at f x) _ _ (diameter_same x at) (λ d h.
      bind_same (free_length_at e x.0 x.1 13) (free_length_at f x.0 x.1 13) _ _ (free_length_same x 13 at) (λ a i.
      bind_same (free_length_at e x.0 x.1 14) (free_length_at f x.0 x.1 14) _ _ (free_length_same x 14 at) (λ b j.
      bind_same (free_length_at e x.0 x.1 15) (free_length_at f x.0 x.1 15) _ _ (free_length_same x 15 at) (λ c k.
      bind_same (free_length_at e x.0 x.1 16) (free_length_at f x.0 x.1 16) _ _ (free_length_same x 16 at) (λ w l. refl)))))

  operation_same : (k : ℕ) (x : ℕ × Entity) → At e n x → operation_part_of e k x ≡ operation_part_of f k x
  unfolding operation_part_of
  operation_same k x at =
      if_same (is_drilling x.1) _ _ _ _ refl (if_same (is_facing x.1) _ _ _ _ (facing_same x at) (if_same (is_pocketing x.1) _ _ _ _ (pocketing_same x at) refl))

  -- ---- the whole lookup

  lookup_same : (step : Entity) → At e n (n, step) → lookup_of e n step ≡ lookup_of f n step
  unfolding lookup_of
  lookup_same step at =
      bind_same (plane_at e n step 2) (plane_at f n step 2) _ _ (plane_same (n, step) 2 at) (λ s h.
      bind_same (instance_at e n step 3) (instance_at f n step 3) _ _ (instance_same (n, step) 3 at) (λ x g.
      let feature = instance_is (n, step) 3 x at g in
      bind_same (placement_at e x.0 x.1 4) (placement_at f x.0 x.1 4) _ _ (placement_same x 4 feature) (λ p i.
      bind_same (plane_at e x.0 x.1 5) (plane_at f x.0 x.1 5) _ _ (plane_same x 5 feature) (λ q j.
      bind_same (feature_part_of e n x) (feature_part_of f n x) _ _ (feature_same n x feature) (λ r k.
      bind_same (instance_at e n step 4) (instance_at f n step 4) _ _ (instance_same (n, step) 4 at) (λ y l.
      let operation = instance_is (n, step) 4 y at l in
      bind_same (technology_of e y) (technology_of f y) _ _ (cut_same y operation) (λ c m.
      bind_same (operation_part_of e n y) (operation_part_of f n y) _ _ (operation_same n y operation) (λ o w. refl))))))))

  numbers_same : numbers_at e n ≡ numbers_at f n
  unfolding numbers_at
  numbers_same =
      bind_same (found n 3 (e n)) (found n 3 (f n)) _ _ (ap (λ (o : Option Entity). found n 3 o) (agree n root)) (λ step h.
      bind_same (lookup_of e n step) (lookup_of f n step) _ _ (lookup_same step (root, found_some n 3 (e n) step h)) (λ w g. refl))

  pub definition_same : def_of e n ≡ def_of f n
  unfolding def_of
  definition_same = ranges_same (numbers_at e n) (numbers_at f n) (keeps_ranges e n) (keeps_ranges f n) numbers_same
