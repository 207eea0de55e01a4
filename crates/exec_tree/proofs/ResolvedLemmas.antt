-- Where references are resolved, the walk comes to executables alone.
use Rattle.std.specs.Prelude.{◌≡◌, ◌==◌, ◌||◌, ℕ, zero, suc, Bool, true, false, List, [], ◌∷◌, ◌++◌, map, flat_map, Option, Some, None, Contains}
use Rattle.std.specs.Option.{option_map_or}
use Rattle.std.proofs.Common.{refl, subst, arith}
use Rattle.std.proofs.lemmas.List.Elements.{Contains-append_left, Contains-append_right, Contains-push}
use Rattle.std.proofs.lemmas.Bool.Decides.{nat_tests}
use Rattle.entity_types.specs.declared.class.Class.{Class}
use Rattle.entity_types.specs.declared.class.Class.TheVariants.{Workplan, Parallel, NonSequential, Selective, IfStatement, WhileStatement}
use Rattle.entity_types.specs.declared.field.Field.{Field}
use Rattle.entity_types.specs.declared.field.Field.TheVariants.{Absent, Present, Ref, Value, Refs, Values}
use Rattle.entity_types.specs.declared.entity.Entity.{Entity}
use Rattle.entity_types.specs.declared.table.Target.TheVariants as to
use Rattle.entity_types.specs.Entity.{field_of, references_of}
use Rattle.project_store.specs.Entities.{entity_at}
use Rattle.project_store.specs.Resolved.{IsResolved, target_at}
use Rattle.exec_tree.specs.declared.kind.Kind.{Kind}
use Rattle.exec_tree.specs.declared.kind.Kind.TheVariants as kind
use Rattle.exec_tree.specs.Executable.{kind_of, reference_of, reference_at, parts_by, parts_at}
use Rattle.exec_tree.specs.Walk.{Visit, channel_below, part_walk, visits_from}
use Rattle.exec_tree.specs.TreeFault.{walk_of}
use Rattle.exec_tree.specs.Resolving.{IsExecutable, AreExecutables}

no_way : false ≡ true → ⊥
no_way h = absurd (cc)

-- the positions where parts stand
abbrev is_part_position : Kind → ℕ → Bool
is_part_position kind.Plan p = p == 2
is_part_position kind.Par p = p == 2
is_part_position kind.NonSeq p = p == 2
is_part_position kind.Sel p = p == 2
is_part_position kind.If p = (p == 3) || (p == 4)
is_part_position kind.While p = p == 3
is_part_position _ p = false

is_two : (p : ℕ) → (p == 2) ≡ true → 2 ≡ p
is_two p h = grind (arith, nat_tests)

is_three : (p : ℕ) → (p == 3) ≡ true → 3 ≡ p
is_three p h = grind (arith, nat_tests)

three_or_four : (p : ℕ) (P : ℕ → Type 0) → P 3 → P 4 → ((p == 3) || (p == 4)) ≡ true → P p
three_or_four p P a b h = go (p == 3) (p == 4) refl refl h
  where
    go : (x y : Bool) → (p == 3) ≡ x → (p == 4) ≡ y → (x || y) ≡ true → P p
    go true y e f i = let is : 3 ≡ p = grind (arith, nat_tests) in subst P is a
    go false true e f i = let is : 4 ≡ p = grind (arith, nat_tests) in subst P is b
    go false false e f i = absurd (cc)

target_is : (class : Class) (p : ℕ) → is_part_position (kind_of class) p ≡ true → target_at class p ≡ Some to.Executable
target_is Workplan p h = subst (λ (q : ℕ). target_at Workplan q ≡ Some to.Executable) (is_two p h) refl
target_is Parallel p h = subst (λ (q : ℕ). target_at Parallel q ≡ Some to.Executable) (is_two p h) refl
target_is NonSequential p h = subst (λ (q : ℕ). target_at NonSequential q ≡ Some to.Executable) (is_two p h) refl
target_is Selective p h = subst (λ (q : ℕ). target_at Selective q ≡ Some to.Executable) (is_two p h) refl
target_is IfStatement p h = three_or_four p (λ (q : ℕ). target_at IfStatement q ≡ Some to.Executable) refl refl h
target_is WhileStatement p h = subst (λ (q : ℕ). target_at WhileStatement q ≡ Some to.Executable) (is_three p h) refl
target_is _ p h = absurd (no_way h)

-- ---- each part

abbrev EachPart : (ℕ → Type 0) → List (Option ℕ) → Type 0
EachPart P [] = Unit {0}
EachPart P (None ∷ ps) = EachPart P ps
EachPart P (Some m ∷ ps) = P m × EachPart P ps

each_listed : (P : ℕ → Type 0) (ns : List ℕ) → ((m : ℕ) → Contains ns m → P m) → EachPart P (map Some ns)
each_listed P [] h = tt
each_listed P (n ∷ ns) h = (h n (Contains-append_left (n ∷ []) ns n (Contains-push [] n)), each_listed P ns (λ m c. h m (Contains-append_right (n ∷ []) ns m c)))

each_at : (P : ℕ → Type 0) (o : Option Field) → ((field : Field) (m : ℕ) → o ≡ Some field → Contains (references_of field) m → P m) → EachPart P (map Some (option_map_or references_of o []))
each_at P None h = tt
each_at P (Some field) h = each_listed P (references_of field) (λ m c. h field m refl c)

one_by : (P : ℕ → Type 0) (field : Field) (ps : List (Option ℕ)) → ((m : ℕ) → Contains (references_of field) m → P m) → EachPart P ps → EachPart P (reference_of field ∷ ps)
one_by P (Ref n) ps h i = (h n (Contains-push [] n), i)
one_by P Absent ps h i = i
one_by P Present ps h i = i
one_by P (Value x) ps h i = i
one_by P (Refs ns) ps h i = i
one_by P (Values c x y z) ps h i = i

one_at : (P : ℕ → Type 0) (o : Option Field) (ps : List (Option ℕ)) → ((field : Field) (m : ℕ) → o ≡ Some field → Contains (references_of field) m → P m) → EachPart P ps → EachPart P (option_map_or reference_of o None ∷ ps)
one_at P None ps h i = i
one_at P (Some field) ps h i = one_by P field ps (λ m c. h field m refl c) i

parts_each : (P : ℕ → Type 0) (k : Kind) (entity : Entity) → ((p : ℕ) (field : Field) (m : ℕ) → is_part_position k p ≡ true → field_of entity p ≡ Some field → Contains (references_of field) m → P m) → EachPart P (parts_by k entity)
parts_each P kind.Plan entity h = each_at P (field_of entity 2) (λ field m e c. h 2 field m refl e c)
parts_each P kind.Par entity h = each_at P (field_of entity 2) (λ field m e c. h 2 field m refl e c)
parts_each P kind.NonSeq entity h = each_at P (field_of entity 2) (λ field m e c. h 2 field m refl e c)
parts_each P kind.Sel entity h = each_at P (field_of entity 2) (λ field m e c. h 2 field m refl e c)
parts_each P kind.If entity h =
    one_at P (field_of entity 3) (reference_at entity 4 ∷ []) (λ field m e c. h 3 field m refl e c) (one_at P (field_of entity 4) [] (λ field m e c. h 4 field m refl e c) tt)
parts_each P kind.While entity h = one_at P (field_of entity 3) [] (λ field m e c. h 3 field m refl e c) tt
parts_each P kind.Work entity h = tt
parts_each P kind.Assign entity h = tt
parts_each P kind.Set entity h = tt
parts_each P kind.Wait entity h = tt
parts_each P kind.Note entity h = tt

-- ---- the walk

both : (all : List Entity) (vs us : List Visit) → AreExecutables all vs → AreExecutables all us → AreExecutables all (vs ++ us)
both all [] us a b = b
both all (v ∷ vs) us a b = (a.0, both all vs us a.1 b)

over_parts : (all : List Entity) (w : ℕ → List Visit) (ps : List (Option ℕ)) → ((m : ℕ) → IsExecutable all m → AreExecutables all (w m)) → EachPart (IsExecutable all) ps → AreExecutables all (flat_map (part_walk w) ps)
over_parts all w [] h e = tt
over_parts all w (None ∷ ps) h e = over_parts all w ps h e
over_parts all w (Some m ∷ ps) h e = both all (w m) (flat_map (part_walk w) ps) (h m e.0) (over_parts all w ps h e.1)

parts_executable : (all : List Entity) (n : ℕ) → IsResolved all → (found : Option Entity) → entity_at all n ≡ found → EachPart (IsExecutable all) (parts_at found)
parts_executable all n r None e = tt
parts_executable all n r (Some entity) e =
    parts_each (IsExecutable all) (kind_of entity.class) entity (λ p field m i f c. r n p m entity to.Executable field e (target_is entity.class p i) f c)

pub visits_executable : (all : List Entity) (left : ℕ) (channel : Option ℕ) (n : ℕ) → IsResolved all → IsExecutable all n → AreExecutables all (visits_from (entity_at all) left channel n)
unfolding visits_from
visits_executable all zero channel n r e = (e, tt)
visits_executable all (suc left) channel n r e = (
  e,
  over_parts all (λ m. visits_from (entity_at all) left (channel_below channel (entity_at all n)) m) (parts_at (entity_at all n))
      (λ m i. visits_executable all left (channel_below channel (entity_at all n)) m r i) (parts_executable all n r (entity_at all n) refl),
)

pub walk_executable : (all : List Entity) (main : ℕ) → IsResolved all → IsExecutable all main → AreExecutables all (walk_of (entity_at all) main)
walk_executable all main r e = visits_executable all 64 None main r e
