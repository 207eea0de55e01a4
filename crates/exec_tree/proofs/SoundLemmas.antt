-- What a walk without a fault says of the tree.
use Rattle.std.specs.Prelude.{◌≡◌, ◌<◌, ◌==◌, ◌||◌, ℕ, zero, suc, Bool, true, false, List, [], ◌∷◌, ◌++◌, length, map, flat_map, Option, Some, None, IsTrue}
use Rattle.std.specs.Option.{option_map_or}
use Rattle.std.proofs.Common.{refl, sym, ap, subst, ◌∙◌, arith}
use Rattle.std.proofs.lemmas.Bool.Decides.{nat_tests}
use Rattle.entity_types.specs.declared.class.Class.{Class}
use Rattle.entity_types.specs.declared.class.Class.TheVariants.{Selective}
use Rattle.entity_types.specs.declared.field.Field.{Field}
use Rattle.entity_types.specs.declared.field.Field.TheVariants.{Absent, Present, Ref, Value, Refs, Values}
use Rattle.entity_types.specs.declared.entity.Entity.{Entity}
use Rattle.entity_types.specs.Entity.{field_at, references_of}
use Rattle.entity_types.specs.Fits.{fields_fit}
use Rattle.entity_types.specs.Table.{used_of}
use Rattle.exec_tree.specs.Exec.{Exec, nodes, has, AreDistinct}
use Rattle.exec_tree.specs.Exec.{HasChoices, HasChoicesAll}
use Rattle.exec_tree.specs.Arena.{to_execs, of_kind}
use Rattle.exec_tree.specs.Exec.{count}
use Rattle.exec_tree.specs.declared.kind.Kind.{Kind}
use Rattle.exec_tree.specs.declared.kind.Kind.TheVariants as kind
use Rattle.exec_tree.specs.Executable.{kind_of, kind_at, references_at, parts_by, parts_at}
use Rattle.exec_tree.specs.Size.{expression_size}
use Rattle.exec_tree.specs.Walk.{Visit, channel_below, part_walk, visits_from}
use Rattle.exec_tree.specs.TreeFault.{Seen, names, seen_with, first_fault, walk_of, first_fault_from}
use Rattle.exec_tree.specs.TreeOf.{part_tree, tree_from, tree_of}
use Rattle.exec_tree.proofs.FaultLemmas.{none_left, none_right, not_shared, not_deep}
use Rattle.exec_tree.proofs.WalkLemmas.{number_of_visit, nodes_walked}

-- ---- numbers stand once

has_put : (ns : List ℕ) (n : ℕ) → has (ns ++ n ∷ []) n ≡ true
has_put [] n = let e : (n == n) ≡ true = grind (arith, nat_tests) in rw e refl
has_put (m ∷ ns) n = go (m == n) (has_put ns n)
  where
    go : (b : Bool) → has (ns ++ n ∷ []) n ≡ true → (b || has (ns ++ n ∷ []) n) ≡ true
    go true f = refl
    go false f = f

not_before : (ns : List ℕ) (n m : ℕ) → has (ns ++ n ∷ []) m ≡ false → has ns m ≡ false
not_before [] n m h = refl
not_before (k ∷ ns) n m h = go (k == m) h (not_before ns n m)
  where
    go : (b : Bool) → (b || has (ns ++ n ∷ []) m) ≡ false → (has (ns ++ n ∷ []) m ≡ false → has ns m ≡ false) → (b || has ns m) ≡ false
    go true i f = absurd (cc)
    go false i f = f i

pub record AreNew (seen : Seen) (ns : List ℕ) : Type 0 where
  pub distinct : AreDistinct ns
  pub fresh : (m : ℕ) → has ns m ≡ true → has seen.numbers m ≡ false

pub visits_new : (entities : ℕ → Option Entity) (seen : Seen) (vs : List Visit) → first_fault entities seen vs ≡ None → AreNew seen (map number_of_visit vs)
visits_new entities seen [] e = record { distinct = tt; fresh = λ m h. absurd (cc) }
visits_new entities seen (v ∷ vs) e =
    let here = not_shared seen v.number v.left (expression_size entities v.number) (names entities v) (none_left _ _ e) in
    let later = visits_new entities (seen_with entities seen v) vs (none_right _ _ e) in
    record {
      distinct = (apart (has (map number_of_visit vs) v.number) refl later, later.distinct);
      fresh = λ m h. fresh_by m (v.number == m) refl h here later;
    }
  where
    apart : (b : Bool) → has (map number_of_visit vs) v.number ≡ b → AreNew (seen_with entities seen v) (map number_of_visit vs) → has (map number_of_visit vs) v.number ≡ false
    apart false h later = h
    apart true h later = let f = later.fresh v.number h in let g = has_put seen.numbers v.number in absurd (cc)

    fresh_by : (m : ℕ) (b : Bool) → (v.number == m) ≡ b → (b || has (map number_of_visit vs) m) ≡ true → has seen.numbers v.number ≡ false → AreNew (seen_with entities seen v) (map number_of_visit vs) → has seen.numbers m ≡ false
    fresh_by m true t h here later = let is : v.number ≡ m = grind (arith, nat_tests) in subst (λ (x : ℕ). has seen.numbers x ≡ false) is here
    fresh_by m false t h here later = not_before seen.numbers v.number m (later.fresh m h)

pub tree_distinct : (start : Seen) (entities : ℕ → Option Entity) (main : ℕ) → first_fault_from start entities main ≡ None → AreDistinct (nodes (tree_of entities main))
tree_distinct start entities main e =
    let new = visits_new entities start (walk_of entities main) e in
    subst AreDistinct (sym (nodes_walked entities 64 None main)) new.distinct

-- ---- a selective has an element

no_way : false ≡ true → ⊥
no_way h = absurd (cc)

abbrev is_sel : Kind → Bool
is_sel kind.Sel = true
is_sel _ = false

fields_some : (fields : List Field) → IsTrue (fields_fit Selective fields) → 0 < length (option_map_or references_of (field_at (used_of Selective) fields 2) [])
fields_some [] h = absurd (cc)
fields_some (Absent ∷ fields) h = absurd (cc)
fields_some (Present ∷ fields) h = absurd (cc)
fields_some (Ref n ∷ fields) h = absurd (cc)
fields_some (Value x ∷ fields) h = absurd (cc)
fields_some (Refs [] ∷ fields) h = absurd (cc)
fields_some (Refs (n ∷ ns) ∷ fields) h = omega arith
fields_some (Values c x y z ∷ fields) h = absurd (cc)

class_some : (class : Class) (fields : List Field) → IsTrue (fields_fit class fields) → is_sel (kind_of class) ≡ true → 0 < length (option_map_or references_of (field_at (used_of class) fields 2) [])
class_some Selective fields h s = fields_some fields h
class_some _ fields h s = absurd (no_way s)

-- ---- choices, where nothing lies too deep

abbrev pub AllLeft : List Visit → Type 0
AllLeft [] = Unit {0}
AllLeft (v ∷ vs) = ((v.left == 0) ≡ false) × AllLeft vs

pub visits_left : (entities : ℕ → Option Entity) (seen : Seen) (vs : List Visit) → first_fault entities seen vs ≡ None → AllLeft vs
visits_left entities seen [] e = tt
visits_left entities seen (v ∷ vs) e =
    (not_deep seen v.number v.left (expression_size entities v.number) (names entities v) (none_left _ _ e), visits_left entities (seen_with entities seen v) vs (none_right _ _ e))

left_front : (vs us : List Visit) → AllLeft (vs ++ us) → AllLeft vs
left_front [] us h = tt
left_front (v ∷ vs) us h = (h.0, left_front vs us h.1)

left_back : (vs us : List Visit) → AllLeft (vs ++ us) → AllLeft us
left_back [] us h = h
left_back (v ∷ vs) us h = left_back vs us h.1

abbrev EachChoice : List Exec → Type 0
EachChoice [] = Unit {0}
EachChoice (e ∷ es) = HasChoices e × EachChoice es

choices_all : (es : List Exec) → EachChoice es → HasChoicesAll (to_execs es)
choices_all [] h = tt
choices_all (e ∷ es) h = (h.0, choices_all es h.1)

count_is : (es : List Exec) → count (to_execs es) ≡ length es
count_is [] = refl
count_is (e ∷ es) = ap suc (count_is es)

map_long : {A B : Type 0} (f : A → B) (xs : List A) → length (map f xs) ≡ length xs
map_long f [] = refl
map_long f (x ∷ xs) = ap suc (map_long f xs)

choices_by : (k : Kind) (n : ℕ) (entity : Entity) (f : Option ℕ → Exec) → (is_sel k ≡ true → 0 < length (references_at entity 2)) → EachChoice (map f (parts_by k entity)) → HasChoices (of_kind k (Some n) (map f (parts_by k entity)))
choices_by kind.Plan n entity f s h = choices_all (map f (parts_by kind.Plan entity)) h
choices_by kind.Par n entity f s h = choices_all (map f (parts_by kind.Par entity)) h
choices_by kind.NonSeq n entity f s h = choices_all (map f (parts_by kind.NonSeq entity)) h
choices_by kind.Sel n entity f s h =
    let l : 0 < length (references_at entity 2) = s refl in
    let es = map f (parts_by kind.Sel entity) in
    let c = count_is es ∙ map_long f (parts_by kind.Sel entity) ∙ map_long Some (references_at entity 2) in
    let some : 0 < count (to_execs es) = omega (arith, c, l) in
    (some, choices_all es h)
choices_by kind.If n entity f s h = (h.0, h.1.0)
choices_by kind.While n entity f s h = h.0
choices_by kind.Work n entity f s h = tt
choices_by kind.Assign n entity f s h = tt
choices_by kind.Set n entity f s h = tt
choices_by kind.Wait n entity f s h = tt
choices_by kind.Note n entity f s h = tt

choices_found : (found : Option Entity) (n : ℕ) (f : Option ℕ → Exec) → EachChoice (map f (parts_at found)) → HasChoices (of_kind (kind_at found) (Some n) (map f (parts_at found)))
choices_found None n f h = tt
choices_found (Some entity) n f h = choices_by (kind_of entity.class) n entity f (λ s. class_some entity.class entity.fields entity.fit s) h

choices_parts : (t : ℕ → Exec) (w : ℕ → List Visit) (ps : List (Option ℕ)) → ((m : ℕ) → AllLeft (w m) → HasChoices (t m)) → AllLeft (flat_map (part_walk w) ps) → EachChoice (map (part_tree t) ps)
choices_parts t w [] f h = tt
choices_parts t w (None ∷ ps) f h = (tt, choices_parts t w ps f h)
choices_parts t w (Some m ∷ ps) f h = (f m (left_front (w m) (flat_map (part_walk w) ps) h), choices_parts t w ps f (left_back (w m) (flat_map (part_walk w) ps) h))

pub choices_walked : (entities : ℕ → Option Entity) (left : ℕ) (channel : Option ℕ) (n : ℕ) → AllLeft (visits_from entities left channel n) → HasChoices (tree_from entities left n)
unfolding tree_from visits_from
choices_walked entities zero channel n h = absurd (no_way (sym h.0))
choices_walked entities (suc left) channel n h =
    choices_found (entities n) n (part_tree (λ m. tree_from entities left m))
    (choices_parts (λ m. tree_from entities left m) (λ m. visits_from entities left (channel_below channel (entities n)) m) (parts_at (entities n)) (λ m i. choices_walked entities left (channel_below channel (entities n)) m i) h.1)

pub tree_choices : (start : Seen) (entities : ℕ → Option Entity) (main : ℕ) → first_fault_from start entities main ≡ None → HasChoices (tree_of entities main)
tree_choices start entities main e = choices_walked entities 64 None main (visits_left entities start (walk_of entities main) e)
