-- The main workplan of a store is an executable of it.
use Rattle.std.specs.Prelude.{◌≡◌, ◌==◌, ℕ, nat_eq, unwrap_or, Bool, true, false, List, [], ◌∷◌, filter, Option, Some, None, IsTrue}
use Rattle.std.specs.Option.{option_map_or}
use Rattle.std.specs.List.{IsDistinct, AllByRecursion}
use Rattle.std.proofs.Common.{refl, sym, ap, subst, ◌∙◌, arith, cond}
use Rattle.std.proofs.lemmas.Bool.Decides.{nat_tests}
use Rattle.std.proofs.lemmas.List.Elements.{Contains-push}
use Rattle.entity_types.specs.declared.class.Class.{Class}
use Rattle.entity_types.specs.declared.class.Class.TheVariants.{Project, Workplan}
use Rattle.entity_types.specs.declared.field.Field.{Field}
use Rattle.entity_types.specs.declared.field.Field.TheVariants.{Absent, Present, Ref, Value, Refs, Values}
use Rattle.entity_types.specs.declared.entity.Entity.{Entity}
use Rattle.entity_types.specs.declared.table.Target.TheVariants as to
use Rattle.entity_types.specs.Class.{code_of}
use Rattle.entity_types.specs.Entity.{field_at, field_of}
use Rattle.entity_types.specs.Fits.{fields_fit}
use Rattle.entity_types.specs.Table.{used_of}
use Rattle.entity_types.specs.Target.{accepts}
use Rattle.project_store.specs.Build.{is_project, projects_of}
use Rattle.project_store.specs.Entities.{numbers_of, entity_at}
use Rattle.project_store.specs.Resolved.{IsResolved, target_at}
use Rattle.exec_tree.specs.Executable.{reference_of}
use Rattle.exec_tree.specs.Built.{main_among, main_of}
use Rattle.exec_tree.specs.Resolving.{IsExecutable}

no_way : false ≡ true → ⊥
no_way h = absurd (cc)

-- ---- the one PROJECT is found by its number

apart : (xs : List Entity) (project : Entity) (n : ℕ) → AllByRecursion (λ y. nat_eq n y ≡ false) (numbers_of xs) → filter is_project xs ≡ project ∷ [] → nat_eq n project.number ≡ false
apart [] project n d e = absurd (cc)
apart (x ∷ xs) project n d e = go (is_project x) e (apart xs project n d.1)
  where
    go : (b : Bool) → cond b (x ∷ filter is_project xs) (filter is_project xs) ≡ project ∷ [] → (filter is_project xs ≡ project ∷ [] → nat_eq n project.number ≡ false) → nat_eq n project.number ≡ false
    go true f r = let same : x ≡ project = cc in subst (λ (y : Entity). nat_eq n y.number ≡ false) same d.0
    go false f r = r f

found_by_number : (xs : List Entity) (project : Entity) → IsDistinct nat_eq (numbers_of xs) → filter is_project xs ≡ project ∷ [] → entity_at xs project.number ≡ Some project
unfolding IsDistinct
found_by_number [] project d e = absurd (cc)
found_by_number (x ∷ xs) project d e = go (is_project x) e (apart xs project x.number d.0) (found_by_number xs project d.1)
  where
    itself : (y : Entity) → y ≡ x → cond (y.number == x.number) (Some x) (entity_at xs y.number) ≡ Some y
    itself y s =
        let n : (x.number == x.number) ≡ true = grind (arith, nat_tests) in
        subst (λ (z : Entity). cond (z.number == x.number) (Some x) (entity_at xs z.number) ≡ Some z) (sym s) (ap (λ (b : Bool). cond b (Some x) (entity_at xs x.number)) n)

    go : (b : Bool) → cond b (x ∷ filter is_project xs) (filter is_project xs) ≡ project ∷ [] → (filter is_project xs ≡ project ∷ [] → nat_eq x.number project.number ≡ false)
        → (filter is_project xs ≡ project ∷ [] → entity_at xs project.number ≡ Some project) → entity_at (x ∷ xs) project.number ≡ Some project
    go true f r l = let same : project ≡ x = cc in itself project same
    go false f r l =
        let a = r f in
        let n : (project.number == x.number) ≡ false = grind (arith, nat_tests) in
        ap (λ (b : Bool). cond b (Some x) (entity_at xs project.number)) n ∙ l f

project_is : (xs : List Entity) (project : Entity) → filter is_project xs ≡ project ∷ [] → is_project project ≡ true
project_is [] project e = absurd (cc)
project_is (x ∷ xs) project e = go (is_project x) refl e (project_is xs project)
  where
    go : (b : Bool) → is_project x ≡ b → cond b (x ∷ filter is_project xs) (filter is_project xs) ≡ project ∷ [] → (filter is_project xs ≡ project ∷ [] → is_project project ≡ true) → is_project project ≡ true
    go true i f r = let same : x ≡ project = cc in subst (λ (y : Entity). is_project y ≡ true) same i
    go false i f r = r f

-- ---- what it refers to

class_is : (class : Class) → (code_of class == 1) ≡ true → class ≡ Project
class_is Project h = refl
class_is _ h = absurd (no_way h)

workplan_is : (class : Class) → IsTrue (accepts to.Workplan class) → IsTrue (accepts to.Executable class)
workplan_is Workplan h = refl
workplan_is _ h = absurd (no_way h)

one_reference : (fields : List Field) → IsTrue (fields_fit Project fields) → (m : ℕ) × (field_at (used_of Project) fields 2 ≡ Some (Ref m))
one_reference [] h = absurd (no_way h)
one_reference (Ref m ∷ fields) h = (m, refl)
one_reference (Absent ∷ fields) h = absurd (no_way h)
one_reference (Present ∷ fields) h = absurd (no_way h)
one_reference (Value x ∷ fields) h = absurd (no_way h)
one_reference (Refs ns ∷ fields) h = absurd (no_way h)
one_reference (Values c x y z ∷ fields) h = absurd (no_way h)

refers : (project : Entity) → project.class ≡ Project → (m : ℕ) × (field_of project 2 ≡ Some (Ref m))
refers project c =
    let r = one_reference project.fields (subst (λ (k : Class). IsTrue (fields_fit k project.fields)) c project.fit) in
    (r.0, ap (λ (k : Class). field_at (used_of k) project.fields 2) c ∙ r.1)

pub main_executable : (all : List Entity) (project : Entity) → IsResolved all → IsDistinct nat_eq (numbers_of all) → projects_of all ≡ project ∷ [] → IsExecutable all (main_of all)
main_executable all project r d e =
    let c : project.class ≡ Project = class_is project.class (project_is all project e) in
    let m = refers project c in
    let target : target_at project.class 2 ≡ Some to.Workplan = ap (λ (k : Class). target_at k 2) c in
    let other = r project.number 2 m.0 project to.Workplan (Ref m.0) (found_by_number all project d e) target m.1 (Contains-push [] m.0) in
    let main : main_of all ≡ m.0 = ap main_among e ∙ ap (λ (o : Option Field). unwrap_or (option_map_or reference_of o None) 0) m.1 in
    subst (IsExecutable all) (sym main) (other.0, other.1, workplan_is other.0.class other.2)
