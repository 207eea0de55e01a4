-- Where no reference is of the wrong kind, none is missing.
use Rattle.std.proofs.Common.{◌≡◌, ℕ, Bool, true, false, cond, List, [], ◌∷◌, refl, ap, ◌∙◌}
use Rattle.std.specs.Prelude.{Option, Some, None, is_none, flat_map}
use Rattle.std.specs.Option.{option_map_or, option_or}
use Rattle.std.specs.List.{list_all}
use Rattle.entity_types.specs.declared.entity.Entity.{Entity}
use Rattle.entity_types.specs.declared.field.Field.{Field}
use Rattle.entity_types.specs.declared.table.Target.{Target}
use Rattle.entity_types.specs.declared.table.UsedPosition.{UsedPosition}
use Rattle.entity_types.specs.Table.{used_of}
use Rattle.entity_types.specs.Target.{accepts}
use Rattle.entity_types.specs.Fits.{field_fits, all_fit}
use Rattle.entity_types.specs.Entity.{references_of}
use Rattle.project_store.specs.Entities.{entity_at}
use Rattle.project_store.specs.Build.{projects_of, count_fault, fault_of, first_of, missing_fault, kind_fault, missing_among, missing_reference, is_of_target, wrong_among, wrong_position, least_fault}
use Rattle.project_store.proofs.FaultLemmas.{missing_among-append}
use Rattle.project_store.proofs.Sound.{and_left, and_right, none_then, lesser_left, lesser_right, mapped_none}

there : (target : Target) (o : Option Entity) → option_map_or (λ entity. accepts target entity.class) o false ≡ true → is_none o ≡ false
there target None h = absurd (cc)
there target (Some entity) h = refl

-- references that name entities of a target name entities
none_missing : (all : List Entity) (target : Target) (rs : List ℕ) → list_all (is_of_target all target) rs ≡ true → missing_among all rs ≡ None
none_missing all target [] h = refl
none_missing all target (r ∷ rs) h =
    ap (λ (b : Bool). cond b (Some r) (missing_among all rs)) (there target (entity_at all r) (and_left (is_of_target all target r) (list_all (is_of_target all target) rs) h))
    ∙ none_missing all target rs (and_right (is_of_target all target r) (list_all (is_of_target all target) rs) h)

both_none : {A : Type 0} (a b : Option A) → a ≡ None → b ≡ None → option_or a b ≡ None
both_none None b p q = q
both_none (Some x) b p q = absurd (cc)

fields_name : (all : List Entity) (used : List UsedPosition) (fields : List Field) → all_fit used fields ≡ true → wrong_among all used fields ≡ None → missing_among all (flat_map references_of fields) ≡ None
fields_name all [] [] fit h = refl
fields_name all [] (field ∷ fields) fit h = absurd (cc)
fields_name all (used ∷ others) [] fit h = absurd (cc)
fields_name all (used ∷ others) (field ∷ fields) fit h =
    let right = none_then (list_all (is_of_target all used.target) (references_of field)) (wrong_among all others fields) used.position h in
    missing_among-append all (references_of field) (flat_map references_of fields)
    ∙ both_none (missing_among all (references_of field)) (missing_among all (flat_map references_of fields)) (none_missing all used.target (references_of field) right.0)
    (fields_name all others fields (and_right (field_fits used field) (all_fit others fields) fit) right.1)

pub none_wrong : (all es : List Entity) → least_fault (wrong_position all) es ≡ None → least_fault (missing_reference all) es ≡ None
none_wrong all [] h = refl
none_wrong all (e ∷ es) h =
    let here : wrong_position all e ≡ None = mapped_none (λ n. (e.number, n)) (wrong_position all e) (lesser_left _ _ h) in
    rw (fields_name all (used_of e.class) e.fields e.fit here) (none_wrong all es (lesser_right _ _ h))

-- a list whose references are of the right kinds has no fault of references
right_references : (all : List Entity) → least_fault (wrong_position all) all ≡ None → first_of (missing_fault all) (kind_fault all) ≡ None
right_references all h = rw (none_wrong all all h, h) refl

pub no_fault : (all : List Entity) → count_fault (projects_of all) ≡ None → least_fault (wrong_position all) all ≡ None → fault_of all ≡ None
no_fault all one h = rw one (right_references all h)
