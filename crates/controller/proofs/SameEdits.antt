-- Edits are what their entities say, so that a text holds one script of them at most.
use Rattle.std.proofs.Common.{◌≡◌, ◌∙◌, Bool, ℕ, List, [], ◌∷◌, map, refl, ap, subst, IsTrue}
use Rattle.std.proofs.Props.{props}
use Rattle.entity_types.specs.declared.entity.Entity.{Entity}
use Rattle.entity_types.specs.declared.edit.Edit.{Edit}
use Rattle.entity_types.specs.Fits.{fields_fit}
use Rattle.entity_read.specs.Typed.{EntityTree, entity_of}
use Rattle.edit_script.specs.Edits.{EditModel, model_of}

is_test : (b : Bool) (p q : IsTrue b) → p ≡ q
is_test b p q = let set : IsProp (IsTrue b) = hlevel props in set p q

abbrev with_fit : (t : EntityTree) → IsTrue (fields_fit t.class t.fields) → Entity
with_fit t p = record { number = t.number; class = t.class; fields = t.fields; fit = p }

whole : (a : Entity) (p : IsTrue (fields_fit a.class a.fields)) → a ≡ with_fit (entity_of a) p
whole a p = ap (with_fit (entity_of a)) (is_test _ a.fit p)

same_entity : (a b : Entity) → entity_of a ≡ entity_of b → a ≡ b
same_entity a b e = subst (λ (t : EntityTree). (p : IsTrue (fields_fit t.class t.fields)) → a ≡ with_fit t p) e (whole a) b.fit

abbrev trees : List EntityTree → List EntityTree
trees ts = ts

first_tree : (t u : EntityTree) (ts us : List EntityTree) → trees (t ∷ ts) ≡ trees (u ∷ us) → t ≡ u
first_tree t u ts us e = cc

later_trees : (t u : EntityTree) (ts us : List EntityTree) → trees (t ∷ ts) ≡ trees (u ∷ us) → ts ≡ us
later_trees t u ts us e = cc

same_entities : (xs ys : List Entity) → map entity_of xs ≡ map entity_of ys → xs ≡ ys
same_entities [] [] e = refl
same_entities [] (y ∷ ys) e = absurd (cc)
same_entities (x ∷ xs) [] e = absurd (cc)
same_entities (x ∷ xs) (y ∷ ys) e =
    ap (λ (z : Entity). z ∷ xs) (same_entity x y (first_tree (entity_of x) (entity_of y) (map entity_of xs) (map entity_of ys) e))
    ∙ ap (λ (zs : List Entity). y ∷ zs) (same_entities xs ys (later_trees (entity_of x) (entity_of y) (map entity_of xs) (map entity_of ys) e))

abbrev edit : ℕ → List Entity → Edit
edit at items = record { at = at; items = items }

same_edit : (a b : Edit) → model_of a ≡ model_of b → a ≡ b
same_edit a b e =
    let at : a.at ≡ b.at = ap (λ (m : EditModel). m.at) e in
    let items : a.items ≡ b.items = same_entities a.items b.items (ap (λ (m : EditModel). m.items) e) in
    ap (λ (n : ℕ). edit n a.items) at ∙ ap (edit b.at) items

abbrev models : List EditModel → List EditModel
models ms = ms

first_model : (m n : EditModel) (ms ns : List EditModel) → models (m ∷ ms) ≡ models (n ∷ ns) → m ≡ n
first_model m n ms ns e = cc

later_models : (m n : EditModel) (ms ns : List EditModel) → models (m ∷ ms) ≡ models (n ∷ ns) → ms ≡ ns
later_models m n ms ns e = cc

pub same_edits : (xs ys : List Edit) → map model_of xs ≡ map model_of ys → xs ≡ ys
same_edits [] [] e = refl
same_edits [] (y ∷ ys) e = absurd (cc)
same_edits (x ∷ xs) [] e = absurd (cc)
same_edits (x ∷ xs) (y ∷ ys) e =
    ap (λ (z : Edit). z ∷ xs) (same_edit x y (first_model (model_of x) (model_of y) (map model_of xs) (map model_of ys) e))
    ∙ ap (λ (zs : List Edit). y ∷ zs) (same_edits xs ys (later_models (model_of x) (model_of y) (map model_of xs) (map model_of ys) e))
