-- Faults of a list, part by part.
use Rattle.std.proofs.Common.{◌≡◌, ℕ, zero, suc, ◌+◌, ◌<◌, Bool, true, false, cond, nat_lt, List, [], ◌∷◌, ◌++◌, length, get_or, drop, take, refl, ap, sym, ◌∙◌, arith, add-one}
use Rattle.std.specs.Prelude.{Option, Some, None, option_map, is_none, slice_get, flat_map}
use Rattle.std.specs.Option.{option_or}
use Rattle.std.proofs.lemmas.Bool.Decides.{nat_tests}
use Rattle.std.proofs.lemmas.List.{at_drop_more, take_more}
use Rattle.std.proofs.lemmas.Option.{get_or_from_slice_get, slice_get_within}
use Rattle.entity_types.specs.declared.entity.Entity.{Entity}
use Rattle.entity_types.specs.declared.field.Field.{Field}
use Rattle.entity_types.specs.Entity.{references_of}
use Rattle.project_store.specs.Entities.{entity_at}
use Rattle.project_store.specs.Build.{missing_among, lesser, least_fault}

or_cond : {X : Type 0} (b : Bool) (x : X) (o p : Option X) → option_or (cond b (Some x) o) p ≡ cond b (Some x) (option_or o p)
or_cond true x o p = refl
or_cond false x o p = refl

-- the first missing of two lists is that of the first, if there is one
pub missing_among-append : (all : List Entity) (xs ys : List ℕ) → missing_among all (xs ++ ys) ≡ option_or (missing_among all xs) (missing_among all ys)
missing_among-append all [] ys = refl
missing_among-append all (x ∷ xs) ys =
    ap (cond (is_none (entity_at all x)) (Some x)) (missing_among-append all xs ys) ∙ sym (or_cond (is_none (entity_at all x)) x (missing_among all xs) (missing_among all ys))

-- where the field at index i is looked through
pub missing_step : (all : List Entity) (fields : List Field) (i : ℕ) (field : Field) → i < length fields → field ≡ get_or fields i field
    → missing_among all (flat_map references_of (drop i fields)) ≡ option_or (missing_among all (references_of field)) (missing_among all (flat_map references_of (drop (i + 1) fields)))
missing_step all fields i field l h =
    at_drop_more (λ fs. missing_among all (flat_map references_of fs)) fields i field l
    ∙ missing_among-append all (references_of (get_or fields i field)) (flat_map references_of (drop (i + 1) fields))
    ∙ ap (λ f. option_or (missing_among all (references_of f)) (missing_among all (flat_map references_of (drop (i + 1) fields)))) (sym h)

three : (a b c : ℕ × ℕ) (p q r : Bool) → nat_lt b.0 a.0 ≡ p → nat_lt c.0 b.0 ≡ q → nat_lt c.0 a.0 ≡ r
    → lesser (cond p (Some b) (Some a)) (Some c) ≡ lesser (Some a) (cond q (Some c) (Some b))
three a b c true true r e f g = let h : nat_lt c.0 a.0 ≡ true = grind (arith, nat_tests) in ap (λ x. cond x (Some c) (Some b)) f ∙ sym (ap (λ x. cond x (Some c) (Some a)) h)
three a b c true false r e f g = ap (λ x. cond x (Some c) (Some b)) f ∙ sym (ap (λ x. cond x (Some b) (Some a)) e)
three a b c false true r e f g = refl
three a b c false false r e f g = let h : nat_lt c.0 a.0 ≡ false = grind (arith, nat_tests) in ap (λ x. cond x (Some c) (Some a)) h ∙ sym (ap (λ x. cond x (Some b) (Some a)) e)

lesser_none : (b : Bool) (x y : ℕ × ℕ) → lesser (cond b (Some x) (Some y)) None ≡ cond b (Some x) (Some y)
lesser_none true x y = refl
lesser_none false x y = refl

-- of three faults it is all one which two are compared first
pub lesser_lesser : (a b c : Option (ℕ × ℕ)) → lesser (lesser a b) c ≡ lesser a (lesser b c)
lesser_lesser None b c = refl
lesser_lesser (Some a) None c = refl
lesser_lesser (Some a) (Some b) None = lesser_none (nat_lt b.0 a.0) b a
lesser_lesser (Some a) (Some b) (Some c) = three a b c _ _ _ refl refl refl

-- the least fault from index i on
pub least_step : (fault : Entity → Option ℕ) (es : List Entity) (i : ℕ) (e : Entity) → slice_get es i ≡ Some e
    → least_fault fault (drop i es) ≡ lesser (option_map (λ x. (e.number, x)) (fault e)) (least_fault fault (drop (i + 1) es))
least_step fault [] zero e h = cc
least_step fault [] (suc i) e h = cc
least_step fault (x ∷ es) zero e h =
    let same : x ≡ e = cc in
    ap (λ (y : Entity). lesser (option_map (λ n. (y.number, n)) (fault y)) (least_fault fault es)) same
least_step fault (x ∷ es) (suc i) e h = rw add-one (rw add-one at (least_step fault es i e h))

-- one more entity looked at
pub least_more : (fault : Entity → Option ℕ) (es : List Entity) (i : ℕ) (e : Entity) (x : Option ℕ) (least one next : Option (ℕ × ℕ))
    → next ≡ lesser least one → one ≡ option_map (λ n. (e.number, n)) x → x ≡ fault e → slice_get es i ≡ Some e
    → lesser least (least_fault fault (drop i es)) ≡ least_fault fault es → lesser next (least_fault fault (drop (i + 1) es)) ≡ least_fault fault es
least_more fault es i e x least one next p q r at h =
    let rest = least_fault fault (drop (i + 1) es) in
    ap (λ o. lesser o rest) p ∙ lesser_lesser least one rest
    ∙ ap (λ o. lesser least (lesser o rest)) (q ∙ ap (option_map (λ n. (e.number, n))) r) ∙ ap (lesser least) (sym (least_step fault es i e at)) ∙ h

-- one more entity copied
pub take_next : (es : List Entity) (i : ℕ) (x y : Entity) (old next : List Entity) → next ≡ old ++ y ∷ [] → y ≡ x → old ≡ take i es → slice_get es i ≡ Some x → next ≡ take (i + 1) es
take_next es i x y old next n c o at =
    n ∙ ap (λ z. old ++ z ∷ []) c ∙ ap (λ l. l ++ x ∷ []) o
    ∙ sym (take_more es i x (slice_get_within es i x at) ∙ ap (λ z. take i es ++ z ∷ []) (get_or_from_slice_get es i x x at))
