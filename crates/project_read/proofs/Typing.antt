-- The entities of instances in a row.
use Rattle.std.proofs.Common.{◌≡◌, ℕ, suc, ◌+◌, ◌<◌, List, [], ◌∷◌, ◌++◌, length, map, take, drop, get_or, Result, Ok, Err, refl, sym, ap, ◌∙◌, add-one, drop-cons}
use Rattle.std.proofs.Math.Seq.{take-suc}
use Rattle.std.proofs.lemmas.List.{take-append-drop, map-append}
use Rattle.p21_parse.specs.declared.exchange.Instance.{Instance}
use Rattle.p21_parse.specs.Tree.{InstanceTree}
use Rattle.p21_parse.specs.Allowed.{own_number_of}
use Rattle.p21_parse.specs.View.{instance_of}
use Rattle.entity_types.specs.declared.entity.Entity.{Entity}
use Rattle.entity_types.specs.declared.field.Field.{Field}
use Rattle.entity_read.specs.declared.error.TypeErr.{TypeErr}
use Rattle.entity_read.specs.declared.error.TypeErr.TheVariants as types
use Rattle.entity_read.specs.Typed.{EntityTree, entity_of, fields_of, typed_of, Types}
use Rattle.project_store.specs.Entities.{numbers_of}
use Rattle.project_read.specs.Errors.{from_type}
use Rattle.project_read.specs.Typing.{with_typed, all_typed}
use Rattle.project_read.specs.Reads.{AllTyped}

ok_parts : (n : ℕ) (r : Result EntityTree ℕ) (rest : Result (List EntityTree) TypeErr) (es : List EntityTree) → with_typed n r rest ≡ Ok es
    → (t : EntityTree) × (ts : List EntityTree) × (r ≡ Ok t) × (rest ≡ Ok ts) × (es ≡ t ∷ ts)
ok_parts n (Ok t) (Ok ts) es e = (t, ts, refl, refl, cc)
ok_parts n (Ok t) (Err f) es e = absurd (cc)
ok_parts n (Err p) rest es e = absurd (cc)

typed_more : (is : List InstanceTree) (i : InstanceTree) (es : List EntityTree) (e : EntityTree) → all_typed is ≡ Ok es → typed_of i ≡ Ok e → all_typed (is ++ i ∷ []) ≡ Ok (es ++ e ∷ [])
typed_more [] i es e all one =
    let none : es ≡ [] = cc in
    rw (one, none) refl
typed_more (j ∷ is) i es e all one =
    let h = ok_parts j.number (typed_of j) (all_typed is) es all in
    ap (λ (r : Result EntityTree ℕ). with_typed j.number r (all_typed (is ++ i ∷ []))) h.2 ∙ ap (with_typed j.number (Ok h.0)) (typed_more is i h.1 e h.3 one)
    ∙ ap (λ (ts : List EntityTree). Ok (ts ++ e ∷ [])) (sym h.4)

typed_stop : (a : List InstanceTree) (i : InstanceTree) (b : List InstanceTree) (es : List EntityTree) (p : ℕ) → all_typed a ≡ Ok es → typed_of i ≡ Err p → all_typed (a ++ i ∷ b) ≡ Err (types.BadAttribute i.number p)
typed_stop [] i b es p all e = rw e refl
typed_stop (j ∷ a) i b es p all e =
    let h = ok_parts j.number (typed_of j) (all_typed a) es all in
    ap (λ (r : Result EntityTree ℕ). with_typed j.number r (all_typed (a ++ i ∷ b))) h.2 ∙ ap (with_typed j.number (Ok h.0)) (typed_stop a i b h.1 p h.3 e)

-- one instance more has its entity
pub one_typed : (xs : List Instance) (i : ℕ) (x : Instance) (es : List Entity) (e : Entity) → i < length xs → x ≡ get_or xs i x → all_typed (map instance_of (take i xs)) ≡ Ok (map entity_of es)
    → typed_of (instance_of x) ≡ Ok (entity_of e) → all_typed (map instance_of (take (i + 1) xs)) ≡ Ok (map entity_of (es ++ e ∷ []))
one_typed xs i x es e lt is all one =
    let next : take (i + 1) xs ≡ take i xs ++ (x ∷ []) = rw add-one (take-suc xs i x lt ∙ ap (λ (y : Instance). take i xs ++ (y ∷ [])) (sym is)) in
    rw (next, map-append instance_of (take i xs) (x ∷ []), map-append entity_of es (e ∷ [])) (typed_more (map instance_of (take i xs)) (instance_of x) (map entity_of es) (entity_of e) all one)

-- the first instance without an entity
pub one_untyped : (xs : List Instance) (i : ℕ) (x : Instance) (es : List Entity) → i < length xs → x ≡ get_or xs i x → all_typed (map instance_of (take i xs)) ≡ Ok (map entity_of es) → (t : TypeErr) → Types (instance_of x) (Err t)
    → AllTyped (map instance_of xs) (Err (from_type t))
one_untyped xs i x es lt is all (types.BadAttribute n p) said =
    let rest : drop i xs ≡ x ∷ drop (i + 1) xs = rw add-one (drop-cons xs i x lt ∙ ap (λ (y : Instance). y ∷ drop (suc i) xs) (sym is)) in
    let whole : map instance_of xs ≡ map instance_of (take i xs) ++ (instance_of x ∷ map instance_of (drop (i + 1) xs)) =
    ap (map instance_of) (sym (take-append-drop i xs)) ∙ map-append instance_of (take i xs) (drop i xs) ∙ ap (λ (ys : List Instance). map instance_of (take i xs) ++ map instance_of ys) rest in
    rw whole (typed_stop (map instance_of (take i xs)) (instance_of x) (map instance_of (drop (i + 1) xs)) (map entity_of es) p all said.1
    ∙ ap (λ (m : ℕ). Err (types.BadAttribute m p)) (sym said.0))
one_untyped xs i x es lt is all types.NoMemory said = tt

abbrev number_in : Result EntityTree ℕ → ℕ
number_in (Ok u) = u.number
number_in (Err n) = 0

typed_number : (i : InstanceTree) (t : EntityTree) → typed_of i ≡ Ok t → t.number ≡ i.number
typed_number i t e = by (fields_of i) refl
  where
    by : (r : Result (List Field) ℕ) → fields_of i ≡ r → t.number ≡ i.number
    by (Ok fields) h = let f = rw h at e in ap number_in (sym f)
    by (Err position) h = let f = rw h at e in absurd (cc)

abbrev trees : List EntityTree → List EntityTree
trees ts = ts

same_parts : (t u : EntityTree) (ts us : List EntityTree) → trees (t ∷ ts) ≡ trees (u ∷ us) → (t ≡ u) × (ts ≡ us)
same_parts t u ts us e = (cc, cc)

is_some_list : (t : EntityTree) (ts : List EntityTree) → trees [] ≡ trees (t ∷ ts) → ⊥
is_some_list t ts e = absurd (cc)

-- the entities have the numbers of their instances
pub typed_numbers : (is : List InstanceTree) (es : List Entity) → all_typed is ≡ Ok (map entity_of es) → numbers_of es ≡ map own_number_of is
typed_numbers [] [] e = refl
typed_numbers [] (x ∷ es) e = absurd (cc)
typed_numbers (i ∷ is) [] e = let h = ok_parts i.number (typed_of i) (all_typed is) [] e in absurd (is_some_list h.0 h.1 h.4)
typed_numbers (i ∷ is) (x ∷ es) e =
    let h = ok_parts i.number (typed_of i) (all_typed is) (entity_of x ∷ map entity_of es) e in
    let parts = same_parts (entity_of x) h.0 (map entity_of es) h.1 h.4 in
    let first : x.number ≡ i.number = ap (λ (t : EntityTree). t.number) parts.0 ∙ typed_number i h.0 h.2 in
    let rest : all_typed is ≡ Ok (map entity_of es) = h.3 ∙ ap (λ (ts : List EntityTree). Ok ts) (sym parts.1) in
    ap (λ (n : ℕ). n ∷ numbers_of es) first ∙ ap (λ (ns : List ℕ). i.number ∷ ns) (typed_numbers is es rest)
