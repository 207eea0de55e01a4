-- Items put, read from the last one.
use Rattle.std.proofs.Common.{◌≡◌, ℕ, ◌+◌, ◌-◌, ◌<◌, ◌≤◌, ◌==◌, Bool, true, false, cond, List, [], ◌∷◌, ◌++◌, length, get_or, take, refl, ap, sym, ◌∙◌, arith}
use Rattle.std.proofs.lemmas.List.{take_more}
use Rattle.std.proofs.lemmas.Bool.{eq-eqb}
use Rattle.std.proofs.lemmas.Bool.Decides.{nat_tests}
use Rattle.std.specs.Prelude.{Option, Some, None}
use Rattle.std.specs.Option.{option_or}
use Rattle.entity_types.specs.declared.entity.Entity.{Entity}
use Rattle.project_store.specs.Put.{put, put_all, last_of}

or_or : (a : Option Entity) (b : Bool) (x : Entity) (o : Option Entity) → option_or a (cond b (Some x) o) ≡ option_or (option_or a (cond b (Some x) None)) o
or_or (Some y) b x o = refl
or_or None true x o = refl
or_or None false x o = refl

-- the last item of a number stands, and without one the store's entity
pub put_all-last_of : (entities : ℕ → Option Entity) (items : List Entity) (n : ℕ) → put_all entities items n ≡ option_or (last_of items n) (entities n)
put_all-last_of entities [] n = refl
put_all-last_of entities (item ∷ items) n = put_all-last_of (put entities item) items n ∙ or_or (last_of items n) (n == item.number) item (entities n)

none_last : (a : Option Entity) → option_or a None ≡ a
none_last None = refl
none_last (Some x) = refl

or_assoc : (b : Bool) (x : Entity) (o p : Option Entity) → option_or (cond b (Some x) o) p ≡ cond b (Some x) (option_or o p)
or_assoc true x o p = refl
or_assoc false x o p = refl

-- one more item behind the others
pub last_of-push : (items : List Entity) (x : Entity) (n : ℕ) → last_of (items ++ x ∷ []) n ≡ cond (n == x.number) (Some x) (last_of items n)
last_of-push [] x n = refl
last_of-push (item ∷ items) x n =
    ap (λ o. option_or o (cond (n == item.number) (Some item) None)) (last_of-push items x n)
    ∙ or_assoc (n == x.number) x (last_of items n) (cond (n == item.number) (Some item) None)

-- the item before the place e is the last of those before it
pub last_of-take : (items : List Entity) (e : ℕ) (x : Entity) (n : ℕ) → 0 < e → e ≤ length items → x ≡ get_or items (e - 1) x
    → last_of (take e items) n ≡ cond (n == x.number) (Some x) (last_of (take (e - 1) items) n)
last_of-take items e x n l h at =
    let place : e ≡ e - 1 + 1 = omega arith in
    let lt : e - 1 < length items = omega arith in
    ap (λ k. last_of (take k items) n) place ∙ ap (λ l. last_of l n) (take_more items (e - 1) x lt)
    ∙ ap (λ y. last_of (take (e - 1) items ++ y ∷ []) n) (sym at) ∙ last_of-push (take (e - 1) items) x n

pub last_of-hit : (items : List Entity) (e : ℕ) (x : Entity) (n : ℕ) → 0 < e → e ≤ length items → x ≡ get_or items (e - 1) x → n ≡ x.number → last_of (take e items) n ≡ Some x
last_of-hit items e x n l h at same =
    last_of-take items e x n l h at ∙ ap (λ b. cond b (Some x) (last_of (take (e - 1) items) n)) (eq-eqb n x.number same)

pub differ : (n m : ℕ) → (n ≡ m → ⊥) → n == m ≡ false
differ n m h = grind (arith, nat_tests)

pub last_of-miss : (items : List Entity) (e : ℕ) (x : Entity) (n : ℕ) → 0 < e → e ≤ length items → x ≡ get_or items (e - 1) x → (n ≡ x.number → ⊥)
    → last_of (take e items) n ≡ last_of (take (e - 1) items) n
last_of-miss items e x n l h at other =
    last_of-take items e x n l h at ∙ ap (λ b. cond b (Some x) (last_of (take (e - 1) items) n)) (differ n x.number other)
