-- Deeper levels change nothing of an expression that is seen whole.
use Rattle.std.specs.Prelude.{◌≡◌, ◌<◌, ◌≤◌, ◌==◌, ℕ, zero, suc, pos, Bool, true, false, if◌then◌else◌, List, [], ◌∷◌, map, sum, Option, Some, None}
use Rattle.std.specs.Option.{option_map_or}
use Rattle.std.proofs.Common.{refl, ap, arith}
use Rattle.entity_types.specs.declared.class.Class.{Class}
use Rattle.entity_types.specs.declared.class.Class.TheVariants.{NcSum, NcDifference, NcProduct, ComparisonEqual, ComparisonNotEqual, ComparisonGreater, ComparisonGreaterEqual, ComparisonLess, ComparisonLessEqual, AndExpression, OrExpression, XorExpression, NotExpression}
use Rattle.entity_types.specs.declared.field.Field.{Field}
use Rattle.entity_types.specs.declared.field.Field.TheVariants.{Absent, Present, Ref, Value, Refs, Values}
use Rattle.entity_types.specs.declared.entity.Entity.{Entity}
use Rattle.entity_types.specs.declared.table.UsedPosition.{UsedPosition}
use Rattle.entity_types.specs.Entity.{field_at, field_of, references_of}
use Rattle.entity_types.specs.Table.{used_of}
use Rattle.exec_tree.specs.Size.{is_operator, operand_size, operands_size, size_of, size}
use Rattle.exec_tree.proofs.WholeLemmas.{sum_next}
use Rattle.exec_tree.specs.declared.classes.ValueKind.{ValueKind}
use Rattle.exec_tree.specs.declared.classes.ValueKind.TheVariants as value
use Rattle.exec_tree.specs.declared.classes.TestKind.{TestKind}
use Rattle.exec_tree.specs.declared.classes.TestKind.TheVariants as test
use Rattle.exec_tree.specs.Classes.{value_kind, test_kind}
use Rattle.nc_expr.specs.Term.{Term, Written, Sum, Difference, Product, Test, Constant, Not}
use Rattle.exec_tree.specs.Terms.{term_by, operand_by, operand_term, entity_term, term_from, operand_test_by, operand_test, listed, list_test, test_by, entity_test, test_from}

no_way : false ≡ true → ⊥
no_way h = absurd (cc)

-- ---- an operand is one of the fields

among : (s : ℕ → ℕ) (used : List UsedPosition) (fields : List Field) (p : ℕ) (field : Field) → field_at used fields p ≡ Some field → operand_size s field ≤ operands_size s fields
among s [] fields p field e = absurd (cc)
among s (u ∷ used) [] p field e = absurd (cc)
among s (u ∷ used) (first ∷ fields) p field e = go (u.position == p) e (among s used fields p field)
  where
    go : (b : Bool) → (if b then Some first else field_at used fields p) ≡ Some field → (field_at used fields p ≡ Some field → operand_size s field ≤ operands_size s fields) → operand_size s field ≤ operands_size s (first ∷ fields)
    go true f r =
        let is : first ≡ field = cc in
        let here : operand_size s first ≡ operand_size s field = ap (operand_size s) is in
        omega (arith, here, sum_next (operand_size s) first fields)
    go false f r = let l = r f in omega (arith, l, sum_next (operand_size s) first fields)

-- ---- values

abbrev is_compound : ValueKind → Bool
is_compound value.Sum = true
is_compound value.Difference = true
is_compound value.Product = true
is_compound _ = false

compound : (class : Class) → is_compound (value_kind class) ≡ true → is_operator class ≡ true
compound NcSum h = refl
compound NcDifference h = refl
compound NcProduct h = refl
compound _ h = absurd (no_way h)

small : (s : ℕ → ℕ) (k : ℕ) (entity : Entity) → is_operator entity.class ≡ true → size_of s entity < suc k → operands_size s entity.fields < k
small s k entity o l = let i : suc (operands_size s entity.fields) < suc k = rw o at l in omega (arith, i)

operand_same : (s : ℕ → ℕ) (f g : ℕ → Term) (k : ℕ) (entity : Entity) (p : ℕ) → ((m : ℕ) → s m < k → g m ≡ f m) → operands_size s entity.fields < k
    → operand_term g (field_of entity p) ≡ operand_term f (field_of entity p)
operand_same s f g k entity p h l = go (field_of entity p) refl
  where
    one : (field : Field) → operand_size s field < k → operand_by g field ≡ operand_by f field
    one (Ref n) i = h n i
    one Absent i = refl
    one Present i = refl
    one (Value x) i = refl
    one (Refs ns) i = refl
    one (Values c x y z) i = refl

    go : (o : Option Field) → field_of entity p ≡ o → operand_term g o ≡ operand_term f o
    go None e = refl
    go (Some field) e = one field (omega (arith, l, among s (used_of entity.class) entity.fields p field e))

term_same : (s : ℕ → ℕ) (f g : ℕ → Term) (k n : ℕ) (entity : Entity) → ((m : ℕ) → s m < k → g m ≡ f m) → size_of s entity < suc k → entity_term g n entity ≡ entity_term f n entity
term_same s f g k n entity h l = go (value_kind entity.class) (λ c. small s k entity (compound entity.class c) l)
  where
    both : (make : Term → Term → Term) → operands_size s entity.fields < k
        → make (operand_term g (field_of entity 1)) (operand_term g (field_of entity 2)) ≡ make (operand_term f (field_of entity 1)) (operand_term f (field_of entity 2))
    both make i = rw (operand_same s f g k entity 1 h i, operand_same s f g k entity 2 h i) refl

    go : (v : ValueKind) → (is_compound v ≡ true → operands_size s entity.fields < k) → term_by v g n entity ≡ term_by v f n entity
    go value.Variable i = refl
    go value.Constant i = refl
    go value.Sum i = both Sum (i refl)
    go value.Difference i = both Difference (i refl)
    go value.Product i = both Product (i refl)
    go value.Other i = refl

pub term_whole : (entities : ℕ → Option Entity) (k l n : ℕ) → size entities k n < k → k ≤ l → term_from entities l n ≡ term_from entities k n
unfolding size term_from
term_whole entities zero l n h i = absurd (omega arith)
term_whole entities (suc k) zero n h i = absurd (omega arith)
term_whole entities (suc k) (suc l) n h i = go (entities n) h (λ m j. term_whole entities k l m j (omega arith))
  where
    go : (found : Option Entity) → option_map_or (λ entity. size_of (λ m. size entities k m) entity) found 0 < suc k → ((m : ℕ) → size entities k m < k → term_from entities l m ≡ term_from entities k m)
        → option_map_or (λ entity. entity_term (λ m. term_from entities l m) n entity) found (Written (pos 0)) ≡ option_map_or (λ entity. entity_term (λ m. term_from entities k m) n entity) found (Written (pos 0))
    go None j f = refl
    go (Some entity) j f = term_same (λ m. size entities k m) (λ m. term_from entities k m) (λ m. term_from entities l m) k n entity f j

-- ---- conditions

abbrev is_test : TestKind → Bool
is_test test.Other = false
is_test _ = true

tested : (class : Class) → is_test (test_kind class) ≡ true → is_operator class ≡ true
tested ComparisonEqual h = refl
tested ComparisonNotEqual h = refl
tested ComparisonGreater h = refl
tested ComparisonGreaterEqual h = refl
tested ComparisonLess h = refl
tested ComparisonLessEqual h = refl
tested AndExpression h = refl
tested OrExpression h = refl
tested XorExpression h = refl
tested NotExpression h = refl
tested _ h = absurd (no_way h)

test_operand_same : (s : ℕ → ℕ) (f g : ℕ → Test) (k : ℕ) (entity : Entity) (p : ℕ) → ((m : ℕ) → s m < k → g m ≡ f m) → operands_size s entity.fields < k
    → operand_test g (field_of entity p) ≡ operand_test f (field_of entity p)
test_operand_same s f g k entity p h l = go (field_of entity p) refl
  where
    one : (field : Field) → operand_size s field < k → operand_test_by g field ≡ operand_test_by f field
    one (Ref n) i = h n i
    one Absent i = refl
    one Present i = refl
    one (Value x) i = refl
    one (Refs ns) i = refl
    one (Values c x y z) i = refl

    go : (o : Option Field) → field_of entity p ≡ o → operand_test g o ≡ operand_test f o
    go None e = refl
    go (Some field) e = one field (omega (arith, l, among s (used_of entity.class) entity.fields p field e))

numbers_same : (s : ℕ → ℕ) (f g : ℕ → Test) (k : ℕ) (all : Bool) (ns : List ℕ) → ((m : ℕ) → s m < k → g m ≡ f m) → sum (map s ns) < k → list_test g all ns ≡ list_test f all ns
numbers_same s f g k all [] h l = refl
numbers_same s f g k all (n ∷ ns) h l =
    let a = sum_next s n ns in
    let here = h n (omega (arith, a, l)) in
    let later = numbers_same s f g k all ns h (omega (arith, a, l)) in
    rw (here, later) refl

list_same : (s : ℕ → ℕ) (f g : ℕ → Test) (k : ℕ) (all : Bool) (entity : Entity) (p : ℕ) → ((m : ℕ) → s m < k → g m ≡ f m) → operands_size s entity.fields < k
    → list_test g all (listed (field_of entity p)) ≡ list_test f all (listed (field_of entity p))
list_same s f g k all entity p h l = go (field_of entity p) refl
  where
    one : (field : Field) → operand_size s field < k → list_test g all (references_of field) ≡ list_test f all (references_of field)
    one (Ref n) i = let e = h n i in rw e refl
    one Absent i = refl
    one Present i = refl
    one (Value x) i = refl
    one (Refs ns) i = numbers_same s f g k all ns h i
    one (Values c x y z) i = refl

    go : (o : Option Field) → field_of entity p ≡ o → list_test g all (listed o) ≡ list_test f all (listed o)
    go None e = refl
    go (Some field) e = one field (omega (arith, l, among s (used_of entity.class) entity.fields p field e))

test_same : (s : ℕ → ℕ) (tf tg : ℕ → Term) (f g : ℕ → Test) (k : ℕ) (entity : Entity) → ((m : ℕ) → s m < k → tg m ≡ tf m) → ((m : ℕ) → s m < k → g m ≡ f m) → size_of s entity < suc k
    → entity_test tg g entity ≡ entity_test tf f entity
test_same s tf tg f g k entity th h l = go (test_kind entity.class) (λ c. small s k entity (tested entity.class c) l)
  where
    go : (v : TestKind) → (is_test v ≡ true → operands_size s entity.fields < k) → test_by v tg g entity ≡ test_by v tf f entity
    go (test.Compares r) i = rw (operand_same s tf tg k entity 1 th (i refl), operand_same s tf tg k entity 2 th (i refl)) refl
    go test.All i = list_same s f g k true entity 1 h (i refl)
    go test.Some i = list_same s f g k false entity 1 h (i refl)
    go test.Either i = rw (test_operand_same s f g k entity 1 h (i refl), test_operand_same s f g k entity 2 h (i refl)) refl
    go test.Not i = ap Not (test_operand_same s f g k entity 1 h (i refl))
    go test.Other i = refl

pub test_whole : (entities : ℕ → Option Entity) (k l n : ℕ) → size entities k n < k → k ≤ l → test_from entities l n ≡ test_from entities k n
unfolding size test_from
test_whole entities zero l n h i = absurd (omega arith)
test_whole entities (suc k) zero n h i = absurd (omega arith)
test_whole entities (suc k) (suc l) n h i =
    go (entities n) h (λ m j. term_whole entities k l m j (omega arith)) (λ m j. test_whole entities k l m j (omega arith))
  where
    go : (found : Option Entity) → option_map_or (λ entity. size_of (λ m. size entities k m) entity) found 0 < suc k
        → ((m : ℕ) → size entities k m < k → term_from entities l m ≡ term_from entities k m) → ((m : ℕ) → size entities k m < k → test_from entities l m ≡ test_from entities k m)
        → option_map_or (λ entity. entity_test (λ m. term_from entities l m) (λ m. test_from entities l m) entity) found (Constant false)
        ≡ option_map_or (λ entity. entity_test (λ m. term_from entities k m) (λ m. test_from entities k m) entity) found (Constant false)
    go None j tf f = refl
    go (Some entity) j tf f = test_same (λ m. size entities k m) (λ m. term_from entities k m) (λ m. term_from entities l m) (λ m. test_from entities k m) (λ m. test_from entities l m) k entity tf f j
