-- The expressions of a store as plain trees, each reference written out (ISO 14649-10, expressions).
use Rattle.std.specs.Prelude.{ℕ, zero, suc, pos, Bool, true, false, List, [], ◌∷◌, Option}
use Rattle.std.specs.Option.{option_map_or}
use Rattle.entity_types.specs.declared.field.Field.{Field}
use Rattle.entity_types.specs.declared.field.Field.TheVariants.{Ref, Value}
use Rattle.entity_types.specs.declared.entity.Entity.{Entity}
use Rattle.entity_types.specs.Entity.{field_of, references_of}
use Rattle.nc_expr.specs.Term.{Term, Written, Variable, Sum, Difference, Product, Test, Constant, Compares, And, Or, Xor, Not}
use Rattle.exec_tree.specs.declared.classes.ValueKind.{ValueKind}
use Rattle.exec_tree.specs.declared.classes.ValueKind.TheVariants as value
use Rattle.exec_tree.specs.declared.classes.TestKind.{TestKind}
use Rattle.exec_tree.specs.declared.classes.TestKind.TheVariants as test
use Rattle.exec_tree.specs.Classes.{value_kind, test_kind}

-- ---- values

abbrev pub constant_by : Field → Term
constant_by (Value x) = Written x
constant_by _ = Written (pos 0)

abbrev pub constant_term : Option Field → Term
constant_term field = option_map_or constant_by field (Written (pos 0))

abbrev pub operand_by : (ℕ → Term) → Field → Term
operand_by below (Ref n) = below n
operand_by below (Value x) = Written x
operand_by below _ = Written (pos 0)

abbrev pub operand_term : (ℕ → Term) → Option Field → Term
operand_term below field = option_map_or (operand_by below) field (Written (pos 0))

abbrev pub term_by : ValueKind → (ℕ → Term) → ℕ → Entity → Term
term_by value.Variable below n entity = Variable n
term_by value.Constant below n entity = constant_term (field_of entity 2)
term_by value.Sum below n entity = Sum (operand_term below (field_of entity 1)) (operand_term below (field_of entity 2))
term_by value.Difference below n entity = Difference (operand_term below (field_of entity 1)) (operand_term below (field_of entity 2))
term_by value.Product below n entity = Product (operand_term below (field_of entity 1)) (operand_term below (field_of entity 2))
term_by value.Other below n entity = Written (pos 0)

abbrev pub entity_term : (ℕ → Term) → ℕ → Entity → Term
entity_term below n entity = term_by (value_kind entity.class) below n entity

-- the value n, its first so many levels written out
unfoldable pub term_from : (ℕ → Option Entity) → ℕ → ℕ → Term
term_from entities zero n = Written (pos 0)
term_from entities (suc levels) n = option_map_or (λ entity. entity_term (λ m. term_from entities levels m) n entity) (entities n) (Written (pos 0))

-- ---- conditions

abbrev pub operand_test_by : (ℕ → Test) → Field → Test
operand_test_by below (Ref n) = below n
operand_test_by below _ = Constant false

abbrev pub operand_test : (ℕ → Test) → Option Field → Test
operand_test below field = option_map_or (operand_test_by below) field (Constant false)

abbrev pub join : Bool → Test → Test → Test
join true first later = And first later
join false first later = Or first later

abbrev pub listed : Option Field → List ℕ
listed field = option_map_or references_of field []

-- all of these, or one of them
abbrev pub list_test : (ℕ → Test) → Bool → List ℕ → Test
list_test below all [] = Constant all
list_test below all (n ∷ ns) = join all (below n) (list_test below all ns)

abbrev pub test_by : TestKind → (ℕ → Term) → (ℕ → Test) → Entity → Test
test_by (test.Compares r) terms below entity = Compares r (operand_term terms (field_of entity 1)) (operand_term terms (field_of entity 2))
test_by test.All terms below entity = list_test below true (listed (field_of entity 1))
test_by test.Some terms below entity = list_test below false (listed (field_of entity 1))
test_by test.Either terms below entity = Xor (operand_test below (field_of entity 1)) (operand_test below (field_of entity 2))
test_by test.Not terms below entity = Not (operand_test below (field_of entity 1))
test_by test.Other terms below entity = Constant false

abbrev pub entity_test : (ℕ → Term) → (ℕ → Test) → Entity → Test
entity_test terms below entity = test_by (test_kind entity.class) terms below entity

-- the condition n, its first so many levels written out
unfoldable pub test_from : (ℕ → Option Entity) → ℕ → ℕ → Test
test_from entities zero n = Constant false
test_from entities (suc levels) n = option_map_or (λ entity. entity_test (λ m. term_from entities levels m) (λ m. test_from entities levels m) entity) (entities n) (Constant false)
