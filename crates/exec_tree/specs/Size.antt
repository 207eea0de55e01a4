-- How many nodes an expression has, each reference written out.
use Rattle.std.specs.Prelude.{ℕ, zero, suc, Bool, if◌then◌else◌, List, map, sum, Option}
use Rattle.std.specs.Option.{option_map_or}
use Rattle.entity_types.specs.declared.class.Class.{Class}
use Rattle.entity_types.specs.declared.class.Class.TheVariants.{ComparisonEqual, NcProduct}
use Rattle.entity_types.specs.declared.field.Field.{Field}
use Rattle.entity_types.specs.declared.field.Field.TheVariants.{Ref, Refs, Value}
use Rattle.entity_types.specs.declared.entity.Entity.{Entity}
use Rattle.entity_types.specs.Target.{is_class_between}
use Rattle.exec_tree.specs.declared.limits.TheConstants.{MAX_EXPRESSION_NODES}
use Rattle.exec_tree.specs.Executable.{expression_of}

-- a comparison, a logical expression, a sum, a difference or a product
abbrev pub is_operator : Class → Bool
is_operator class = is_class_between ComparisonEqual NcProduct class

-- the nodes of an operand: a number is one
abbrev pub operand_size : (ℕ → ℕ) → Field → ℕ
operand_size below (Ref n) = below n
operand_size below (Refs ns) = sum (map below ns)
operand_size below (Value x) = 1
operand_size below _ = 0

abbrev pub operands_size : (ℕ → ℕ) → List Field → ℕ
operands_size below fields = sum (map (operand_size below) fields)

-- the nodes of a constant or a variable, or of an operator with its operands
abbrev pub size_of : (ℕ → ℕ) → Entity → ℕ
size_of below entity = suc (if is_operator entity.class then operands_size below entity.fields else 0)

-- the nodes of expression n in its first so many levels, each reference written out
unfoldable pub size : (ℕ → Option Entity) → ℕ → ℕ → ℕ
size entities zero n = 0
size entities (suc levels) n = option_map_or (λ entity. size_of (λ m. size entities levels m) entity) (entities n) 0

-- the nodes of an executable's expression. What has more than there may be has more in one level more than that, as each
-- level has one
abbrev pub expression_size_of : (ℕ → ℕ) → Entity → ℕ
expression_size_of below entity = option_map_or (operand_size below) (expression_of entity) 0

abbrev pub expression_size : (ℕ → Option Entity) → ℕ → ℕ
expression_size entities n = option_map_or (expression_size_of (λ m. size entities (suc MAX_EXPRESSION_NODES) m)) (entities n) 0
