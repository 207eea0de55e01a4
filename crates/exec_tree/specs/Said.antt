-- What the nodes of a tree say: an if's and a while's condition, an assignment's variable and value, a wait's mark.
use Rattle.std.specs.Prelude.{ℕ, suc, pos, unwrap_or, false, Option, Some, None}
use Rattle.std.specs.Option.{option_map_or}
use Rattle.entity_types.specs.declared.entity.Entity.{Entity}
use Rattle.entity_types.specs.Entity.{field_of}
use Rattle.nc_expr.specs.Term.{Term, Written, Test, Constant, term_of, test_of}
use Rattle.exec_tree.specs.declared.limits.TheConstants.{MAX_EXPRESSION_NODES}
use Rattle.exec_tree.specs.declared.kind.Kind.{Kind}
use Rattle.exec_tree.specs.declared.kind.Kind.TheVariants as kind
use Rattle.exec_tree.specs.declared.kind.NodeKind.{NodeKind}
use Rattle.exec_tree.specs.declared.kind.NodeKind.TheVariants as full
use Rattle.exec_tree.specs.declared.node.Node.{Node}
use Rattle.exec_tree.specs.declared.node.BareNode.{BareNode}
use Rattle.exec_tree.specs.Executable.{reference_at}
use Rattle.exec_tree.specs.Terms.{operand_term, term_from, operand_test, test_from}

-- what a node says: its kind, with the condition of an if, that of a while, an assignment's variable and value, or a wait's mark
pub data Said : Type 0 where
  Plain : Kind → Said
  Branches : Test → Said
  Repeats : Test → Said
  Assigns : ℕ → Term → Said
  Awaits : ℕ → Said

-- what a node's kind says, as plain data
abbrev pub said_of : NodeKind → Said
said_of full.Plan = Plain kind.Plan
said_of full.Par = Plain kind.Par
said_of full.NonSeq = Plain kind.NonSeq
said_of full.Sel = Plain kind.Sel
said_of (full.If condition) = Branches (test_of condition)
said_of (full.While condition) = Repeats (test_of condition)
said_of full.Work = Plain kind.Work
said_of (full.Assign variable value) = Assigns variable (term_of value)
said_of full.Set = Plain kind.Set
said_of (full.Wait mark) = Awaits mark
said_of full.Note = Plain kind.Note

-- the kind alone
abbrev pub kind_in : Said → Kind
kind_in (Plain k) = k
kind_in (Branches condition) = kind.If
kind_in (Repeats condition) = kind.While
kind_in (Assigns variable value) = kind.Assign
kind_in (Awaits mark) = kind.Wait

abbrev pub kind_of_node : NodeKind → Kind
kind_of_node k = kind_in (said_of k)

-- a node without what it says
abbrev pub bare_of : Node → BareNode
bare_of node = record { number = node.number; channel = node.channel; kind = kind_of_node node.kind; elements = node.elements }

-- what a node says
abbrev pub said_by : Node → Said
said_by node = said_of node.kind

-- the condition at 2 of an if or a while
abbrev pub condition_of : (ℕ → Option Entity) → Option Entity → Test
condition_of entities found = option_map_or (λ entity. operand_test (λ m. test_from entities (suc MAX_EXPRESSION_NODES) m) (field_of entity 2)) found (Constant false)

-- the value at 3 of an assignment
abbrev pub assigned_of : (ℕ → Option Entity) → Option Entity → Term
assigned_of entities found = option_map_or (λ entity. operand_term (λ m. term_from entities (suc MAX_EXPRESSION_NODES) m) (field_of entity 3)) found (Written (pos 0))

-- the variable at 2 of an assignment, and the mark at 2 of a wait
abbrev pub target_of : Option Entity → ℕ
target_of found = option_map_or (λ entity. unwrap_or (reference_at entity 2) 0) found 0

-- what an executable of a kind says in a store
abbrev pub said_for : (ℕ → Option Entity) → Kind → Option Entity → Said
said_for entities kind.If found = Branches (condition_of entities found)
said_for entities kind.While found = Repeats (condition_of entities found)
said_for entities kind.Assign found = Assigns (target_of found) (assigned_of entities found)
said_for entities kind.Wait found = Awaits (target_of found)
said_for entities k found = Plain k

abbrev pub found_at : (ℕ → Option Entity) → Option ℕ → Option Entity
found_at entities None = None
found_at entities (Some n) = entities n

-- what a node of a store's tree says; the branch that an if leaves out says nothing but its kind
abbrev pub said_at : (ℕ → Option Entity) → BareNode → Said
said_at entities node = said_for entities node.kind (found_at entities node.number)
