-- The tree that an arena of nodes holds.
use Rattle.std.specs.Prelude.{◌≡◌, ◌<◌, ◌≤◌, option_map, ℕ, zero, suc, true, List, [], ◌∷◌, map, slice_get, Option, Some, None}
use Rattle.std.specs.List.{filter_map}
use Rattle.exec_tree.specs.Exec.{Assigning, Setting, Waiting, Noting, Exec, Work, Leaf, Plan, Par, NonSeq, Sel, If, While, Execs, None_left, Then, has}
use Rattle.exec_tree.specs.declared.kind.Kind.{Kind}
use Rattle.exec_tree.specs.declared.kind.Kind.TheVariants as kind
use Rattle.exec_tree.specs.declared.node.BareNode.{BareNode}

-- elements in order
abbrev pub to_execs : List Exec → Execs
to_execs [] = None_left
to_execs (e ∷ es) = Then e (to_execs es)

abbrev pub number_or_zero : Option ℕ → ℕ
number_or_zero None = 0
number_or_zero (Some n) = n

-- the first element, where there is one
abbrev pub first_of : List Exec → Exec
first_of [] = Plan None None_left
first_of (e ∷ es) = e

-- the second element, where there is one
abbrev pub second_of : List Exec → Exec
second_of [] = Plan None None_left
second_of (e ∷ es) = first_of es

-- an executable of this kind, with this number and these elements
abbrev pub of_kind : Kind → Option ℕ → List Exec → Exec
of_kind kind.Plan n es = Plan n (to_execs es)
of_kind kind.Par n es = Par (number_or_zero n) (to_execs es)
of_kind kind.NonSeq n es = NonSeq (number_or_zero n) (to_execs es)
of_kind kind.Sel n es = Sel (number_or_zero n) (to_execs es)
of_kind kind.If n es = If (number_or_zero n) (first_of es) (second_of es)
of_kind kind.While n es = While (number_or_zero n) (first_of es)
of_kind kind.Work n es = Work (number_or_zero n)
of_kind kind.Assign n es = Leaf (number_or_zero n) Assigning
of_kind kind.Set n es = Leaf (number_or_zero n) Setting
of_kind kind.Wait n es = Leaf (number_or_zero n) Waiting
of_kind kind.Note n es = Leaf (number_or_zero n) Noting

-- the executable of a node, where `below` gives those at its elements' places
abbrev pub of_node : Option BareNode → (ℕ → Exec) → Exec
of_node None below = Plan None None_left
of_node (Some node) below = of_kind node.kind node.number (map below node.elements)

-- the executable at a place, looking at most so many levels down
unfoldable pub tree_down : List BareNode → ℕ → ℕ → Exec
tree_down arena zero place = Plan None None_left
tree_down arena (suc levels) place = of_node (slice_get arena place) (λ q. tree_down arena levels q)

-- the numbers of the nodes, by place
abbrev pub numbers_in : List BareNode → List ℕ
numbers_in arena = filter_map (λ node. node.number) arena

-- the elements of the nodes from one place to another lie among these, each after its own node
abbrev pub IsClosed : List BareNode → ℕ → ℕ → Type 0
IsClosed arena from to = (r q : ℕ) (node : BareNode) → from ≤ r → r < to → slice_get arena r ≡ Some node → has node.elements q ≡ true → (r < q) × (q < to)

-- the nodes from one place to another are the same
abbrev pub IsKept : List BareNode → List BareNode → ℕ → ℕ → Type 0
IsKept arena later from to = (r : ℕ) → from ≤ r → r < to → slice_get later r ≡ slice_get arena r

-- the number of elements that a kind has, where it is fixed
abbrev pub HasArity : Kind → List ℕ → Type 0
HasArity kind.If (a ∷ b ∷ []) = Unit {0}
HasArity kind.If _ = ⊥
HasArity kind.While (a ∷ []) = Unit {0}
HasArity kind.While _ = ⊥
HasArity kind.Plan es = Unit {0}
HasArity kind.Par es = Unit {0}
HasArity kind.NonSeq es = Unit {0}
HasArity kind.Sel es = Unit {0}
HasArity _ es = es ≡ []

-- so many elements have the nodes from one place to another
abbrev pub AreShapedFrom : List BareNode → ℕ → ℕ → Type 0
AreShapedFrom arena from to = (r : ℕ) (node : BareNode) → from ≤ r → r < to → slice_get arena r ≡ Some node → HasArity node.kind node.elements

-- each node has as many elements as its kind
abbrev pub AreShaped : List BareNode → Type 0
AreShaped arena = (p : ℕ) (node : BareNode) → slice_get arena p ≡ Some node → HasArity node.kind node.elements

-- the nodes from one place to another have numbers, but for workplans: the branches that ifs leave out
abbrev pub AreNamedFrom : List BareNode → ℕ → ℕ → Type 0
AreNamedFrom arena from to = (r : ℕ) (node : BareNode) → from ≤ r → r < to → slice_get arena r ≡ Some node → node.number ≡ None → node.kind ≡ kind.Plan

-- each node has a number, or is a workplan
abbrev pub AreNamed : List BareNode → Type 0
AreNamed arena = (p : ℕ) (node : BareNode) → slice_get arena p ≡ Some node → node.number ≡ None → node.kind ≡ kind.Plan

-- what is said of a node beside its elements
pub record Label : Type 0 where
  pub number : ℕ
  pub channel : ℕ
  pub kind : Kind

abbrev pub label_in : BareNode → Option Label
label_in node = option_map (λ n. let label : Label = record { number = n; channel = node.channel; kind = node.kind } in label) node.number

-- the labels of the nodes that have a number, by place
abbrev pub labels_in : List BareNode → List Label
labels_in arena = filter_map label_in arena
