-- The trees that an arena of nodes holds.
use Rattle.std.specs.Prelude.{ℕ, List, [], ◌∷◌, Option}
use Rattle.exec_tree.specs.Exec.{Exec, number_or_none}
use Rattle.exec_tree.specs.Arena.{number_or_zero, tree_down}
use Rattle.exec_tree.specs.Built.{TreeValue}
use Rattle.exec_tree.specs.declared.limits.TheConstants.{MAX_TREE_NESTING}
use Rattle.exec_tree.specs.declared.node.BareNode.{BareNode}
use Rattle.exec_tree.specs.declared.kind.Kind.{Kind}
use Rattle.exec_tree.specs.declared.kind.Kind.TheVariants as kind

-- the tree that a tree's nodes hold, from place 0 on
abbrev pub tree_in : TreeValue → Exec
tree_in tree = tree_down tree.nodes MAX_TREE_NESTING 0

-- the trees at several places
abbrev pub trees_down : List BareNode → ℕ → List ℕ → List Exec
trees_down arena levels [] = []
trees_down arena levels (place ∷ places) = tree_down arena levels place ∷ trees_down arena levels places

-- the number of a node of this kind, before those below it
abbrev pub own_number : Kind → Option ℕ → List ℕ
own_number kind.Plan n = number_or_none n
own_number _ n = number_or_zero n ∷ []
