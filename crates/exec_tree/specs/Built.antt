-- What is seen of a tree, and when it is a store's.
use Rattle.std.specs.Prelude.{◌≡◌, ◌<◌, ◌≤◌, ◌^◌, ◌==◌, ℕ, Bool, true, false, unwrap_or, if◌then◌else◌, List, [], ◌∷◌, length, map, find, slice_get, Option, None}
use Rattle.std.specs.Option.{option_map_or}
use Rattle.std.specs.List.{filter, filter_map}
use Rattle.std.specs.Ordering.{nat_cmp}
use Rattle.std.specs.BTreeMap.{BTreeMap, get}
use Rattle.entity_types.specs.declared.entity.Entity.{Entity}
use Rattle.project_store.specs.Build.{projects_of}
use Rattle.exec_tree.specs.declared.limits.TheConstants.{MAX_TREE_NESTING, MAX_CHANNELS}
use Rattle.exec_tree.specs.Exec.{AreDistinct, HasChoices}
use Rattle.exec_tree.specs.Exec as exec
use Rattle.exec_tree.specs.declared.kind.Kind.{Kind}
use Rattle.exec_tree.specs.declared.kind.Kind.TheVariants as kind
use Rattle.exec_tree.specs.declared.node.BareNode.{BareNode}
use Rattle.exec_tree.specs.declared.role.Role.{Role}
use Rattle.exec_tree.specs.declared.role.Role.TheVariants.{Free}
use Rattle.exec_tree.specs.Executable.{kind_at, reference_at}
use Rattle.exec_tree.specs.Arena.{tree_down, numbers_in, IsClosed, AreShaped, AreNamed, labels_in}
use Rattle.exec_tree.specs.Said.{Said, said_at}
use Rattle.exec_tree.specs.Role.{role_said}
use Rattle.exec_tree.specs.TreeFault.{Seen, nothing_seen, seen_after, walk_of, first_fault_from}
use Rattle.exec_tree.specs.TreeOf.{tree_of}
use Rattle.exec_tree.specs.Walked.{place_from, number_among, label_of}

-- the nodes by place, what each says, and the channels by number
pub record TreeValue : Type 0 where
  pub nodes : List BareNode
  pub said : List Said
  pub channels : List ℕ

-- the node is a workingstep
abbrev pub is_work : Kind → Bool
is_work kind.Work = true
is_work _ = false

-- what an arena tells of its nodes by number: the node, its channel, and of the workingsteps the numbers in order
abbrev pub node_in : List BareNode → ℕ → Option BareNode
node_in nodes n = option_map_or (λ p. slice_get nodes p) (place_from 0 nodes n) None

abbrev pub channel_in : List BareNode → ℕ → ℕ
channel_in nodes n = option_map_or (λ node. node.channel) (node_in nodes n) 0

abbrev pub step_of : BareNode → Option ℕ
step_of node = if is_work node.kind then node.number else None

abbrev pub steps_in : List BareNode → List ℕ
steps_in nodes = filter_map step_of nodes

-- what the node of this number says
abbrev pub said_in : TreeValue → ℕ → Option Said
said_in tree n = option_map_or (λ p. slice_get tree.said p) (place_from 0 tree.nodes n) None

-- the role of the node of this number
abbrev pub role_in : TreeValue → ℕ → Role
role_in tree n = option_map_or role_said (said_in tree n) Free

-- the number of the node at place 0, which a tree's walk began with
abbrev pub main_in : List BareNode → ℕ
main_in [] = 0
main_in (node ∷ nodes) = unwrap_or node.number 0

-- the map tells each node's place; the elements of a node lie after it, and are as many as its kind has; the numbers stand in preorder; in the tree each number stands once
-- and each selective has an element; the steps are those of the nodes; there aren't too many channels
pub record IsTree (places : BTreeMap ℕ ℕ) (nodes : List BareNode) (steps channels : List ℕ) : Type 0 where
  pub at : (q : ℕ) → get nat_cmp places q ≡ place_from 0 nodes q
  pub closed : IsClosed nodes 0 (length nodes)
  pub shaped : AreShaped nodes
  pub named : AreNamed nodes
  pub preorder : numbers_in nodes ≡ exec.nodes (tree_down nodes MAX_TREE_NESTING 0)
  pub distinct : AreDistinct (exec.nodes (tree_down nodes MAX_TREE_NESTING 0))
  pub choices : HasChoices (tree_down nodes MAX_TREE_NESTING 0)
  pub small : length nodes < 2 ^ 32
  pub steps_are : steps ≡ steps_in nodes
  pub few : length channels ≤ MAX_CHANNELS

-- the main workplan of a store
abbrev pub main_among : List Entity → ℕ
main_among [] = 0
main_among (project ∷ others) = unwrap_or (reference_at project 2) 0

abbrev pub main_of : List Entity → ℕ
main_of all = main_among (projects_of all)

-- the channels in the order in which the walk first names them
abbrev pub channels_from : Seen → (ℕ → Option Entity) → ℕ → List ℕ
channels_from start entities main = (seen_after entities start (walk_of entities main)).channels

abbrev pub channels_of : (ℕ → Option Entity) → ℕ → List ℕ
channels_of entities main = channels_from nothing_seen entities main

-- the store has no fault, and the arena holds its tree, its channels, what is said of each node, and what each says
pub record IsTreeFrom (start : Seen) (entities : ℕ → Option Entity) (main : ℕ) (tree : TreeValue) : Type 0 where
  pub no_fault : first_fault_from start entities main ≡ None
  pub held : tree_down tree.nodes MAX_TREE_NESTING 0 ≡ tree_of entities main
  pub channels : tree.channels ≡ channels_from start entities main
  pub labels : labels_in tree.nodes ≡ map (label_of entities (channels_from start entities main)) (walk_of entities main)
  pub said : tree.said ≡ map (said_at entities) tree.nodes

abbrev pub IsTreeOf : (ℕ → Option Entity) → ℕ → TreeValue → Type 0
IsTreeOf entities main tree = IsTreeFrom nothing_seen entities main tree

-- the channel's number of node n: of the nearest workplan, itself included, that names one, else 0
abbrev pub channel_from : Seen → (ℕ → Option Entity) → ℕ → ℕ → ℕ
channel_from start entities main n = option_map_or (λ v. number_among (channels_from start entities main) v.channel) (find (λ v. v.number == n) (walk_of entities main)) 0

abbrev pub channel_of : (ℕ → Option Entity) → ℕ → ℕ → ℕ
channel_of entities main n = channel_from nothing_seen entities main n

-- the workingsteps, in preorder
abbrev pub steps_of : (ℕ → Option Entity) → ℕ → List ℕ
steps_of entities main = filter (λ n. is_work (kind_at (entities n))) (map (λ v. v.number) (walk_of entities main))
