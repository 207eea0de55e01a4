-- What the builder of a tree holds, and how it grows.
use Rattle.std.specs.Prelude.{◌≡◌, ◌<◌, ◌≤◌, ◌+◌, ◌==◌, ◌^◌, ◌||◌, nat_lt, ℕ, suc, min, Bool, true, false, if◌then◌else◌, List, [], ◌∷◌, ◌++◌, length, map, slice_get, slice_set, Option, Some, None}
use Rattle.std.specs.Option.{option_map_or}
use Rattle.std.specs.Ordering.{nat_cmp}
use Rattle.std.specs.BTreeMap.{BTreeMap, get}
use Rattle.entity_types.specs.declared.entity.Entity.{Entity}
use Rattle.exec_tree.specs.Exec.{Exec, has}
use Rattle.exec_tree.specs.declared.node.BareNode.{BareNode}
use Rattle.exec_tree.specs.declared.limits.TheConstants.{MAX_TREE_NODES, MAX_EXPRESSION_NODES, MAX_CHANNELS}
use Rattle.exec_tree.specs.declared.error.TreeErr.{TreeErr}
use Rattle.exec_tree.specs.declared.error.TreeErr.TheVariants.{NoMemory}
use Rattle.exec_tree.specs.Executable.{kind_at, channel_at}
use Rattle.exec_tree.specs.Size.{expression_size}
use Rattle.exec_tree.specs.Arena.{numbers_in, tree_down, IsClosed, IsKept, AreShapedFrom, AreNamedFrom, Label, labels_in}
use Rattle.exec_tree.specs.Walk.{Visit, channel_below}
use Rattle.exec_tree.specs.TreeFault.{Seen, with_channel, seen_with, first_fault, seen_after}

-- the nodes so far, how many nodes these and their expressions have, and the channels named so far
pub record Walked : Type 0 where
  pub nodes : List BareNode
  pub weight : ℕ
  pub channels : List ℕ
  pub fixed : Bool

abbrev pub seen_of : Walked → Seen
seen_of w = record { numbers = numbers_in w.nodes; weight = w.weight; channels = w.channels; fixed = w.fixed }

-- the node has this number
abbrev pub is_numbered : Option ℕ → ℕ → Bool
is_numbered None q = false
is_numbered (Some n) q = n == q

-- the place of the first node with this number, counted from i
abbrev pub place_from : ℕ → List BareNode → ℕ → Option ℕ
place_from i [] q = None
place_from i (node ∷ nodes) q = if is_numbered node.number q then Some i else place_from (i + 1) nodes q

-- the map tells each node's place, and there aren't too many nodes or channels
pub record AreKnown (places : BTreeMap ℕ ℕ) (nodes : List BareNode) (weight : ℕ) (channels : List ℕ) : Type 0 where
  pub at : (q : ℕ) → get nat_cmp places q ≡ place_from 0 nodes q
  pub light : weight ≤ MAX_TREE_NODES
  pub few : length channels ≤ MAX_CHANNELS
  pub small : length nodes < 2 ^ 32

-- how many of the channels stand before this one
abbrev pub place_among : List ℕ → ℕ → ℕ
place_among [] channel = 0
place_among (first ∷ channels) channel = if first == channel then 0 else suc (place_among channels channel)

-- the number of a channel, or 0 where none is named
abbrev pub number_among : List ℕ → Option ℕ → ℕ
number_among channels None = 0
number_among channels (Some channel) = place_among channels channel

-- the channel has a number, or one is left
abbrev pub has_room : List ℕ → Option ℕ → Bool
has_room channels None = true
has_room channels (Some channel) = has channels channel || nat_lt (length channels) MAX_CHANNELS

-- the node of executable n, before its elements are known
abbrev pub bare : ℕ → List ℕ → Option ℕ → Option Entity → BareNode
bare n channels channel found = record { number = Some n; channel = number_among channels (channel_below channel found); kind = kind_at found; elements = [] }

-- with executable n, its expression, and the channel that it names
abbrev pub entered : (ℕ → Option Entity) → Walked → ℕ → Option ℕ → Walked
entered entities w n channel = record {
  nodes = w.nodes ++ bare n (with_channel w.channels (channel_at (entities n))) channel (entities n) ∷ [];
  weight = w.weight + (1 + min (expression_size entities n) MAX_EXPRESSION_NODES);
  channels = with_channel w.channels (channel_at (entities n));
  fixed = w.fixed;
}

-- the nodes with these elements at a place
abbrev pub with_elements : List BareNode → ℕ → List ℕ → List BareNode
with_elements nodes place elements = option_map_or (λ node. slice_set nodes place (record node { elements = elements })) (slice_get nodes place) nodes

-- the label of a visit, with its channel's number among these
abbrev pub label_of : (ℕ → Option Entity) → List ℕ → Visit → Label
label_of entities channels v = record { number = v.number; channel = number_among channels v.channel; kind = kind_at (entities v.number) }

-- the labels of visits, each with the channels named up to it
abbrev pub labels_from : (ℕ → Option Entity) → Seen → List Visit → List Label
labels_from entities seen [] = []
labels_from entities seen (v ∷ vs) = label_of entities (seen_with entities seen v).channels v ∷ labels_from entities (seen_with entities seen v) vs

-- the builder has gone over these visits without a fault: it holds them too, and its old nodes as they were, and the new ones lie among themselves
pub record Grows (entities : ℕ → Option Entity) (old new : Walked) (visits : List Visit) : Type 0 where
  pub no_fault : first_fault entities (seen_of old) visits ≡ None
  pub seen : seen_of new ≡ seen_after entities (seen_of old) visits
  pub longer : length old.nodes ≤ length new.nodes
  pub kept : IsKept old.nodes new.nodes 0 (length old.nodes)
  pub closed : IsClosed new.nodes (length old.nodes) (length new.nodes)
  pub shaped : AreShapedFrom new.nodes (length old.nodes) (length new.nodes)
  pub named : AreNamedFrom new.nodes (length old.nodes) (length new.nodes)
  pub labels : labels_in new.nodes ≡ labels_in old.nodes ++ labels_from entities (seen_of old) visits

-- the elements are among the new nodes, and hold these trees
pub record AreElements (old new : Walked) (levels : ℕ) (elements : List ℕ) (trees : List Exec) : Type 0 where
  pub within : (q : ℕ) → has elements q ≡ true → (length old.nodes ≤ q) × (q < length new.nodes)
  pub hold : map (tree_down new.nodes levels) elements ≡ trees

-- the tree stands at this place, where the new nodes begin
pub record IsHeld (old new : Walked) (levels place : ℕ) (tree : Exec) : Type 0 where
  pub at : place ≡ length old.nodes
  pub within : place < length new.nodes
  pub held : tree_down new.nodes levels place ≡ tree

-- the fault, unless memory ran out
abbrev pub IsFault : Option TreeErr → TreeErr → Type 0
IsFault fault NoMemory = Unit {0}
IsFault fault e = fault ≡ Some e
