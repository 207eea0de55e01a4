-- The first fault of the walk.
use Rattle.std.specs.Prelude.{ℕ, ◌+◌, ◌==◌, nat_lt, nat_le, min, Bool, true, false, if◌then◌else◌, List, [], ◌∷◌, ◌++◌, length, Option, Some, None}
use Rattle.std.specs.Option.{option_or}
use Rattle.entity_types.specs.declared.entity.Entity.{Entity}
use Rattle.exec_tree.specs.Exec.{has}
use Rattle.exec_tree.specs.Executable.{channel_at}
use Rattle.exec_tree.specs.Size.{expression_size}
use Rattle.exec_tree.specs.Walk.{Visit, visits_from}
use Rattle.exec_tree.specs.declared.limits.TheConstants.{MAX_TREE_NESTING, MAX_TREE_NODES, MAX_EXPRESSION_NODES, MAX_CHANNELS}
use Rattle.exec_tree.specs.declared.error.TreeErr.{TreeErr}
use Rattle.exec_tree.specs.declared.error.TreeErr.TheVariants.{Shared, TooDeep, TooManyNodes, ExprTooBig, TooManyChannels, NewChannel}

-- what the walk has come by: the executables, how many nodes these and their expressions have, and the channels in the order of their first naming
pub record Seen : Type 0 where
  pub numbers : List ℕ
  pub weight : ℕ
  pub channels : List ℕ
  -- the channels are those of a tree before, and none may come
  pub fixed : Bool

abbrev pub nothing_seen : Seen
nothing_seen = record { numbers = []; weight = 0; channels = []; fixed = false }

-- the channels are these, and none may come
abbrev pub seen_before : List ℕ → Seen
seen_before channels = record { numbers = []; weight = 0; channels = channels; fixed = true }

-- an executable counts one, and its expression as many nodes as it has, but at most 1,000
abbrev pub weight_of : (ℕ → Option Entity) → Visit → ℕ
weight_of entities v = 1 + min (expression_size entities v.number) MAX_EXPRESSION_NODES

-- the channels with the one that the executable names
abbrev pub with_channel : List ℕ → Option ℕ → List ℕ
with_channel channels None = channels
with_channel channels (Some channel) = if has channels channel then channels else channels ++ channel ∷ []

abbrev pub names : (ℕ → Option Entity) → Visit → Option ℕ
names entities v = channel_at (entities v.number)

abbrev pub seen_with : (ℕ → Option Entity) → Seen → Visit → Seen
seen_with entities seen v = record {
  numbers = seen.numbers ++ v.number ∷ [];
  weight = seen.weight + weight_of entities v;
  channels = with_channel seen.channels (names entities v);
  fixed = seen.fixed;
}

abbrev pub where_true : Bool → TreeErr → Option TreeErr
where_true b fault = if b then Some fault else None

-- a channel that has no number yet, where there are so many: the ninth, or any where none may come
abbrev pub new_channel_fault : Bool → ℕ → ℕ → Option TreeErr
new_channel_fault true n count = Some (NewChannel n)
new_channel_fault false n count = where_true (nat_le MAX_CHANNELS count) TooManyChannels

abbrev pub channel_fault : Seen → ℕ → Option ℕ → Option TreeErr
channel_fault seen n None = None
channel_fault seen n (Some channel) = if has seen.channels channel then None else new_channel_fault seen.fixed n (length seen.channels)

-- the executable stood earlier in the walk; it has nesting 65; with it there are 65,536 nodes or more; its expression has more than 1,000
-- nodes; it names a channel that may not come: the first that applies
abbrev pub fault_by : Seen → ℕ → ℕ → ℕ → Option ℕ → Option TreeErr
fault_by seen n left size channel =
    option_or (where_true (has seen.numbers n) (Shared n))
    (option_or (where_true (left == 0) (TooDeep n))
    (option_or (where_true (nat_lt MAX_TREE_NODES (seen.weight + (1 + min size MAX_EXPRESSION_NODES))) TooManyNodes)
    (option_or (where_true (nat_lt MAX_EXPRESSION_NODES size) (ExprTooBig n)) (channel_fault seen n channel))))

abbrev pub fault_at : (ℕ → Option Entity) → Seen → Visit → Option TreeErr
fault_at entities seen v = fault_by seen v.number v.left (expression_size entities v.number) (names entities v)

-- the first visit with a fault decides
abbrev pub first_fault : (ℕ → Option Entity) → Seen → List Visit → Option TreeErr
first_fault entities seen [] = None
first_fault entities seen (v ∷ vs) = option_or (fault_at entities seen v) (first_fault entities (seen_with entities seen v) vs)

abbrev pub seen_after : (ℕ → Option Entity) → Seen → List Visit → Seen
seen_after entities seen [] = seen
seen_after entities seen (v ∷ vs) = seen_after entities (seen_with entities seen v) vs

-- the walk from the main workplan, which has nesting 1, and its first fault
abbrev pub walk_of : (ℕ → Option Entity) → ℕ → List Visit
walk_of entities main = visits_from entities MAX_TREE_NESTING None main

abbrev pub first_fault_from : Seen → (ℕ → Option Entity) → ℕ → Option TreeErr
first_fault_from start entities main = first_fault entities start (walk_of entities main)

abbrev pub first_tree_fault : (ℕ → Option Entity) → ℕ → Option TreeErr
first_tree_fault entities main = first_fault_from nothing_seen entities main
