-- How many elements of a node can be picked.
use Rattle.std.specs.Prelude.{◌≡◌, ◌<◌, ℕ, zero, suc, List, [], ◌∷◌, length, slice_get, slice_index, Some, None}
use Rattle.std.proofs.Common.{◌∙◌, ap}
use Rattle.exec_tree.specs.declared.kind.Kind.{Kind}
use Rattle.exec_tree.specs.declared.node.BareNode.{BareNode}
use Rattle.run_frames.specs.Told.{room_in, room_of, rooms_of}
use Rattle.run_frames.specs.Entered.{IsNode}

some_node : (a b : BareNode) → Some a ≡ Some b → a ≡ b
some_node a b h = cc

pub room_at : (arena : List BareNode) (p : ℕ) (node : BareNode) → slice_get arena p ≡ Some node → slice_index (rooms_of arena) p ≡ room_of node
room_at [] p node h = absurd (let w : None ≡ Some node = h in cc)
room_at (other ∷ arena) zero node h = ap room_of (some_node other node h)
room_at (other ∷ arena) (suc p) node h = room_at arena p node h

pub room_there : (arena : List BareNode) (p : ℕ) (k : Kind) (elements : List ℕ) → IsNode arena p k elements → slice_index (rooms_of arena) p ≡ room_in k (length elements)
room_there arena p k elements n =
    room_at arena p n.node n.at ∙ (ap (λ (j : Kind). room_in j (length n.node.elements)) n.kind_is ∙ ap (λ (qs : List ℕ). room_in k (length qs)) n.elements_are)
