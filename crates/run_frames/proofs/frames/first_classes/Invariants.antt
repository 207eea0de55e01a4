use Rattle.std.proofs.Common.{◌≡◌, ◌<◌, ℕ, [], length}
use Rattle.std.specs.Prelude.{slice_get, Some}
use Rattle.exec_tree.specs.declared.node.BareNode.{BareNode}
use Rattle.place_classes.specs.Classes.{IsClass, class_at}
use Rattle.run_frames.specs.Ready.{class_of}
use Rattle.run_frames.proofs.frames.first_classes.Given as goal

abbrev pub invariant-loop-place : goal.invariant-loop-place
invariant-loop-place l =
    (length l.classes.items ≡ l.place)
    × ((q : ℕ) (node : BareNode) (n : ℕ) → q < l.place → slice_get l.tree.nodes q ≡ Some node → node.number ≡ Some n → class_at l.classes.items q ≡ class_of l.tree [] [] n)
    × ((q : ℕ) → IsClass (class_at l.classes.items q))
