use Rattle.std.proofs.Common.{ℕ, ◌+◌, ◌*◌, map, take, drop}
use Rattle.std.specs.Prelude.{flat_map, option_copied}
use Rattle.exec_tree.specs.Executable.{parts_at}
use Rattle.exec_tree.specs.Walk.{visits_from, part_walk}
use Rattle.exec_tree.specs.TreeOf.{part_tree, tree_from}
use Rattle.exec_tree.specs.Walked.{AreElements}
use Rattle.exec_tree.proofs.GrowthLemmas.{Goes}
use Rattle.exec_tree.proofs.adding.+growing.Given as goal

abbrev pub decreases-add : goal.decreases-add
decreases-add g l = 3 * l.left

abbrev pub decreases-add_parts : goal.decreases-add_parts
decreases-add_parts g l = 3 * l.left + 2

abbrev pub decreases-add_part : goal.decreases-add_part
decreases-add_part g l = 3 * l.left + 1

abbrev pub invariant-add_parts-loop-i : goal.invariant-add_parts-loop-i
invariant-add_parts-loop-i g l =
    let entities = g.E.Entities.entities l.entities in
    let below = part_walk (λ (m : ℕ). visits_from entities l.left l.channel m) in
    let parts = parts_at (option_copied l.found) in
    record {
      goes : Goes entities l.fn.walk l.walk (flat_map below parts) (flat_map below (drop l.i parts));
      held : AreElements l.fn.walk l.walk l.left l.elements (map (part_tree (λ (m : ℕ). tree_from entities l.left m)) (take l.i parts));
    }
