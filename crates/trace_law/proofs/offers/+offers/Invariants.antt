use Rattle.std.proofs.Common.{◌≡◌, ◌+◌, ◌*◌, map, drop}
use Rattle.exec_tree.specs.Arena.{to_execs}
use Rattle.exec_tree.specs.Said.{bare_of}
use Rattle.trace_law.specs.Offer.{offer_among}
use Rattle.trace_law.specs.Below.{trees_down}
use Rattle.trace_law.proofs.offers.+offers.Given as goal

abbrev pub decreases-offer_down : goal.decreases-offer_down
decreases-offer_down l = 3 * l.levels

abbrev pub decreases-offer_of_kind : goal.decreases-offer_of_kind
decreases-offer_of_kind l = 3 * l.levels + 2

abbrev pub decreases-offer_among : goal.decreases-offer_among
decreases-offer_among l = 3 * l.levels + 1

abbrev pub decreases-offer_first : goal.decreases-offer_first
decreases-offer_first l = 3 * l.levels + 1

abbrev pub invariant-offer_among-loop-place : goal.invariant-offer_among-loop-place
invariant-offer_among-loop-place l =
    offer_among (to_execs (trees_down (map bare_of l.arena) l.levels (drop l.place-index l.elements))) l.t l.m
    ≡ offer_among (to_execs (trees_down (map bare_of l.arena) l.levels l.elements)) l.t l.m
