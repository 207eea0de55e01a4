use Rattle.std.proofs.Common.{◌*◌, ◌+◌, ◌-◌, length}
use Rattle.p21_parse.specs.View.{trees_of}
use Rattle.p21_parse.proofs.Listing.{Listed}
use Rattle.p21_parse.proofs.parser.Parser.+params.Given as goal

abbrev pub decreases-parameter : goal.decreases-parameter
decreases-parameter l = 4 * (32 - l.n) + 1

abbrev pub decreases-typed : goal.decreases-typed
decreases-typed l = 4 * (32 - l.n)

abbrev pub decreases-list : goal.decreases-list
decreases-list l = 4 * (32 - l.n)

abbrev pub decreases-parameter_list : goal.decreases-parameter_list
decreases-parameter_list l = 4 * (32 - l.n) + 3

abbrev pub decreases-parameters : goal.decreases-parameters
decreases-parameters l = 4 * (32 - l.n) + 2

abbrev pub invariant-parameters-loop-alloc : goal.invariant-parameters-loop-alloc
invariant-parameters-loop-alloc l = Listed l.self l.n l.at l.rest (trees_of l.params)

abbrev pub decreases-parameters-loop-alloc : goal.decreases-parameters-loop-alloc
decreases-parameters-loop-alloc l = length l.self.tokens.now - l.rest
