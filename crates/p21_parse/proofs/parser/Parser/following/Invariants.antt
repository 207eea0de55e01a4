use Rattle.std.proofs.Common.{◌-◌, ◌≤◌, length, map}
use Rattle.p21_parse.specs.View.{instance_of}
use Rattle.p21_parse.proofs.Parting.{Counted}
use Rattle.p21_parse.proofs.parser.Parser.following.Given as goal

abbrev pub invariant-loop-number : goal.invariant-loop-number
invariant-loop-number l = Counted l.self l.from l.rest (map instance_of l.items) × (length (map instance_of l.items) ≤ l.most)

abbrev pub decreases-loop-number : goal.decreases-loop-number
decreases-loop-number l = length l.self.tokens.now - l.rest
