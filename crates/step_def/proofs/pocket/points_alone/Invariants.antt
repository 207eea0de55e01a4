use Rattle.std.proofs.Common.{◌≡◌, drop}
use Rattle.step_def.specs.Lookup.{points_alone}
use Rattle.step_def.proofs.pocket.points_alone.Given as goal

abbrev pub invariant-loop-number : goal.invariant-loop-number
invariant-loop-number g l = points_alone (g.E.Entities.entities l.from) l.n (drop l.number-index l.numbers) ≡ points_alone (g.E.Entities.entities l.from) l.n l.numbers
