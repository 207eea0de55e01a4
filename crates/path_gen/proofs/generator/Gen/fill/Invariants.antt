use Rattle.std.proofs.Common.{◌≡◌, ◌+◌}
use Rattle.path_blocks.specs.Place.{Place}
use Rattle.path_gen.proofs.generator.Gen.fill.Given as goal

abbrev pub invariant-loop : goal.invariant-loop
invariant-loop l = ◌≡◌ {A = Place} l.self (record { def = l.initial.self.def; given = l.initial.self.given + l.counter }) × (l.part ≡ l.self)
