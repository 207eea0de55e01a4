use Rattle.std.proofs.Common.{◌≡◌, ◌++◌, drop}
use Rattle.project_store.specs.Places.{places_from}
use Rattle.project_store.proofs.places.places_of.Given as goal

-- the places so far and those of what is left are all
abbrev pub invariant-loop-index : goal.invariant-loop-index
invariant-loop-index l = l.places.items ++ places_from l.index (drop l.index l.entities) ≡ places_from 0 l.entities
