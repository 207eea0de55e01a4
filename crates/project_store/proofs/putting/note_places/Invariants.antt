use Rattle.std.proofs.Common.{take}
use Rattle.project_store.specs.Places.{AreKept, AreNoted}
use Rattle.project_store.proofs.putting.note_places.Given as goal

-- the places of the numbers so far are there
abbrev pub invariant-loop-behind : goal.invariant-loop-behind
invariant-loop-behind l = record {
  kept : AreKept l.initial.added l.added l.numbers;
  noted : AreNoted l.added l.first (take l.behind l.numbers);
}
