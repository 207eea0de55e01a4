use Rattle.std.proofs.Common.{refl, arith, inl, inr}
use Rattle.std.proofs.lemmas.Bool.Decides.{nat_tests}
use Rattle.nc_outside.proofs.memory_sink.MemorySinkSink.put.Goals as goal
use Rattle.nc_outside.proofs.memory_sink.MemorySinkSink.put.Goals.{then-listed-via-then-listed, then-listed-via-else-listed+then-not-is_empty, then-fits-eq0, else-fits-eq0}

pub returns-then-listed-clause-fails : goal.returns-then-listed-clause-fails
returns-then-listed-clause-fails c =
    rw (← c.self.view_is) (elim c.then-listed.branch [
      | then-listed-via-then-listed w ↦ ((λ _. inl (rw (← c.as_slice.ensures, ← c.contains-listed.ensures.value) w.if-listed.true)), λ _. refl)
      | then-listed-via-else-listed+then-not-is_empty w ↦ (
        (λ _. inr (elim w.if-fits-eq0.branch [
          | then-fits-eq0 w' ↦ (grind (arith, nat_tests), grind (arith, nat_tests))
          | else-fits-eq0 w' ↦ (grind (arith, nat_tests), grind (arith, nat_tests))
        ])),
        λ _. refl,
      )
    ])
