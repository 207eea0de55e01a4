use Rattle.std.proofs.Common.{◌∙◌, ap, sym, arith}
use Rattle.std.specs.Prelude.{slice_set}
use Rattle.place_classes.specs.Classes.{class_at}
use Rattle.run_frames.proofs.WaitLemmas.{set_own, freed_not}
use Rattle.run_frames.proofs.waits.free_wait.Goals as goal

pub returns-else-wait-lt-MAX_CHANNELS-clause-classes : goal.returns-else-wait-lt-MAX_CHANNELS-clause-classes
returns-else-wait-lt-MAX_CHANNELS-clause-classes c =
    let w = c.args.wait in
    let classes = c.args.set.now.classes in
    sym (ap (slice_set classes w.place) (freed_not w.channel (class_at classes w.place) (λ l. omega (arith, l, c.if-wait-lt-MAX_CHANNELS.false))) ∙ set_own classes w.place c.requires.there)
