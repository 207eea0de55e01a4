use Rattle.controller.specs.Outside.{outside}
use Rattle.controller.proofs.TopCallsLemmas.{answered}
use Rattle.controller.proofs.top_calls.serve.Goals as goal

pub returns-in-Ok : goal.returns-in-Ok
returns-in-Ok g c = record {
  kept = c.answer_to.ensures.kept;
  reads_counted = c.answer_to.ensures.counted;
  puts_counted = c.say.ensures.counted;
  untouched = c.answer_to.ensures.untouched;
  answered =
      answered c.args.words.now (outside g.F.Files.holds g.F.Files.faults g.S.Sink.taken g.S.Sink.faults c.args.files.now c.args.sink.now)
      (outside g.F.Files.holds g.F.Files.faults g.S.Sink.taken g.S.Sink.faults c.answer_to.new.files c.say.new.sink) c.in-Ok.answer c.say.result c.in-Ok.ensures.answer c.say.ensures.said;
}
