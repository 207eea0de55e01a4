use Rattle.std.proofs.Common.{◌<◌, length, arith}
use Rattle.std.proofs.lemmas.Option.{slice_get-get_or}
use Rattle.project_store.proofs.NotedLemmas.{kept_more, noted_more}
use Rattle.project_store.proofs.putting.note_places.Goals as goal

pub loop-behind-preserved : goal.loop-behind-preserved
loop-behind-preserved c =
    let numbers = c.args.numbers.now in
    let i = c.loop-behind.behind in
    let within : i < length numbers = omega arith in
    let there = slice_get-get_or numbers i 0 within in
    record {
      kept = kept_more numbers c.args.first i _ c.args.added.now c.loop-behind.added c.insert.new.self there c.in_ok-insert.ensures.updates.0 c.loop-behind.invariant.kept;
      noted = noted_more numbers c.args.first i _ c.args.added.now c.loop-behind.added c.insert.new.self there c.in_ok-insert.ensures.updates.0 c.requires.distinct c.loop-behind.invariant.noted;
    }
