use Rattle.std.proofs.Common.{◌<◌}
use Rattle.std.proofs.lemmas.List.Elements.{All-same}
use Rattle.run_schedule.proofs.ReadingLemmas.{channels_below_8}
use Rattle.run_schedule.proofs.reading.read.Goals as goal

pub returns-clause-channels : goal.returns-clause-channels
returns-clause-channels c = All-same (λ channel. channel < 8) _ _ c.in_ok-channels_in.ensures.channels (channels_below_8 c.args.bytes.now)
