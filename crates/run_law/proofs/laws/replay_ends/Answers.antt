use Rattle.std.proofs.Common.{[], arith}
use Rattle.run_law.specs.Replay.{turns_of}
use Rattle.run_law.proofs.RoundLemmas.{legal_turns, legal_rounds, rounds_end, ended_rounds}
use Rattle.run_law.proofs.laws.replay_ends.Goals as goal

pub returns-clause-legal : goal.returns-clause-legal
returns-clause-legal c = λ r channels schedule limit sound.
    legal_rounds c.what_is_made_fits.ensures r limit channels limit (turns_of r limit [] schedule) sound (legal_turns c.what_is_made_fits.ensures r limit [] schedule sound (c.legal_runs.ensures.none r))

pub returns-clause-ended : goal.returns-clause-ended
returns-clause-ended c = λ r channels schedule limit c0 sound are first.
    rounds_end c.what_is_made_fits.ensures c.stuck_means_waiting.ensures r limit channels c0 limit (turns_of r limit [] schedule) sound
    (legal_turns c.what_is_made_fits.ensures r limit [] schedule sound (c.legal_runs.ensures.none r)) are first (omega arith)

pub returns-clause-stays : goal.returns-clause-stays
returns-clause-stays c = λ r channels limit k t e. ended_rounds r limit channels k t e

pub returns-clause-from : goal.returns-clause-from
returns-clause-from c = λ r channels limit k t sound legal. legal_rounds c.what_is_made_fits.ensures r limit channels k t sound legal

pub returns-clause-from_ended : goal.returns-clause-from_ended
returns-clause-from_ended c = λ r channels limit k c0 t sound legal are first le. rounds_end c.what_is_made_fits.ensures c.stuck_means_waiting.ensures r limit channels c0 k t sound legal are first le
