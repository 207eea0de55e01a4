use Rattle.std.proofs.lemmas.Map.Keys.{IsStrictlyIncreasing-from_sorted}
use Rattle.project_versions.proofs.backward.steps_among.Goals as goal

pub returns-clause-rising : goal.returns-clause-rising
returns-clause-rising c = IsStrictlyIncreasing-from_sorted c.args.numbers.now.keys c.into_iter-number-iterator.ensures.into_iter_gives.4
