use Rattle.std.specs.Prelude.{None}
use Rattle.trace_law.specs.State.{marked, dispatched}
use Rattle.run_law.proofs.StuckLemmas.{stage_plain}
use Rattle.run_law.proofs.MadeLemmas.{stage_snoc}
use Rattle.run_law.proofs.MoveLemmas.{told_more, node_more, edit_more}
use Rattle.run_law.proofs.laws.logs_move.Goals as goal

pub returns-clause-marks : goal.returns-clause-marks
returns-clause-marks c = λ t x. told_more marked t x

pub returns-clause-sent : goal.returns-clause-sent
returns-clause-sent c = λ t x. told_more dispatched t x

pub returns-clause-stage : goal.returns-clause-stage
returns-clause-stage c = λ t x n. stage_snoc n None t x

pub returns-clause-node : goal.returns-clause-node
returns-clause-node c = node_more

pub returns-clause-edit : goal.returns-clause-edit
returns-clause-edit c = edit_more

pub returns-clause-plain_stage : goal.returns-clause-plain_stage
returns-clause-plain_stage c = λ t n. stage_plain n None t
