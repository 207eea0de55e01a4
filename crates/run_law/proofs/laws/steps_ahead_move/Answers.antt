use Rattle.run_law.proofs.AheadLemmas.{window_moves, unsent_dispatch, unsent_other}
use Rattle.run_law.proofs.laws.steps_ahead_move.Goals as goal

pub returns-clause-window : goal.returns-clause-window
returns-clause-window c = λ k n ns d. window_moves k n ns d

pub returns-clause-dispatch : goal.returns-clause-dispatch
returns-clause-dispatch c = λ t x n ns e. unsent_dispatch t x n ns e

pub returns-clause-other : goal.returns-clause-other
returns-clause-other c = λ t x ns e. unsent_other t x ns e
