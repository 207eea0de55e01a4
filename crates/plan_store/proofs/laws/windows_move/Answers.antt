use Rattle.plan_store.proofs.WindowMoves.{window_placed, window_placed_elsewhere, window_taken, window_changed, same_windows}
use Rattle.plan_store.proofs.laws.windows_move.Goals as goal

pub returns-clause-placed : goal.returns-clause-placed
returns-clause-placed c = window_placed

pub returns-clause-elsewhere : goal.returns-clause-elsewhere
returns-clause-elsewhere c = window_placed_elsewhere

pub returns-clause-taken : goal.returns-clause-taken
returns-clause-taken c = window_taken

pub returns-clause-changed : goal.returns-clause-changed
returns-clause-changed c = window_changed

pub returns-clause-same : goal.returns-clause-same
returns-clause-same c = same_windows
