use Rattle.std.proofs.Common.{◌≡◌, ◌+◌, drop}
use Rattle.run_state.specs.Edits.{items_in}
use Rattle.run_state.proofs.edits.items_in.Given as goal

-- with the edits that are left there are as many as in all
abbrev pub invariant-loop-edit : goal.invariant-loop-edit
invariant-loop-edit l = l.count + items_in (drop l.edit-index l.edits) ≡ items_in l.edits
