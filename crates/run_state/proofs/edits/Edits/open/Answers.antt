use Rattle.std.proofs.Common.{refl}
use Rattle.run_state.proofs.EditLemmas.{opened}
use Rattle.run_state.proofs.edits.Edits.open.Goals as goal

pub returns-clause-kept : goal.returns-clause-kept
returns-clause-kept c =
    opened c.args.store.now c.args.steps.now (record { script = c.args.script; judged = 0; editing = c.in_ok-editing.editing }) refl c.requires.steps c.requires.defined c.requires.workingsteps
    c.in_ok-editing.ensures.none c.in_ok-editing.ensures.some
