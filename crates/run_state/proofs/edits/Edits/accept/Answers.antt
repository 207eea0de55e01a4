use Rattle.std.proofs.Common.{◌∙◌, sym, ap}
use Rattle.std.specs.Prelude.{Some}
use Rattle.run_state.proofs.EditLemmas.{room_there, version_fits}
use Rattle.run_state.proofs.edits.Edits.accept.Goals as goal

pub with_edit-editing-requires-clause-room : goal.with_edit-editing-requires-clause-room
with_edit-editing-requires-clause-room c =
    let k = c.requires.kept in
    room_there k.0 k.1 c.args.self.now c.in_ok-edit.edit c.in-Some.editing k.2 (sym c.take.ensures.value ∙ c.in-Some.is) (c.at.ensures ∙ ap Some (sym c.in_ok-edit.ensures))

pub with_edit-editing-requires-clause-versions : goal.with_edit-editing-requires-clause-versions
with_edit-editing-requires-clause-versions c = λ n h.
    let k = c.requires.kept in
    version_fits k.0 k.1 c.args.self.now c.in-Some.editing n 4294967296 k.2 (sym c.take.ensures.value ∙ c.in-Some.is) c.index_fits.ensures h
