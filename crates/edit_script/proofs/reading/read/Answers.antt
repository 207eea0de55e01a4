use Rattle.edit_script.proofs.Gathering.{only, refuses}
use Rattle.edit_script.proofs.reading.read.Goals as goal

pub returns-clause-only : goal.returns-clause-only
returns-clause-only c =
    let laws = c.script_laws.ensures in
    let bytes = c.args.bytes.now in
    only bytes (laws.one bytes) (laws.apart bytes) (laws.single bytes) c.edits_in.result c.edits_in.ensures

pub returns-clause-refuses : goal.returns-clause-refuses
returns-clause-refuses c =
    let laws = c.script_laws.ensures in
    let bytes = c.args.bytes.now in
    refuses bytes (laws.one bytes) (laws.apart bytes) (laws.single bytes) c.edits_in.result c.edits_in.ensures
