use Rattle.edit_rules.proofs.AcceptLemmas.{can_put, program_kept, step_kept, steps_kept, def_kept, defs_kept}
use Rattle.edit_rules.proofs.laws.accepted_edits_keep_a_project.Goals as goal

pub returns-clause-can_put : goal.returns-clause-can_put
returns-clause-can_put c = can_put

pub returns-clause-program : goal.returns-clause-program
returns-clause-program c = program_kept c.versions_move.ensures.found

pub returns-clause-workingstep : goal.returns-clause-workingstep
returns-clause-workingstep c = step_kept c.versions_move.ensures.found

pub returns-clause-workingsteps : goal.returns-clause-workingsteps
returns-clause-workingsteps c = steps_kept c.versions_move.ensures.found

pub returns-clause-definition : goal.returns-clause-definition
returns-clause-definition c = def_kept c.versions_move.ensures.found c.definition_is_local.ensures c.unreached_keeps_its_definition.ensures

pub returns-clause-definitions : goal.returns-clause-definitions
returns-clause-definitions c = defs_kept c.versions_move.ensures.found c.definition_is_local.ensures c.unreached_keeps_its_definition.ensures
