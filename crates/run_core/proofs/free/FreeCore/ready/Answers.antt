use Rattle.std.proofs.Common.{◌≡◌, ◌∙◌, sym, ap}
use Rattle.std.specs.Prelude.{Some, option_map}
use Rattle.tree_table.specs.Placed.{number_at}
use Rattle.run_law.specs.Replay.{ready}
use Rattle.project_law.specs.ProjectRules.{rules_of}
use Rattle.run_state.proofs.FoundLemmas.{ready_has}
use Rattle.run_core.proofs.free.FreeCore.ready.Goals as goal

pub action-requires-clause-next : goal.action-requires-clause-next
action-requires-clause-next c =
    let v = c.self.inside.state in
    let r = rules_of v.project v.script in
    let n = number_at v.nodes c.in-Some.place in
    let e : ready r v.list c.args.channel ≡ Some n = sym c.ready.ensures.node ∙ ap (option_map (number_at v.nodes)) c.in-Some.is in
    ready_has r v.list c.args.channel n e
