use Rattle.std.proofs.Common.{◌≡◌, ◌∙◌, subst, sym, ap}
use Rattle.std.specs.Prelude.{Some, option_map}
use Rattle.tree_table.specs.Placed.{number_at}
use Rattle.run_law.specs.Fits.{Fits}
use Rattle.run_law.specs.Replay.{ready}
use Rattle.project_law.specs.ProjectRules.{rules_of}
use Rattle.run_state.proofs.FoundLemmas.{ready_has, ready_enabled}
use Rattle.run_state.proofs.state.RunState.go_on.Goals as goal

pub made-it-requires-clause-next : goal.made-it-requires-clause-next
made-it-requires-clause-next g c =
    let r = rules_of c.args.self.now.project c.args.self.now.script in
    let t = c.args.self.now.list in
    let n = number_at c.args.self.now.nodes c.in-Some.place in
    let e : ready r t c.args.channel ≡ Some n = sym c.ready.ensures.node ∙ ap (option_map (number_at c.args.self.now.nodes)) c.in-Some.is in
    ready_has r t c.args.channel n e

pub follow-requires-clause-fits : goal.follow-requires-clause-fits
follow-requires-clause-fits g c =
    let r = rules_of c.args.self.now.project c.args.self.now.script in
    let t = c.args.self.now.list in
    let n = number_at c.args.self.now.nodes c.in-Some.place in
    let e : ready r t c.args.channel ≡ Some n = sym c.ready.ensures.node ∙ ap (option_map (number_at c.args.self.now.nodes)) c.in-Some.is in
    subst (Fits r t) (sym c.made-it.ensures.entry)
    (c.what_is_made_fits.ensures r t n c.legal.ensures.sound c.legal.ensures.legal c.requires.due (ready_has r t c.args.channel n e) (ready_enabled r t c.args.channel n e))
