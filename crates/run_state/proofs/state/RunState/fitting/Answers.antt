use Rattle.std.proofs.Common.{◌≡◌, true, false}
use Rattle.project_law.specs.ProjectRules.{rules_of}
use Rattle.run_state.proofs.state.RunState.fitting.Goals as goal

pub returns-in_default-clause-fits : goal.returns-in_default-clause-fits
returns-in_default-clause-fits g c =
    let r = rules_of c.args.self.now.project c.args.self.now.script in
    let t = c.args.self.now.list in
    let tested = c.what_fits_is_tested.ensures r t c.args.n c.args.entry.now c.legal.ensures.sound c.legal.ensures.legal c.requires.number in
    ((λ e. absurd (let z : false ≡ true = e in cc)), (λ f. c.in_default.ensures.next.1 (tested.0 f).is_next))
