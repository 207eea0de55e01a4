use Rattle.std.proofs.Common.{◌≡◌, ◌∙◌, ◌↔◌, subst, sym, ap, refl, ℕ, true, false}
use Rattle.run_log.specs.declared.entry.Entry.{Entry}
use Rattle.run_law.specs.Fits.{Fits}
use Rattle.run_law.specs.Replay.{made}
use Rattle.project_law.specs.Script.{store_after}
use Rattle.project_law.specs.ProjectRules.{rules_of}
use Rattle.run_state.specs.Kept.{IsDefined}
use Rattle.run_state.proofs.state.RunState.making.Goals as goal

pub returns-then-is_same-clause-fits : goal.returns-then-is_same-clause-fits
returns-then-is_same-clause-fits g c =
    let r = rules_of c.args.self.now.project c.args.self.now.script in
    let t = c.args.self.now.list in
    let n = c.args.n in
    let is : c.made-made.result.entry ≡ made r t n = c.made-made.ensures.entry ∙ ap (made r t) c.requires.number in
    let fits = c.what_is_made_fits.ensures r t n c.legal.ensures.sound c.legal.ensures.legal c.requires.may.not_due c.requires.may.is_next c.requires.may.enabled in
    let same : c.made-made.result.entry ≡ c.args.entry.now = c.is_same.ensures.0 c.if-is_same.true in
    ((λ e. subst (Fits r t) (sym is ∙ same) fits), (λ f. refl))

pub returns-then-is_same-clause-defined : goal.returns-then-is_same-clause-defined
returns-then-is_same-clause-defined g c =
    let same : c.made-made.result.entry ≡ c.args.entry.now = c.is_same.ensures.0 c.if-is_same.true in
    subst (λ (x : Entry). IsDefined (store_after c.args.self.now.script c.args.self.now.project c.args.self.now.list) x c.made-made.result.def) same c.made-made.ensures.defined

pub returns-else-is_same-clause-fits : goal.returns-else-is_same-clause-fits
returns-else-is_same-clause-fits g c =
    let r = rules_of c.args.self.now.project c.args.self.now.script in
    let t = c.args.self.now.list in
    let n = c.args.n in
    let x = c.args.entry.now in
    let is : c.made-made.result.entry ≡ made r t n = c.made-made.ensures.entry ∙ ap (made r t) c.requires.number in
    let tested = c.what_fits_is_tested.ensures r t n x c.legal.ensures.sound c.legal.ensures.legal c.requires.of in
    let apart : c.made-made.result.entry ≡ c.args.entry.now → ⊥ = λ e. let z : true ≡ false = sym (c.is_same.ensures.1 e) ∙ c.if-is_same.false in cc in
    ((λ e. absurd (let z : false ≡ true = e in cc)), (λ f. absurd (apart (is ∙ sym (c.what_passes_is_made.ensures r t n x c.requires.of c.requires.no_pick (tested.0 f))))))
