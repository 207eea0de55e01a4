use Rattle.std.proofs.Common.{◌≡◌, ◌∙◌, ◌↔◌, subst, sym, refl, ℕ, true, false}
use Rattle.std.specs.Prelude.{IsTrue}
use Rattle.trace_law.specs.Offer.{offer, IsOffered}
use Rattle.run_log.specs.declared.entry.Entry.TheVariants.{Pick}
use Rattle.run_law.specs.Fits.{plain}
use Rattle.project_law.specs.ProjectRules.{rules_of}
use Rattle.run_state.proofs.state.RunState.picking.Goals as goal

pub returns-then-may_pick-clause-fits : goal.returns-then-may_pick-clause-fits
returns-then-may_pick-clause-fits c =
    let r = rules_of c.args.self.now.project c.args.self.now.script in
    let t = c.args.self.now.list in
    let n = c.args.n in
    let k = c.args.k in
    let own : IsTrue c.may_pick.result ↔ IsOffered (offer (r.tree t) (plain t) n) n (Pick n k) = subst (λ (j : ℕ). IsTrue c.may_pick.result ↔ IsOffered (offer (r.tree t) (plain t) j) j (Pick j k)) c.requires.number c.may_pick.ensures in
    let tested = c.what_fits_is_tested.ensures r t n (Pick n k) c.legal.ensures.sound c.legal.ensures.legal refl in
    ((λ e. tested.1 (record { not_due = c.requires.may.not_due; is_next = c.requires.may.is_next; enabled = c.requires.may.enabled; offered = own.0 c.if-may_pick.true; values = tt })), (λ f. refl))

pub returns-else-may_pick-clause-fits : goal.returns-else-may_pick-clause-fits
returns-else-may_pick-clause-fits c =
    let r = rules_of c.args.self.now.project c.args.self.now.script in
    let t = c.args.self.now.list in
    let n = c.args.n in
    let k = c.args.k in
    let own : IsTrue c.may_pick.result ↔ IsOffered (offer (r.tree t) (plain t) n) n (Pick n k) = subst (λ (j : ℕ). IsTrue c.may_pick.result ↔ IsOffered (offer (r.tree t) (plain t) j) j (Pick j k)) c.requires.number c.may_pick.ensures in
    let tested = c.what_fits_is_tested.ensures r t n (Pick n k) c.legal.ensures.sound c.legal.ensures.legal refl in
    ((λ e. absurd (let z : false ≡ true = e in cc)), (λ f. sym c.if-may_pick.false ∙ own.1 (tested.0 f).offered))
