use Rattle.std.proofs.Common.{◌<◌, ◌∙◌, length, sym, ap, subst, arith}
use Rattle.std.specs.Prelude.{Contains}
use Rattle.std.proofs.lemmas.List.{length-map}
use Rattle.project_versions.specs.Versioned.{version_of}
use Rattle.plan_store.specs.StepAhead.{ticket_of}
use Rattle.plan_window.proofs.RenewLemmas.{turn, all_to, length-renewed_to}
use Rattle.plan_window.proofs.renewing.renew_all.Goals.{then-version-ticket, else-version-ticket}
use Rattle.plan_window.proofs.renewing.renew_all.Goals as goal

pub version-version-requires : goal.version-version-requires
version-version-requires c =
    let seen = c.tickets-in-loop-index in
    let low : c.loop-index.index < length seen.result.now = omega (arith, c.loop-index-test.true, ap length c.tickets.ensures.exact, ap length seen.ensures.exact) in
    let t = turn (version_of c.args.versions.now.versions) c.loop-index.index c.args.store.now c.loop-index.store seen.result.now _ c.loop-index.invariant seen.ensures.exact seen.ensures.windows low in
    subst (λ x. Contains c.args.versions.now.steps x.step) (sym t.is) (c.requires c.loop-index.index t.own t.at)

pub renew-requires : goal.renew-requires
renew-requires c =
    let seen = c.tickets-in-loop-index in
    let low : c.loop-index.index < length seen.result.now = omega (arith, c.loop-index-test.true, ap length c.tickets.ensures.exact, ap length seen.ensures.exact) in
    let t = turn (version_of c.args.versions.now.versions) c.loop-index.index c.args.store.now c.loop-index.store seen.result.now _ c.loop-index.invariant seen.ensures.exact seen.ensures.windows low in
    t.there

pub loop-index-smaller : goal.loop-index-smaller
loop-index-smaller c =
    let old = c.args.store.now in
    let long = length-renewed_to (version_of c.args.versions.now.versions) c.loop-index.index old in
    omega (arith, c.loop-index-test.true, ap length c.tickets.ensures.exact, length-map c.loop-index.store ticket_of, ap length c.loop-index.invariant, long)

pub loop-index-preserved : goal.loop-index-preserved
loop-index-preserved c =
    let seen = c.tickets-in-loop-index in
    let low : c.loop-index.index < length seen.result.now = omega (arith, c.loop-index-test.true, ap length c.tickets.ensures.exact, ap length seen.ensures.exact) in
    let t = turn (version_of c.args.versions.now.versions) c.loop-index.index c.args.store.now c.loop-index.store seen.result.now _ c.loop-index.invariant seen.ensures.exact seen.ensures.windows low in
    elim c.if-version-ticket.branch [
      | then-version-ticket w ↦ w.store-is ∙ w.renew.ensures ∙ t.renews c.version-version.result c.version-version.ensures (λ e. w.if-version-ticket.true (sym e))
      | else-version-ticket w ↦ w.store-is ∙ t.leaves c.version-version.result c.version-version.ensures (sym w.if-version-ticket.false)
    ]

pub returns : goal.returns
returns c =
    let old = c.args.store.now in
    let version = version_of c.args.versions.now.versions in
    let long = length-renewed_to version c.loop-index.index old in
    c.loop-index.invariant ∙ all_to version c.loop-index.index old (omega (arith, c.loop-index-test.false, ap length c.tickets.ensures.exact, length-map c.loop-index.store ticket_of, ap length c.loop-index.invariant, long))
