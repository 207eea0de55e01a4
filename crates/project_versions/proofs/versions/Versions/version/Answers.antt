use Rattle.std.proofs.Common.{◌<◌, length, sym, ap, ◌∙◌, arith}
use Rattle.std.proofs.lemmas.List.{get_or_read}
use Rattle.std.proofs.lemmas.Option.{slice_get_within}
use Rattle.project_versions.specs.Versioned.{Versioned, version_of}
use Rattle.project_versions.proofs.RaisingLemmas.{version_at}
use Rattle.project_versions.proofs.versions.Versions.version.Goals as goal

pub returns-in-Some : goal.returns-in-Some
returns-in-Some c =
    let order = c.self.inside.order.order in
    let versions = c.self.inside.versions.items in
    let within : c.in-Some.i < length versions = omega (arith, slice_get_within order c.in-Some.i c.args.step c.in-Some.ensures.found, c.self.invariant.counts) in
    get_or_read versions c.in-Some.i c.index.result.now within c.index.ensures 0
    ∙ sym (version_at order versions c.args.step c.in-Some.i c.in-Some.ensures.is_order.rising c.in-Some.ensures.found c.self.invariant.counts)
    ∙ ap (λ (v : Versioned). version_of v.versions c.args.step) c.self.view_is
