use Rattle.std.proofs.Common.{◌≡◌, ◌<◌, length, take, get_or, sym, ap, subst, arith}
use Rattle.std.specs.Prelude.{Contains}
use Rattle.std.proofs.lemmas.List.{take_more, get_or_default}
use Rattle.project_store.specs.Inserts.{is_among}
use Rattle.project_versions.specs.Versions.{one_where}
use Rattle.project_versions.specs.Kept.{Raises}
use Rattle.project_versions.proofs.RaisingLemmas.{Raises-both, not_before}
use Rattle.project_versions.proofs.raising.raise.Goals as goal

pub raise_one-requires-clause-fits : goal.raise_one-requires-clause-fits
raise_one-requires-clause-fits c =
    let steps = c.args.steps.now in
    let i = c.loop-step.step-index in
    let s = get_or steps i 0 in
    let within : i < length steps = omega arith in
    let there : Contains steps s = (i, within, get_or_default steps i s 0 within) in
    let none : one_where (is_among (take i steps) s) ≡ 0 = ap one_where (not_before steps i c.requires.rising within) in
    let now = c.loop-step.invariant.versions s (c.requires.steps s there) in
    omega (arith, now, none, c.requires.fits s there)

pub loop-step-preserved : goal.loop-step-preserved
loop-step-preserved c =
    let steps = c.args.steps.now in
    let order = c.args.order.now.order in
    let i = c.loop-step.step-index in
    let within : i < length steps = omega arith in
    subst (Raises order c.args.versions.now.items c.raise_one.new.versions.items) (sym (take_more steps i 0 within))
    (Raises-both order c.args.versions.now.items c.loop-step.versions.items c.raise_one.new.versions.items (take i steps) (get_or steps i 0) (not_before steps i c.requires.rising within)
    c.loop-step.invariant c.raise_one.ensures)
