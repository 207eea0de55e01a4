use Rattle.std.proofs.Common.{◌≡◌, ◌≤◌, length, sym, subst}
use Rattle.plan_store.proofs.StoreLemmas.{rows_of, count_is}
use Rattle.plan_store.specs.declared.limits.TheConstants.{MAX_WINDOW}
use Rattle.plan_store.specs.StepAhead.{window}
use Rattle.plan_store.proofs.store.PlanStore.count.Goals as goal

counted : (c : goal.After-count_of) → c.count_of.result ≡ length (window c.args.self.now c.args.channel)
counted c =
    let rows = rows_of _ _ _ c.self.invariant c.self.view_is in
    let seen = c.deref.ensures.0 in
    let all = count_is c.args.self.now c.args.channel in
    cc

pub returns-clause-exact : goal.returns-clause-exact
returns-clause-exact c = counted c

pub returns-clause-few : goal.returns-clause-few
returns-clause-few c =
    let rows = rows_of _ _ _ c.self.invariant c.self.view_is in
    subst (λ n. n ≤ MAX_WINDOW) (sym (counted c)) (rows.windows.few c.args.channel)
