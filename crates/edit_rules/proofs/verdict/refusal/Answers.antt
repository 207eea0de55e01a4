use Rattle.std.proofs.Common.{◌∙◌, ap, sym, subst, arith, length, List, ℕ}
use Rattle.std.specs.Prelude.{option_map}
use Rattle.exec_tree.specs.Built.{steps_in}
use Rattle.project_versions.specs.Versioned.{AreReached}
use Rattle.edit_rules.specs.Judge.{sent_fault, refused_step}
use Rattle.edit_rules.specs.Judging.{first_step}
use Rattle.edit_rules.proofs.VerdictLemmas.{nothing_refused, reached_steps_stay, sent_refuses, faulty_refuses, reached_few, not_early}
use Rattle.edit_rules.proofs.verdict.refusal.Goals as goal

pub returns-in-Some-first_sent-clause-refusal : goal.returns-in-Some-first_sent-clause-refusal
returns-in-Some-first_sent-clause-refusal g c =
    let store = c.args.versions.now.store in
    let items = c.args.edit.now.items in
    let sent = c.args.sent.now.members in
    let none = nothing_refused c.store-store.result.now store items c.item_refusal.result c.store-store.ensures c.item_refusal.ensures c.in_default.is in
    let are = subst (λ steps. AreReached store steps items c.in_ok-reached.reached) c.requires.steps c.in_ok-reached.ensures in
    sent_refuses store (steps_in c.args.tree.now.nodes) sent items c.in_ok-reached.reached c.in-Some-first_sent.verdict none are
    (c.in-Some-first_sent.ensures ∙ ap (λ ns. option_map (refused_step 4) (first_step (sent_fault sent) ns)) c.as_slice-numbers.ensures)

pub first_faulty-requires : goal.first_faulty-requires
first_faulty-requires g c =
    let store = c.args.versions.now.store in
    let items = c.args.edit.now.items in
    let none = nothing_refused c.store-store.result.now store items c.item_refusal.result c.store-store.ensures c.item_refusal.ensures c.in_default.is in
    let are = subst (λ steps. AreReached store steps items c.in_ok-reached.reached) c.requires.steps c.in_ok-reached.ensures in
    record {
      workingsteps =
          rw (c.as_slice-numbers.ensures, c.in_ok-put.ensures.store, c.in_ok-put.ensures.items, c.store-store.ensures)
          (reached_steps_stay store (steps_in c.args.tree.now.nodes) items c.in_ok-reached.reached none are c.requires.workingsteps);
    }

pub returns-clause-refusal : goal.returns-clause-refusal
returns-clause-refusal g c =
    let store = c.args.versions.now.store in
    let items = c.args.edit.now.items in
    let sent = c.args.sent.now.members in
    let none = nothing_refused c.store-store.result.now store items c.item_refusal.result c.store-store.ensures c.item_refusal.ensures c.in_default.is in
    let are = subst (λ steps. AreReached store steps items c.in_ok-reached.reached) c.requires.steps c.in_ok-reached.ensures in
    let unsent = sym (c.first_sent.ensures ∙ ap (λ ns. option_map (refused_step 4) (first_step (sent_fault sent) ns)) c.as_slice-numbers.ensures) ∙ c.in_default-first_sent.is in
    c.first_faulty.ensures.fault
    ∙ rw (c.as_slice-numbers.ensures, c.in_ok-put.ensures.store, c.in_ok-put.ensures.items, c.store-store.ensures)
    (faulty_refuses store (steps_in c.args.tree.now.nodes) sent items c.in_ok-reached.reached none are unsent)

pub returns-clause-ticks : goal.returns-clause-ticks
returns-clause-ticks g c =
    let store = c.args.versions.now.store in
    let items = c.args.edit.now.items in
    let are = subst (λ steps. AreReached store steps items c.in_ok-reached.reached) c.requires.steps c.in_ok-reached.ensures in
    let few = reached_few store (steps_in c.args.tree.now.nodes) items c.in_ok-reached.reached are in
    let same = ap (λ (ns : List ℕ). length ns) c.as_slice-numbers.ensures in
    omega (arith, few, same, c.first_faulty.ensures.ticks)

pub returns-clause-idle : goal.returns-clause-idle
returns-clause-idle g c = λ early.
    let store = c.args.versions.now.store in
    let items = c.args.edit.now.items in
    let sent = c.args.sent.now.members in
    let none = nothing_refused c.store-store.result.now store items c.item_refusal.result c.store-store.ensures c.item_refusal.ensures c.in_default.is in
    let are = subst (λ steps. AreReached store steps items c.in_ok-reached.reached) c.requires.steps c.in_ok-reached.ensures in
    let unsent = sym (c.first_sent.ensures ∙ ap (λ ns. option_map (refused_step 4) (first_step (sent_fault sent) ns)) c.as_slice-numbers.ensures) ∙ c.in_default-first_sent.is in
    absurd (not_early store (steps_in c.args.tree.now.nodes) sent items c.in_ok-reached.reached none are unsent early)
