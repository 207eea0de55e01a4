use Rattle.std.proofs.Common.{◌∙◌, subst, sym, refl}
use Rattle.std.specs.Prelude.{Some}
use Rattle.run_log.specs.declared.entry.Entry.{Entry}
use Rattle.run_state.proofs.EditLemmas.{followed, moves, none_go_on, not_dispatched, adds_go_on, SentMore, go_on_some, go_on_none, none_there, sent_step}
use Rattle.run_state.proofs.edits.Edits.follow.Goals as goal

pub returns-in_default : goal.returns-in_default
returns-in_default c =
    let x = c.args.entry.now in
    let old = c.args.self.now in
    record {
      script = refl;
      kept = λ project t k. followed project t x old old refl refl
          (moves project old.script t x c.requires.plain (λ n e. (c.logs_move.ensures.node t x n e).1) (c.project_rules_move.ensures.store project old.script t x) (λ n. c.project_rules_move.ensures.version project old.script t x n) (c.logs_move.ensures.sent t x))
          (none_go_on x old.editing (not_dispatched x (λ n v e. c.in_default.not-Dispatch n v e))) k;
    }

pub with_step-requires : goal.with_step-requires
with_step-requires c = sent_step c.args.self.now.editing c.in-Some.editing c.in-Dispatch.n (sym c.take.ensures.value ∙ c.in-Some.is) (c.requires.known c.in-Dispatch.n c.in-Dispatch.v c.in-Dispatch.is)

pub returns-in-Some-clause-kept : goal.returns-in-Some-clause-kept
returns-in-Some-clause-kept c = λ project t k.
    let x = c.args.entry.now in
    let old = c.args.self.now in
    let e = c.in-Some.editing in
    followed project t x old (record { script = old.script; judged = old.judged; editing = Some c.with_step.result }) refl refl
    (moves project old.script t x c.requires.plain (λ n f. (c.logs_move.ensures.node t x n f).1) (c.project_rules_move.ensures.store project old.script t x) (λ n. c.project_rules_move.ensures.version project old.script t x n) (c.logs_move.ensures.sent t x))
    (go_on_some x old.editing (Some c.with_step.result) e c.with_step.result (sym c.take.ensures.value ∙ c.in-Some.is) refl
    (subst (λ (y : Entry). SentMore y e c.with_step.result) (sym c.in-Dispatch.is) (adds_go_on c.in-Dispatch.n c.in-Dispatch.v e c.with_step.result c.with_step.ensures.versions c.with_step.ensures.sent))) k

pub returns-in_default-take-clause-kept : goal.returns-in_default-take-clause-kept
returns-in_default-take-clause-kept c = λ project t k.
    let x = c.args.entry.now in
    let old = c.args.self.now in
    followed project t x old (record { script = old.script; judged = old.judged; editing = c.take.new.self }) refl refl
    (moves project old.script t x c.requires.plain (λ n f. (c.logs_move.ensures.node t x n f).1) (c.project_rules_move.ensures.store project old.script t x) (λ n. c.project_rules_move.ensures.version project old.script t x n) (c.logs_move.ensures.sent t x))
    (go_on_none x old.editing c.take.new.self (none_there old.editing (λ e f. c.in_default-take.not-Some e (c.take.ensures.value ∙ f))) c.take.ensures.after) k
