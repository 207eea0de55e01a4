use Rattle.std.proofs.Common.{◌≡◌, ◌∙◌, subst, sym, ◌+◌, ◌∷◌, ◌++◌, []}
use Rattle.std.specs.Prelude.{slice_get}
use Rattle.nc_base.specs.declared.verdict.Verdict.{Verdict}
use Rattle.run_log.specs.declared.entry.Entry.TheVariants as entries
use Rattle.run_state.specs.Edits.{AreKept, PutsNext}
use Rattle.run_state.proofs.EditLemmas.{both_ok, settles, accepted_next, refused_next}
use Rattle.run_state.proofs.edits.Edits.settle.Goals as goal

pub returns-in-Accepted-clause-kept : goal.returns-in-Accepted-clause-kept
returns-in-Accepted-clause-kept c = λ project t k told.
    let old = c.args.self.now in
    let new = c.accept.new.self in
    let s = old.script in
    let i = old.judged in
    let w = c.args.verdict in
    let x = entries.Edit i w in
    both_ok c.accept.result (new.judged ≡ i + 1) (PutsNext (slice_get s i) old.editing new.editing) (AreKept project (t ++ x ∷ []) new) c.accept.ensures.judged c.accept.ensures.put
    (λ counts puts. subst (λ (v : Verdict). AreKept project (t ++ entries.Edit i v ∷ []) new) (sym c.in-Accepted.is)
    (accepted_next project t old new c.accept.ensures.script counts puts c.accepted_edits_keep_a_project.ensures.definition c.accepted_edits_keep_a_project.ensures.workingstep (sym c.in-Accepted.is ∙ told)
    (settles project s t i _ (c.logs_move.ensures.edit t i _).1 (c.project_rules_move.ensures.store project s t (entries.Edit i _)) (λ n. c.project_rules_move.ensures.version project s t (entries.Edit i _) n) (c.logs_move.ensures.sent t (entries.Edit i _))) k))

pub returns-in-Refused-clause-kept : goal.returns-in-Refused-clause-kept
returns-in-Refused-clause-kept c = λ project t k told.
    let old = c.args.self.now in
    let s = old.script in
    let i = old.judged in
    let w = c.args.verdict in
    let x = entries.Edit i w in
    refused_next project t old c.pass.new.self w c.in-Refused.code c.in-Refused.a c.in-Refused.b c.in-Refused.is c.requires.next c.pass.ensures.script c.pass.ensures.judged c.pass.ensures.editing
    (settles project s t i w (c.logs_move.ensures.edit t i w).1 (c.project_rules_move.ensures.store project s t x) (λ n. c.project_rules_move.ensures.version project s t x n) (c.logs_move.ensures.sent t x)) k
