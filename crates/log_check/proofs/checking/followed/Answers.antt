use Rattle.std.proofs.Common.{◌≡◌, ◌∙◌, ◌++◌, [], ap, subst, sym, List, length}
use Rattle.entity_types.specs.declared.entity.Entity.{Entity}
use Rattle.entity_types.specs.declared.edit.Edit.{Edit}
use Rattle.run_log.specs.declared.entry.Entry.{Entry}
use Rattle.std.specs.Prelude.{IfOk}
use Rattle.project_law.specs.ProjectRules.{rules_of}
use Rattle.log_check.specs.Checked.{IsAnswer}
use Rattle.log_check.proofs.checking.followed.Goals as goal

pub judged-requires : goal.judged-requires
judged-requires g c =
    let b = c.in_ok-state.ensures in
    ap length (ap (λ (u : List Entry). u ++ c.in_ok-state.state.coming) b.list ∙ b.coming) ∙ sym c.len-count.ensures

pub returns : goal.returns
returns g c =
    let b = c.in_ok-state.ensures in
    let s = c.in_ok-state.state in
    let log : s.list ++ s.coming ≡ c.args.log = ap (λ (u : List Entry). u ++ s.coming) b.list ∙ b.coming in
    subst (λ (u : List Entry). IfOk c.judged.result (IsAnswer (rules_of c.args.project c.args.script) u c.args.ending)) log
    (subst (λ (p : List Entity). IfOk c.judged.result (IsAnswer (rules_of p c.args.script) (s.list ++ s.coming) c.args.ending)) b.project
    (subst (λ (q : List Edit). IfOk c.judged.result (IsAnswer (rules_of s.project q) (s.list ++ s.coming) c.args.ending)) b.script c.judged.ensures))
