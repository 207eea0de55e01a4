use Rattle.std.proofs.Common.{◌≡◌, ◌∙◌, ◌++◌, subst, sym, List}
use Rattle.entity_types.specs.declared.entity.Entity.{Entity}
use Rattle.entity_types.specs.declared.edit.Edit.{Edit}
use Rattle.run_log.specs.declared.entry.Entry.{Entry}
use Rattle.project_law.specs.ProjectRules.{rules_of}
use Rattle.log_check.specs.Checked.{StopsRight, IsAnswer}
use Rattle.log_check.proofs.FollowLemmas.{within}
use Rattle.log_check.proofs.checking.judged.Goals as goal

pub found-requires-clause-stops : goal.found-requires-clause-stops
found-requires-clause-stops g c =
    let s = c.follow_all.new.state in
    let e = c.in_ok-all_fit.ensures in
    subst (λ (p : List Entity). StopsRight (rules_of p s.script) s.list s.coming c.in_ok-all_fit.all_fit) (sym e.project)
    (subst (λ (q : List Edit). StopsRight (rules_of c.args.state.now.project q) s.list s.coming c.in_ok-all_fit.all_fit) (sym e.script) e.stands)

pub found-requires-clause-log : goal.found-requires-clause-log
found-requires-clause-log g c =
    let s = c.follow_all.new.state in
    let e = c.in_ok-all_fit.ensures in
    within s.list s.coming (c.args.state.now.list ++ c.args.state.now.coming) e.parts c.args.log (sym c.requires)

pub returns : goal.returns
returns g c =
    let s = c.follow_all.new.state in
    let e = c.in_ok-all_fit.ensures in
    subst (λ (u : List Entry). IsAnswer (rules_of c.args.state.now.project c.args.state.now.script) u c.args.ending c.found.result) e.parts
    (subst (λ (p : List Entity). IsAnswer (rules_of p c.args.state.now.script) (s.list ++ s.coming) c.args.ending c.found.result) e.project
    (subst (λ (q : List Edit). IsAnswer (rules_of s.project q) (s.list ++ s.coming) c.args.ending c.found.result) e.script c.found.ensures))
