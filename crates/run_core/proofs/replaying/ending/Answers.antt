use Rattle.std.proofs.Common.{◌∙◌, sym}
use Rattle.project_law.specs.ProjectRules.{rules_of}
use Rattle.run_core.proofs.CoreLemmas.{stands_done, stands_blocked, done_stands, blocked_stands, stands_full}
use Rattle.run_core.proofs.replaying.ending.Goals as goal

pub returns-in-Done : goal.returns-in-Done
returns-in-Done g c =
    let r = rules_of g.N.RunName.project g.N.RunName.script in
    (c.endings_by_next.ensures.done r c.args.core.now.0 c.legal.ensures.sound c.legal.ensures.legal).1
    (stands_done r g.N.RunName.limit c.args.core.now.0 (sym c.standing.ensures ∙ c.in-Done.is))

pub returns-in-Blocked : goal.returns-in-Blocked
returns-in-Blocked g c =
    let r = rules_of g.N.RunName.project g.N.RunName.script in
    (c.endings_by_next.ensures.blocked r c.args.core.now.0 c.legal.ensures.sound c.legal.ensures.legal).1
    (stands_blocked r g.N.RunName.limit c.args.core.now.0 (sym c.standing.ensures ∙ c.in-Blocked.is))

pub returns-in_default : goal.returns-in_default
returns-in_default g c =
    let r = rules_of g.N.RunName.project g.N.RunName.script in
    let t = c.args.core.now.0 in
    let done = c.endings_by_next.ensures.done r t c.legal.ensures.sound c.legal.ensures.legal in
    let blocked = c.endings_by_next.ensures.blocked r t c.legal.ensures.sound c.legal.ensures.legal in
    record {
      not_done = λ h. let z = done.0 h in c.in_default.not-Done (c.standing.ensures ∙ done_stands r g.N.RunName.limit t z.0 z.1);
      not_blocked = λ h. let z = blocked.0 h in c.in_default.not-Blocked (c.standing.ensures ∙ blocked_stands r g.N.RunName.limit t z.0 z.1 z.2);
      full = stands_full r g.N.RunName.limit t c.requires c.legal.ensures.within (λ h. c.in_default.not-Done (c.standing.ensures ∙ h)) (λ h. c.in_default.not-Blocked (c.standing.ensures ∙ h));
    }
