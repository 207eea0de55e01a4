use Rattle.std.proofs.Common.{Option, subst}
use Rattle.project_read.specs.declared.reason.ProjectReason.{ProjectReason}
use Rattle.project_read.specs.Gathered.{IsKept}
use Rattle.project_read.proofs.Typing.{typed_numbers}
use Rattle.project_read.proofs.gathered.Gathered.finish.Goals as goal

pub returns-in-None : goal.returns-in-None
returns-in-None c = λ items g.
    let es = c.args.self.entities.items in
    let typed = subst (λ (o : Option ProjectReason). IsKept items es o) c.in-None.is g.kept in
    (typed, typed_numbers items es typed)
