use Rattle.std.proofs.Common.{map, subst}
use Rattle.p21_parse.specs.declared.error.BuildErr.{BuildErr}
use Rattle.p21_parse.specs.View.{instance_of}
use Rattle.p21_parse.specs.Built.{IsRefusedList}
use Rattle.big_case.proofs.Whole.{project_is_taken}
use Rattle.big_case.proofs.project.project.Goals as goal

pub unreachable-requires : goal.unreachable-requires
unreachable-requires c =
    let items = map instance_of c.in_ok-items.items in
    let fault = c.in-Err-Invalid in
    project_is_taken c.args.steps c.args.draws.now.state fault.field-0-0 items c.requires c.in_ok-items.ensures.items (
    subst (λ (e : BuildErr). IsRefusedList items e) fault.field-0-is fault.ensures.refused
    )
