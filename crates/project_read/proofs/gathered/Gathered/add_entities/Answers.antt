use Rattle.std.proofs.Common.{◌≡◌, ◌++◌, Ok, map, subst, sym, List}
use Rattle.p21_parse.specs.View.{instance_of}
use Rattle.entity_types.specs.declared.entity.Entity.{Entity}
use Rattle.entity_read.specs.Typed.{entity_of}
use Rattle.project_read.specs.Typing.{all_typed}
use Rattle.project_read.proofs.Progress.{kept_more, kept_fault}
use Rattle.project_read.proofs.gathered.Gathered.add_entities.Goals as goal

pub returns-in_ok-append-in-Ok-clause-kept : goal.returns-in_ok-append-in-Ok-clause-kept
returns-in_ok-append-in-Ok-clause-kept c = λ items kept.
    subst (λ (es : List Entity). all_typed (items ++ map instance_of c.args.instances.now) ≡ Ok (map entity_of es)) (sym c.in_ok-append-in-Ok.ensures.items)
    (kept_more items (map instance_of c.args.instances.now) c.args.self.now.entities.items c.in-Ok.more kept c.in-Ok.ensures)

pub returns-in-Err-Refused-clause-kept : goal.returns-in-Err-Refused-clause-kept
returns-in-Err-Refused-clause-kept c = λ items kept.
    kept_fault items (map instance_of c.args.instances.now) c.args.self.now.entities.items c.args.self.now.entities.items c.in-Err-Refused.reason kept (rw c.in-Err-Refused.field-0-is at c.in-Err-Refused.ensures)
