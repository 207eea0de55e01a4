use Rattle.entity_types.proofs.FitsLemmas.{is_some-field_at, is_some-copied}
use Rattle.entity_types.specs.Table.{used_of}
use Rattle.entity_types.proofs.entity.Entity.field.Goals as goal

pub returns-clause-found : goal.returns-clause-found
returns-clause-found c =
    let e = c.args.self.now in
    let found = is_some-field_at (used_of e.class) e.fields c.args.position e.fit in
    let same = is_some-copied c.field_at.result in
    (λ h. cc, λ h. cc)
