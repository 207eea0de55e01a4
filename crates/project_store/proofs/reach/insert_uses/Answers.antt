use Rattle.std.proofs.Common.{◌+◌, ◌∙◌, ap, drop, arith}
use Rattle.std.specs.Prelude.{flat_map}
use Rattle.entity_types.specs.Entity.{references_of}
use Rattle.project_store.specs.Inserts.{insert_all}
use Rattle.project_store.proofs.Inserting.{uses_step}
use Rattle.project_store.proofs.reach.insert_uses.Goals as goal

pub loop-field-preserved : goal.loop-field-preserved
loop-field-preserved c =
    let fields = c.as_slice-field-items.result.now in
    let i = c.loop-field.field-index in
    let ks = c.loop-field.set.order.items in
    record {
      order =
          ap (λ set. insert_all set (flat_map references_of (drop (i + 1) fields))) (c.in_ok-insert_all.ensures.order ∙ ap (insert_all ks) c.references.ensures)
          ∙ uses_step ks fields i c.field-item.result (omega arith) c.field-item.is ∙ c.loop-field.invariant.order;
      members = c.in_ok-insert_all.ensures.members;
    }
