use Rattle.std.proofs.Common.{◌+◌, ◌∙◌, sym, ap, drop, arith}
use Rattle.std.specs.Prelude.{flat_map}
use Rattle.std.specs.Option.{option_or}
use Rattle.entity_types.specs.Entity.{references_of}
use Rattle.project_store.specs.Build.{missing_among}
use Rattle.project_store.proofs.FaultLemmas.{missing_step}
use Rattle.project_store.proofs.build.missing_reference.Goals as goal

pub returns-in-Some : goal.returns-in-Some
returns-in-Some c =
    let all = c.args.index.now in
    let fields = c.as_slice-field-items.result.now in
    let i = c.loop-field.field-index in
    let rest = missing_among all (flat_map references_of (drop (i + 1) fields)) in
    let step = missing_step all fields i c.field-item.result (omega arith) c.field-item.is in
    ap (λ o. option_or o rest) (c.in-Some.ensures ∙ ap (missing_among all) c.references.ensures)
    ∙ sym step ∙ c.loop-field.invariant ∙ ap (λ fs. missing_among all (flat_map references_of fs)) c.as_slice-field-items.ensures

pub loop-field-preserved : goal.loop-field-preserved
loop-field-preserved c =
    let all = c.args.index.now in
    let fields = c.as_slice-field-items.result.now in
    let i = c.loop-field.field-index in
    let rest = missing_among all (flat_map references_of (drop (i + 1) fields)) in
    let step = missing_step all fields i c.field-item.result (omega arith) c.field-item.is in
    ap (λ o. option_or o rest) (c.in_default.ensures ∙ ap (missing_among all) c.references.ensures) ∙ sym step ∙ c.loop-field.invariant
