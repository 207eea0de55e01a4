use Rattle.std.proofs.Common.{◌+◌, ◌++◌, ◌<◌, List, ℕ, length, take, drop, sym, ap, ◌∙◌, subst, arith, length-append}
use Rattle.std.specs.Prelude.{flat_map}
use Rattle.entity_types.specs.Entity.{references_of}
use Rattle.project_versions.specs.Users.{rows_of, Links}
use Rattle.project_versions.proofs.UserLemmas.{Links-both, Links-rows, flat_map-take, flat_map-drop}
use Rattle.project_versions.proofs.users.Users.link_uses.Goals as goal

pub loop-field-preserved : goal.loop-field-preserved
loop-field-preserved c =
    let store = c.args.store.now in
    let first = rows_of c.args.self.now in
    let before = rows_of c.loop-field.self in
    let now = rows_of c.link_all.new.self in
    let fields = c.as_slice-field-items.result.now in
    let i = c.loop-field.field-index in
    let within : i < length fields = omega arith in
    let read = c.references.ensures in
    let more = flat_map-take fields i c.field-item.result within c.field-item.is in
    let less = flat_map-drop fields i c.field-item.result within c.field-item.is in
    record {
      links = subst (Links store first now c.args.user) (ap (λ (l : List ℕ). flat_map references_of (take i fields) ++ l) read ∙ sym more)
          (Links-both store first before now c.args.user (flat_map references_of (take i fields)) _ c.loop-field.invariant.links c.link_all.ensures.links);
      rows = Links-rows store before now c.args.user _ (length store) c.link_all.ensures.links c.loop-field.invariant.rows;
      len =
          let sizes = length-append (references_of c.field-item.result) (flat_map references_of (drop (i + 1) fields)) in
          let whole = ap (λ (l : List ℕ). length l) less in
          let one = ap (λ (l : List ℕ). length l) read in
          omega (arith, sizes, whole, one, c.loop-field.invariant.len, c.link_all.ensures.len);
      capacity = omega arith;
    }
