use Rattle.std.proofs.Common.{◌<◌, ◌∷◌, [], ◌++◌, length, take, sym, ap, ◌∙◌, subst, arith}
use Rattle.std.proofs.lemmas.List.{take_more}
use Rattle.entity_types.specs.declared.entity.Entity.{Entity}
use Rattle.project_versions.specs.Users.{rows_of, PutsRows}
use Rattle.project_versions.proofs.UserLemmas.{PutsRows-both, PutsRows-rows, uses_count-drop}
use Rattle.project_versions.proofs.users.Users.put.Goals as goal

pub loop-item-preserved : goal.loop-item-preserved
loop-item-preserved c =
    let store = c.args.store.now in
    let first = rows_of c.args.self.now in
    let before = rows_of c.loop-item.self in
    let now = rows_of c.put_one.new.self in
    let items = c.args.items.now in
    let i = c.loop-item.item-index in
    let item = c.item-item.result in
    let within : i < length items = omega arith in
    record {
      puts = subst (PutsRows store first now) (ap (λ (x : Entity). take i items ++ x ∷ []) c.item-item.is ∙ sym (take_more items i item within))
          (PutsRows-both store first before now (take i items) (item ∷ []) c.loop-item.invariant.puts c.put_one.ensures.puts);
      rows = PutsRows-rows store before now (item ∷ []) (length store) c.put_one.ensures.puts c.loop-item.invariant.rows;
      len = omega (arith, uses_count-drop items i item within c.item-item.is, c.loop-item.invariant.len, c.put_one.ensures.len, c.put_one.ensures.capacity);
    }
