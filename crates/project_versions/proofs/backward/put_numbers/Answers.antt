use Rattle.std.proofs.Common.{◌<◌, ◌∷◌, [], List, ℕ, length, take, sym, subst, arith}
use Rattle.project_store.specs.Entities.{numbers_of}
use Rattle.project_versions.specs.Users.{Grown}
use Rattle.project_versions.proofs.GrownLemmas.{Grown-one, Grown-both}
use Rattle.project_versions.proofs.BackwardLemmas.{numbers_more}
use Rattle.project_versions.proofs.backward.put_numbers.Goals as goal

pub loop-item-preserved : goal.loop-item-preserved
loop-item-preserved c =
    let items = c.args.items.now in
    let i = c.loop-item.item-index in
    let item = c.item-item.result in
    let before = c.loop-item.set.order.items in
    let now = c.insert.new.self.order.items in
    let within : i < length items = omega arith in
    record {
      order = subst (λ (ns : List ℕ). Grown [] now ns) (sym (numbers_more items i item within c.item-item.is))
          (Grown-both [] before now (numbers_of (take i items)) (item.number ∷ []) c.loop-item.invariant.order (Grown-one before now item.number c.in_ok-insert.ensures.order));
      members = c.in_ok-insert.ensures.members;
    }
