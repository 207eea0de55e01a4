use Rattle.std.proofs.Common.{◌≡◌, ◌+◌, true, false, [], ◌∷◌, ◌++◌, take, Option, Some, None, Bor, refl, sym, ap, ◌∙◌}
use Rattle.std.specs.Prelude.{is_some, not, option_copied}
use Rattle.std.proofs.lemmas.List.{take_more}
use Rattle.entity_types.specs.declared.entity.Entity.{Entity}
use Rattle.project_store.specs.Entities.{entity_at}
use Rattle.project_store.specs.Put.{put_in, put_items}
use Rattle.project_store.proofs.PuttingLemmas.{put_items-push, no_new_number, new_number}
use Rattle.project_store.proofs.putting.new_numbers.Goals as goal
use Rattle.project_store.proofs.putting.new_numbers.Goals.{then-is_none+in_ok-insert, else-is_none}

is_some-copied : {X : Type 0} (o : Option (Bor X)) → is_some (option_copied o) ≡ is_some o
is_some-copied None = refl
is_some-copied (Some x) = refl

pub loop-item-preserved : goal.loop-item-preserved
loop-item-preserved c =
    let store = c.args.index.now in
    let x = c.item-item.result in
    let before = put_items store (take c.loop-item.item-index c.args.items.now) in
    let step : put_items store (take (c.loop-item.item-index + 1) c.args.items.now) ≡ put_in before x =
    ap (put_items store) (take_more c.args.items.now c.loop-item.item-index x c.loop-item-test.true ∙ ap (λ (y : Entity). take c.loop-item.item-index c.args.items.now ++ y ∷ []) (sym c.item-item.is))
    ∙ put_items-push store (take c.loop-item.item-index c.args.items.now) x in
    let found : is_some (entity_at store x.number) ≡ is_some c.get.result = ap is_some (sym c.get.ensures) ∙ is_some-copied c.get.result in
    elim c.if-is_none.branch [
      | then-is_none+in_ok-insert w ↦ (
          let none : is_some (entity_at store x.number) ≡ false = found ∙ c.is_none.ensures ∙ ap not w.if-is_none.true in
          rw (step, w.numbers-is) (record {
            numbers = rw w.in_ok-insert.ensures.order (new_number store before x c.loop-item.numbers.order.items none c.loop-item.invariant.numbers);
            members = w.in_ok-insert.ensures.members;
          }))
      | else-is_none w ↦ (
          let there : is_some (entity_at store x.number) ≡ true = found ∙ c.is_none.ensures ∙ ap not w.if-is_none.false in
          rw (step, w.numbers-is) (record {
            numbers = no_new_number store before x c.loop-item.numbers.order.items there c.loop-item.invariant.numbers;
            members = c.loop-item.invariant.members;
          }))
    ]
