use Rattle.std.proofs.Common.{◌≡◌, ℕ, ◌+◌, ◌<◌, ◌==◌, Bool, cond, List, [], ◌∷◌, ◌++◌, length, take, Option, Some, sym, ap, ◌∙◌, arith}
use Rattle.std.specs.Prelude.{slice_get}
use Rattle.std.specs.BTreeMap.{get, is_at}
use Rattle.std.specs.Ordering.{nat_cmp}
use Rattle.std.proofs.lemmas.Bool.Decides.{nat_tests}
use Rattle.std.proofs.lemmas.List.{take_more, length-take-le}
use Rattle.std.proofs.lemmas.Option.{get_or_from_slice_get, slice_get_within}
use Rattle.entity_types.specs.declared.entity.Entity.{Entity}
use Rattle.project_store.specs.Lasts.{last_place}
use Rattle.project_store.proofs.LastLemmas.{last_place-push}
use Rattle.project_store.proofs.overlay.lasts_of.Goals as goal

-- what is found with one more item
more : (items : List Entity) (i n : ℕ) (x : Entity) (old new : Option ℕ) → slice_get items i ≡ Some x → new ≡ cond (n == x.number) (Some i) old → old ≡ last_place 0 (take i items) n
    → new ≡ last_place 0 (take (i + 1) items) n
more items i n x old new there is before =
    let within : i < length items = slice_get_within items i x there in
    let first : length (take i items) ≡ i = length-take-le i items (omega (arith, within)) in
    let place : 0 + length (take i items) ≡ i = omega (arith, first) in
    is ∙ ap (cond (n == x.number) (Some i)) before ∙ ap (λ (k : ℕ). cond (n == x.number) (Some k) (last_place 0 (take i items) n)) (sym place)
    ∙ sym (last_place-push 0 (take i items) x n) ∙ ap (λ (l : List Entity). last_place 0 l n) (sym (taken within))
  where
    taken : i < length items → take (i + 1) items ≡ take i items ++ x ∷ []
    taken within = take_more items i x within ∙ ap (λ (y : Entity). take i items ++ y ∷ []) (get_or_from_slice_get items i x x there)

-- the test of the map is that of the items
same_test : (m n : ℕ) → is_at (nat_cmp m) n ≡ (n == m)
same_test m n = grind (arith, nat_tests)

pub loop-i-preserved : goal.loop-i-preserved
loop-i-preserved c = λ n.
    let x = c.at.result.now in
    let i = c.loop-i.i in
    let updated : get nat_cmp c.insert.new.self n ≡ cond (n == x.number) (Some i) (get nat_cmp c.loop-i.lasts n) =
    c.in_ok-insert.ensures.updates.0 n ∙ ap (λ (b : Bool). cond b (Some i) (get nat_cmp c.loop-i.lasts n)) (same_test x.number n) in
    more c.args.items.now i n x (get nat_cmp c.loop-i.lasts n) (get nat_cmp c.insert.new.self n) c.at.ensures updated (c.loop-i.invariant n)
