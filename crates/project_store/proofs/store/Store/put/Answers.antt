use Rattle.std.proofs.Common.{◌≡◌, nat_eq, List, Result, Ok, Err, None, sym, subst}
use Rattle.std.specs.Prelude.{OnOk, OnErr}
use Rattle.std.specs.List.{IsDistinct}
use Rattle.entity_types.specs.declared.entity.Entity.{Entity}
use Rattle.project_store.specs.Build.{fault_of}
use Rattle.project_store.specs.Entities.{numbers_of}
use Rattle.project_store.specs.Put.{put_items}
use Rattle.project_store.specs.Putting.{CanPut}
use Rattle.project_store.proofs.StoreLemmas.{no_fault_put}
use Rattle.project_store.proofs.store.Store.put.Goals as goal

by : {A B : Type 0} (answer : Result A B) (store items new : List Entity) → fault_of store ≡ None → IsDistinct nat_eq (numbers_of store) → CanPut store items
    → OnOk answer (new ≡ put_items store items) → OnErr answer (new ≡ store) → fault_of new ≡ None
by (Ok x) store items new none distinct can put kept = rw put (no_fault_put store items none distinct can)
by (Err x) store items new none distinct can put kept = rw kept none

pub invariant_of-self : goal.invariant_of-self
invariant_of-self c =
    let distinct : IsDistinct nat_eq (numbers_of c.self.inside.index) = c.put.ensures.distinct in
    let can : CanPut c.self.inside.index c.args.items = subst (λ (es : List Entity). CanPut es c.args.items) (sym c.self.view_is) c.requires in
    by c.put.result c.self.inside.index c.args.items c.put.new.self c.self.invariant distinct can c.put.ensures.put c.put.ensures.kept
