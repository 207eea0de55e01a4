use Rattle.std.proofs.Common.{◌≡◌, ◌++◌, nat_eq, List, length, reverse, Ok, sym, ap, ◌∙◌, subst}
use Rattle.std.specs.List.{IsDistinct}
use Rattle.std.proofs.lemmas.List.{reverse-reverse}
use Rattle.entity_types.specs.declared.entity.Entity.{Entity}
use Rattle.project_store.specs.Entities.{numbers_of}
use Rattle.project_store.specs.Places.{AreKept, AreNoted}
use Rattle.project_store.specs.Put.{put_items}
use Rattle.project_store.proofs.PuttingLemmas.{distinct_put, new_distinct, index_noted, index_put}
use Rattle.project_store.proofs.index.Index.put.Goals as goal

pub note_places-requires-clause-distinct : goal.note_places-requires-clause-distinct
note_places-requires-clause-distinct c =
    let x = c.self.inside in
    let numbers : numbers_of (put_items x.entities.items c.args.items) ≡ numbers_of x.entities.items ++ c.in-Ok.numbers.items = rw (c.self.view_is, ← c.as_slice.ensures) c.in-Ok.ensures in
    let distinct : IsDistinct nat_eq (numbers_of x.entities.items ++ c.in-Ok.numbers.items) = subst (IsDistinct nat_eq) numbers (distinct_put x.entities.items c.args.items c.self.invariant.distinct) in
    rw c.as_slice-2.ensures.value (new_distinct (numbers_of x.entities.items) c.in-Ok.numbers.items distinct)

pub invariant_of-self-in_default-note_places : goal.invariant_of-self-in_default-note_places
invariant_of-self-in_default-note_places c =
    let x = c.self.inside in
    let numbers : numbers_of (put_items x.entities.items c.args.items) ≡ numbers_of x.entities.items ++ c.in-Ok.numbers.items = rw (c.self.view_is, ← c.as_slice.ensures) c.in-Ok.ensures in
    let distinct : IsDistinct nat_eq (numbers_of x.entities.items ++ c.in-Ok.numbers.items) = subst (IsDistinct nat_eq) numbers (distinct_put x.entities.items c.args.items c.self.invariant.distinct) in
    let kept : AreKept x.added c.note_places.new.added c.in-Ok.numbers.items = rw (← c.as_slice-2.ensures.value) c.note_places.ensures.kept in
    rw c.reserve.ensures.items (index_noted x.opening.items x.added c.note_places.new.added x.entities.items c.in-Ok.numbers.items c.self.invariant distinct kept)

pub put_each-requires-clause-index : goal.put_each-requires-clause-index
put_each-requires-clause-index c =
    let x = c.self.inside in
    let numbers : numbers_of (put_items x.entities.items c.args.items) ≡ numbers_of x.entities.items ++ c.in-Ok.numbers.items = rw (c.self.view_is, ← c.as_slice.ensures) c.in-Ok.ensures in
    let distinct : IsDistinct nat_eq (numbers_of x.entities.items ++ c.in-Ok.numbers.items) = subst (IsDistinct nat_eq) numbers (distinct_put x.entities.items c.args.items c.self.invariant.distinct) in
    let kept : AreKept x.added c.note_places.new.added c.in-Ok.numbers.items = rw (← c.as_slice-2.ensures.value) c.note_places.ensures.kept in
    let first : c.len-first.result ≡ length x.entities.items = c.len-first.ensures.len ∙ sym (ap (λ (l : List Entity). length l) c.self.view_is) in
    let noted : AreNoted c.note_places.new.added (length x.entities.items) c.in-Ok.numbers.items =
    rw (← c.as_slice-2.ensures.value, ← first) c.in-Ok-note_places.ensures.noted in
    let items : reverse c.reversed-left.result.items ≡ c.args.items = ap reverse c.reversed-left.ensures ∙ reverse-reverse c.args.items in
    rw (c.as_slice-3.ensures.value, c.reserve.ensures.items, items)
    (index_put x.opening.items x.added c.note_places.new.added x.entities.items c.in-Ok.numbers.items c.self.invariant distinct kept c.args.items numbers noted)

pub invariant_of-self-2 : goal.invariant_of-self-2
invariant_of-self-2 c =
    let x = c.self.inside in
    let numbers : numbers_of (put_items x.entities.items c.args.items) ≡ numbers_of x.entities.items ++ c.in-Ok.numbers.items = rw (c.self.view_is, ← c.as_slice.ensures) c.in-Ok.ensures in
    let distinct : IsDistinct nat_eq (numbers_of x.entities.items ++ c.in-Ok.numbers.items) = subst (IsDistinct nat_eq) numbers (distinct_put x.entities.items c.args.items c.self.invariant.distinct) in
    let kept : AreKept x.added c.note_places.new.added c.in-Ok.numbers.items = rw (← c.as_slice-2.ensures.value) c.note_places.ensures.kept in
    let first : c.len-first.result ≡ length x.entities.items = c.len-first.ensures.len ∙ sym (ap (λ (l : List Entity). length l) c.self.view_is) in
    let noted : AreNoted c.note_places.new.added (length x.entities.items) c.in-Ok.numbers.items =
    rw (← c.as_slice-2.ensures.value, ← first) c.in-Ok-note_places.ensures.noted in
    let items : reverse c.reversed-left.result.items ≡ c.args.items = ap reverse c.reversed-left.ensures ∙ reverse-reverse c.args.items in
    rw (c.put_each.ensures, c.reserve.ensures.items, items)
    (index_put x.opening.items x.added c.note_places.new.added x.entities.items c.in-Ok.numbers.items c.self.invariant distinct kept c.args.items numbers noted)
