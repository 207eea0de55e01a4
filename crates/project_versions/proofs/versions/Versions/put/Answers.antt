use Rattle.std.proofs.Common.{◌≡◌, ◌+◌, ◌≤◌, ◌<◌, ◌^◌, ℕ, List, length, sym, ap, subst, ◌∙◌, arith}
use Rattle.std.specs.Prelude.{Contains}
use Rattle.entity_types.specs.declared.entity.Entity.{Entity}
use Rattle.project_store.specs.Entities.{entity_at}
use Rattle.project_store.specs.Inserts.{is_among}
use Rattle.project_store.specs.Put.{put_items}
use Rattle.project_versions.specs.Users.{Rows, rows_of, AreLinked, PutsRows, RowsAreRight, IsUserIndex}
use Rattle.project_versions.specs.Versions.{one_where}
use Rattle.project_versions.specs.Versioned.{Versioned, version_of}
use Rattle.project_versions.proofs.KeptLemmas.{all_grow, linked_on, grown, index_put, rise_is}
use Rattle.project_versions.proofs.versions.Versions.put.Goals as goal

pub overflow_sub-self : goal.overflow_sub-self
overflow_sub-self c =
    let store = c.self.inside.store in
    let stored : c.put.new.self ≡ put_items store c.in-Ok-copy_of.items = c.in-Ok-put.ensures.put in
    omega (arith, all_grow store c.in-Ok-copy_of.items, ap (λ (l : List Entity). length l) stored, c.len.ensures.len, c.len-before.ensures.len)

pub put-requires-2-clause-linked : goal.put-requires-2-clause-linked
put-requires-2-clause-linked c =
    let store = c.self.inside.store in
    let stored : c.put.new.self ≡ put_items store c.in-Ok-copy_of.items = c.in-Ok-put.ensures.put in
    let grows : length store ≤ length c.put.new.self = omega (arith, all_grow store c.in-Ok-copy_of.items, ap (λ (l : List Entity). length l) stored) in
    subst (λ (rows : Rows). AreLinked (length c.put.new.self) rows) (sym c.reserve.ensures.rows)
    (linked_on (rows_of c.self.inside.users) (length store) (length c.put.new.self) grows c.self.invariant.index.linked)

pub raise-requires-clause-steps : goal.raise-requires-clause-steps
raise-requires-clause-steps c = λ n h.
    let reached = subst (λ (ns : List ℕ). Contains ns n) c.as_slice-3.ensures h in
    let step = ((c.in-Ok.ensures.members n).0 reached).0 in
    (c.self.invariant.is_order.members n).1 (subst (λ (v : Versioned). Contains v.steps n) (sym c.self.view_is) step)

pub raise-requires-clause-fits : goal.raise-requires-clause-fits
raise-requires-clause-fits c = λ n h.
    let reached = subst (λ (ns : List ℕ). Contains ns n) c.as_slice-3.ensures h in
    let step = ((c.in-Ok.ensures.members n).0 reached).0 in
    subst (λ (v : Versioned). version_of v.versions n + 1 < 2 ^ 32) (sym c.self.view_is) (c.requires.versions n step)

pub invariant_of-self-2 : goal.invariant_of-self-2
invariant_of-self-2 c =
    let store = c.self.inside.store in
    let items = c.args.edit.items in
    let stored : c.put.new.self ≡ put_items store items = c.in-Ok-put.ensures.put ∙ ap (put_items store) c.in-Ok-copy_of.ensures in
    let before = rows_of c.self.inside.users in
    let reserved = rows_of c.reserve.new.self in
    let after = rows_of c.put-2.new.self in
    let distinct = c.put_keeps_a_store.ensures.distinct store items c.len-before.ensures.distinct in
    let right = subst (λ (rows : Rows). RowsAreRight (put_items store items) rows (entity_at store)) (sym c.reserve.ensures.rows)
    (grown store items before distinct c.closed.ensures c.self.invariant.index) in
    let puts = subst (λ (s : List Entity). PutsRows s reserved after items) stored (subst (λ (l : List Entity). PutsRows c.put.new.self reserved after l) c.as_slice-2.ensures c.put-2.ensures) in
    let heads = ap (λ (rows : Rows). length rows.heads) c.reserve.ensures.rows in
    let since = ap (λ (rows : Rows). length rows.since) c.reserve.ensures.rows in
    let size = ap (λ (l : List Entity). length l) stored in
    let room = subst (λ (v : Versioned). length (put_items v.store items) ≤ v.spare + length v.store) (sym c.self.view_is) (omega (arith, c.requires.room)) in
    record {
      index = subst (λ (s : List Entity). IsUserIndex s after) (sym stored) (index_put store items reserved after (c.put_keeps_a_store.ensures.found store items) right puts);
      rows = record {
        heads = omega (arith, c.self.invariant.rows.heads, heads, puts.heads, room, size, c.len.ensures.len, c.len-before.ensures.len, all_grow store items);
        since = omega (arith, c.self.invariant.rows.since, since, puts.since, room, size, c.len.ensures.len, c.len-before.ensures.len, all_grow store items);
      };
      is_order = c.self.invariant.is_order;
      counts = c.raise.ensures.len ∙ c.self.invariant.counts;
    }

pub returns-clause-versions : goal.returns-clause-versions
returns-clause-versions c = λ n step.
    let now = c.args.self.now in
    let there = (c.self.invariant.is_order.members n).1 (subst (λ (v : Versioned). Contains v.steps n) (sym c.self.view_is) step) in
    let raised = c.raise.ensures.versions n there in
    let view = ap (λ (v : Versioned). version_of v.versions n) c.self.view_is in
    let list = ap (λ (ns : List ℕ). one_where (is_among ns n)) c.as_slice-3.ensures in
    let rise = ap one_where (rise_is now.store now.steps c.args.edit.items c.in-Ok.reached n c.in-Ok.ensures step) in
    omega (arith, raised, view, list, rise)
