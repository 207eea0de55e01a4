use Rattle.std.proofs.Common.{◌≡◌, ◌+◌, ◌≤◌, length, reverse, vec_len, vec_capacity}
use Rattle.project_store.specs.Put.{put_items}
use Rattle.project_store.proofs.putting.put_each.Given as goal

-- with the items put that are left the entities are those of the end; there is room for these
abbrev pub invariant-loop-item : goal.invariant-loop-item
invariant-loop-item l = record {
  same : put_items l.entities.items (reverse l.left.items) ≡ put_items l.fn.entities.items (reverse l.fn.left.items);
  reserved : vec_len l.entities + length l.left.items ≤ vec_capacity l.entities;
}

abbrev pub decreases-loop-item : goal.decreases-loop-item
decreases-loop-item l = length l.left.items
