use Rattle.std.proofs.Common.{◌≡◌, length}
use Rattle.tree_table.specs.Rows.{AreLinkedBack}
use Rattle.tree_table.proofs.table.blank.Given as goal

abbrev pub invariant-loop-i : goal.invariant-loop-i
invariant-loop-i l = record { long : length l.rows.items ≡ l._i; back : AreLinkedBack l.rows.items }
