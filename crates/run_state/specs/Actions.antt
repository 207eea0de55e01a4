-- What a node does next, and what it costs to go on with it.
use Rattle.std.specs.Prelude.{◌≡◌, ◌+◌, ◌*◌, ℕ, Bool, true, false, List, length}
use Rattle.run_log.specs.declared.entry.Entry.{Entry}
use Rattle.run_log.specs.declared.entry.Entry.TheVariants.{Pick}
use Rattle.trace_law.specs.Offer.{Offer, Starts, offer}
use Rattle.run_law.specs.Rules.{Rules}
use Rattle.exec_tree.specs.Exec.{has}
use Rattle.run_law.specs.Fits.{plain, next_of, is_due, is_enabled}
use Rattle.frame_law.specs.ComeTo.{nesting, new_in}

-- a node that does this next is dispatched by it
abbrev pub does_start : Offer → Bool
does_start Starts = true
does_start _ = false

-- node n is dispatched next
abbrev pub starts_next : Rules → List Entry → ℕ → Bool
starts_next r t n = does_start (offer (r.tree t) (plain t) n)

-- the most looks at nodes of the tree that the entry x after t may take: four times the sum of the tree's greatest nesting, one, the number of
-- nodes where the run can go on, and the number of nodes to which it comes by the entry
abbrev pub most_looks : Rules → List Entry → Entry → ℕ
most_looks r t x = 4 * (nesting (r.tree t) + 1 + length (next_of r t) + length (new_in (r.tree t) (plain t) x))

-- the entry picks an element
abbrev pub is_pick : Entry → Bool
is_pick (Pick n k) = true
is_pick _ = false

-- no edit is due, the run can go on at node n, and n is enabled
pub record MayGoOn (r : Rules) (t : List Entry) (n : ℕ) : Type 0 where
  pub not_due : is_due r t ≡ false
  pub is_next : has (next_of r t) n ≡ true
  pub enabled : is_enabled r t n ≡ true
