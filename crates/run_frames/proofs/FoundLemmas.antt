-- What the table of a tree tells of a place is what is found in the tree at it.
use Rattle.std.specs.Prelude.{◌≡◌, ◌<◌, ◌≤◌, ◌==◌, if◌then◌else◌, ℕ, Bool, true, false, ◌||◌, List, slice_get, Some, None}
use Rattle.std.proofs.Common.{refl, sym, ◌∙◌, ap, subst}
use Rattle.exec_tree.specs.Exec.{Exec, Work, Leaf, Plan, Par, NonSeq, Sel, If, While, Execs, None_left, Then, nodes, has, number_or_none, AreDistinct}
use Rattle.exec_tree.specs.Arena.{IsClosed}
use Rattle.exec_tree.specs.declared.node.BareNode.{BareNode}
use Rattle.trace_law.specs.Leading.{leads}
use Rattle.frame_law.specs.Executable.{executable_among}
use Rattle.frame_law.specs.Executable as tree
use Rattle.frame_law.proofs.ChosenLemmas.{found_distinct}
use Rattle.frame_law.proofs.OpenedLemmas.{leads_within}
use Rattle.tree_table.specs.Placed.{placed, placed_down}
use Rattle.tree_table.specs.Within.{within, within_all}
use Rattle.tree_table.specs.Rows.{executable_at}
use Rattle.tree_table.specs.Table.{IsEntrance, LeadsTo, IsTable}
use Rattle.tree_table.specs.declared.row.Row.{Row}
use Rattle.tree_table.proofs.ListLemmas.{clash}
use Rattle.tree_table.proofs.TableLemmas.{found_of}
use Rattle.tree_table.proofs.OpenLemmas.{table_part, later_nodes}

-- the two ways to look a number up find the same
or_none : (b : Bool) (e f g : Exec) → f ≡ g → (if b then e else f) ≡ (if b then e else g)
or_none b e f g h = ap (λ (w : Exec). if b then e else w) h

own_or : (n m : ℕ) (e f g : Exec) → f ≡ g → (if n == m then e else f) ≡ (if has (number_or_none (Some n)) m then e else g)
own_or n m e f g h = go (n == m)
  where
    go : (b : Bool) → (if b then e else f) ≡ (if b || false then e else g)
    go true = refl
    go false = h

either : (b : Bool) (e e' f f' : Exec) → e ≡ e' → f ≡ f' → (if b then e else f) ≡ (if b then e' else f')
either true e e' f f' h i = h
either false e e' f f' h i = i

mutual
  pub within_is : (e : Exec) (m : ℕ) → within e m ≡ tree.executable_at e m
  within_is (Work n) m = refl
  within_is (Leaf n k) m = refl
  within_is (Plan None es) m = within_all_is es m
  within_is (Plan (Some n) es) m = own_or n m (Plan (Some n) es) (within_all es m) (executable_among es m) (within_all_is es m)
  within_is (Par n es) m = or_none (n == m) (Par n es) _ _ (within_all_is es m)
  within_is (NonSeq n es) m = or_none (n == m) (NonSeq n es) _ _ (within_all_is es m)
  within_is (Sel n es) m = or_none (n == m) (Sel n es) _ _ (within_all_is es m)
  within_is (If n a b) m = or_none (n == m) (If n a b) _ _ (either (has (nodes a) m) _ _ _ _ (within_is a m) (within_is b m))
  within_is (While n a) m = or_none (n == m) (While n a) _ _ (within_is a m)

  within_all_is : (es : Execs) (m : ℕ) → within_all es m ≡ executable_among es m
  within_all_is None_left m = refl
  within_all_is (Then e es) m = either (has (nodes e) m) _ _ _ _ (within_is e m) (within_all_is es m)

-- what stands at a place of the tree is found there
pub there_is : (arena : List BareNode) (rows : List Row) (p : ℕ) → IsTable arena rows → has (nodes (placed arena)) p ≡ true → executable_at arena rows p ≡ tree.executable_at (placed arena) p
there_is arena rows p t h = t.there p h ∙ within_is (placed arena) p

pub there_once : (arena : List BareNode) (rows : List Row) (p : ℕ) → IsTable arena rows → AreDistinct (nodes (placed arena)) → has (nodes (placed arena)) p ≡ true → AreDistinct (nodes (executable_at arena rows p))
there_once arena rows p t d h = subst (λ (e : Exec). AreDistinct (nodes e)) (sym (there_is arena rows p t h)) (found_distinct (placed arena) p d)

-- the node to which opening leads is one of its own executable
pub entrance_has : (arena : List BareNode) (rows : List Row) (p : ℕ) → IsTable arena rows → IsEntrance arena rows p → has (nodes (executable_at arena rows p)) p ≡ true
entrance_has arena rows p t s =
    let part = table_part arena rows p t s.inside in
    (found_of arena rows (executable_at arena rows p) p part.led (sym part.own.into ∙ s.itself)).inside

-- and of the one from which opening leads there
pub lead_has : (arena : List BareNode) (rows : List Row) (e : Exec) (q : ℕ) → IsTable arena rows → LeadsTo arena rows e (Some q) → has (nodes e) q ≡ true
lead_has arena rows e q t l = go (has (nodes e) q) refl
  where
    own : has (nodes (leads e)) q ≡ true
    own = subst (λ (f : Exec). has (nodes f) q ≡ true) l.2 (entrance_has arena rows q t l.1)

    go : (b : Bool) → has (nodes e) q ≡ b → has (nodes e) q ≡ true
    go true h = h
    go false h = absurd (clash (has (nodes (leads e)) q) own (leads_within e q h))

-- it doesn't lie before that
pub lead_later : (arena : List BareNode) (rows : List Row) (to levels p q : ℕ) → IsTable arena rows → IsClosed arena 0 to → ((r : ℕ) (node : BareNode) → slice_get arena r ≡ Some node → r < to) → LeadsTo arena rows (placed_down arena levels p) (Some q) → p ≤ q
lead_later arena rows to levels p q t closed bound l = later_nodes arena to levels p q closed bound (lead_has arena rows (placed_down arena levels p) q t l)
