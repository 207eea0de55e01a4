-- The way on from a node of the tree, as the table tells it and as the laws of frames have it.
use Rattle.std.specs.Prelude.{◌≡◌, ◌<◌, ◌==◌, ◌||◌, if◌then◌else◌, ℕ, zero, suc, Bool, true, false, List, [], ◌∷◌, map, length, slice_get, Option, Some, None}
use Rattle.std.proofs.Common.{refl, sym, ◌∙◌, ap, subst}
use Rattle.std.proofs.lemmas.Option.{slice_get_within}
use Rattle.exec_tree.specs.Exec.{Exec, Work, Leaf, Plan, Par, NonSeq, Sel, If, While, Execs, None_left, Then, nodes, has, number_or_none, count, AreDistinct}
use Rattle.exec_tree.specs.Arena.{to_execs, of_kind, first_of, second_of}
use Rattle.exec_tree.specs.declared.limits.TheConstants.{MAX_TREE_NESTING}
use Rattle.exec_tree.specs.declared.kind.Kind.{Kind}
use Rattle.exec_tree.specs.declared.kind.Kind.TheVariants as kind
use Rattle.exec_tree.specs.declared.node.BareNode.{BareNode}
use Rattle.trace_law.specs.Next.{first_of_two, next, next_in_order}
use Rattle.trace_law.specs.Cells.{Cell}
use Rattle.trace_law.specs.Frames.{is_shared}
use Rattle.trace_law.specs.Leading.{has_none, leads, leads_first}
use Rattle.frame_law.specs.Executable as tree
use Rattle.frame_law.specs.Onward.{Onward, Done, PicksOn, TestsAgain, opened_or, joined_or, onward, onward_in_order, onward_among}
use Rattle.frame_law.specs.Way.{along, AreUnpicked, AreUnpickedAll}
use Rattle.frame_law.proofs.AlongLemmas.{way_is_apart}
use Rattle.frame_law.proofs.ReachLemmas.{unpicked_elements}
use Rattle.tree_table.specs.Onward as led
use Rattle.tree_table.specs.Placed.{place_for, placed_node, placed, placed_down}
use Rattle.tree_table.specs.Rows.{after_at}
use Rattle.tree_table.specs.Table.{Tells, IsTable}
use Rattle.tree_table.specs.declared.row.Row.{Row}
use Rattle.run_frames.specs.Ways.{as_led, IsNoPick, IsWithin, IsWay}
use Rattle.run_frames.proofs.WriteLemmas.{once_right}

-- ---- the same way

opened_as : List ℕ → Exec → led.Onward → led.Onward
opened_as [] f k = k
opened_as (n ∷ l) f k = led.Opens f

order_opens : (es : Execs) (itself : Exec) (k : led.Onward) → opened_as (next_in_order es []) (leads_first es itself) k ≡ led.opens_first es k
unfolding opened_as
order_opens None_left itself k = refl
order_opens (Then e es) itself k = go (next e []) (order_opens es itself k)
  where
    go : (l : List ℕ) → opened_as (next_in_order es []) (leads_first es itself) k ≡ led.opens_first es k
        → opened_as (first_of_two l (next_in_order es [])) (if has_none l then leads_first es itself else leads e) k ≡ (if has_none l then led.opens_first es k else led.Opens (leads e))
    go [] rec = rec
    go (n ∷ l) rec = refl

opened_led : (es : Execs) (k : Onward) → as_led (opened_or (next_in_order es []) es k) ≡ led.opens_first es (as_led k)
unfolding opened_as
opened_led es k = go (next_in_order es []) ∙ order_opens es (Plan None es) (as_led k)
  where
    go : (l : List ℕ) → as_led (opened_or l es k) ≡ opened_as l (leads_first es (Plan None es)) (as_led k)
    go [] = refl
    go (n ∷ l) = refl

joined_led : (b : Bool) (n : ℕ) (k : Onward) → as_led (joined_or b n k) ≡ led.joins_where b n (as_led k)
joined_led true n k = refl
joined_led false n k = refl

if_led : (b : Bool) (j k : Onward) (j' k' : led.Onward) → as_led j ≡ j' → as_led k ≡ k' → as_led (if b then j else k) ≡ (if b then j' else k')
if_led true j k j' k' h i = h
if_led false j k j' k' h i = i

own_led : (b : Bool) (j k : Onward) (k' : led.Onward) → as_led k ≡ k' → as_led (if b || false then j else k) ≡ (if b then as_led j else k')
own_led true j k k' h = refl
own_led false j k k' h = h

mutual
  pub led_is : (e : Exec) (k : Onward) (m : ℕ) → as_led (onward e k m) ≡ led.onward e (as_led k) m
  led_is (Work n) k m = refl
  led_is (Leaf n l) k m = refl
  led_is (Plan None es) k m = led_in_order es k m
  led_is (Plan (Some n) es) k m = own_led (n == m) k (onward_in_order es k m) _ (led_in_order es k m)
  led_is (Par n es) k m =
      if_led (n == m) k _ (as_led k) _ refl (led_among es (joined_or (is_shared es) n k) m ∙ ap (λ (j : led.Onward). led.onward_among es j m) (joined_led (is_shared es) n k))
  led_is (NonSeq n es) k m = if_led (n == m) k _ (as_led k) _ refl (led_among es (PicksOn n (count es) k) m)
  led_is (Sel n es) k m = if_led (n == m) k _ (as_led k) _ refl (led_among es k m)
  led_is (If n a b) k m = if_led (n == m) k _ (as_led k) _ refl (if_led (has (nodes a) m) _ _ _ _ (led_is a k m) (led_is b k m))
  led_is (While n a) k m = if_led (n == m) k _ (as_led k) _ refl (led_is a (TestsAgain n) m)

  led_in_order : (es : Execs) (k : Onward) (m : ℕ) → as_led (onward_in_order es k m) ≡ led.onward_in_order es (as_led k) m
  led_in_order None_left k m = refl
  led_in_order (Then e es) k m =
      if_led (has (nodes e) m) _ _ _ _ (led_is e (opened_or (next_in_order es []) es k) m ∙ ap (λ (j : led.Onward). led.onward e j m) (opened_led es k)) (led_in_order es k m)

  led_among : (es : Execs) (k : Onward) (m : ℕ) → as_led (onward_among es k m) ≡ led.onward_among es (as_led k) m
  led_among None_left k m = refl
  led_among (Then e es) k m = if_led (has (nodes e) m) _ _ _ _ (led_is e k m) (led_among es k m)

-- ---- the nodes of the tree are of the arena

-- those that may join, pick on or test again
abbrev mutual
  pub IsPlanted : List BareNode → Exec → Type 0
  IsPlanted arena (Work n) = Unit {0}
  IsPlanted arena (Leaf n k) = Unit {0}
  IsPlanted arena (Plan n es) = ArePlanted arena es
  IsPlanted arena (Par n es) = (n < length arena) × IsNoPick arena n × ArePlanted arena es
  IsPlanted arena (NonSeq n es) = (n < length arena) × ArePlanted arena es
  IsPlanted arena (Sel n es) = ArePlanted arena es
  IsPlanted arena (If n a b) = IsPlanted arena a × IsPlanted arena b
  IsPlanted arena (While n a) = (n < length arena) × IsPlanted arena a

  pub ArePlanted : List BareNode → Execs → Type 0
  ArePlanted arena None_left = Unit {0}
  ArePlanted arena (Then e es) = IsPlanted arena e × ArePlanted arena es

first_planted : (arena : List BareNode) (es : List Exec) → ArePlanted arena (to_execs es) → IsPlanted arena (first_of es)
first_planted arena [] u = tt
first_planted arena (e ∷ es) u = u.0

second_planted : (arena : List BareNode) (es : List Exec) → ArePlanted arena (to_execs es) → IsPlanted arena (second_of es)
second_planted arena [] u = tt
second_planted arena (e ∷ es) u = first_planted arena es u.1

kind_planted : (arena : List BareNode) (k : Kind) (n : Option ℕ) (p : ℕ) (es : List Exec) → p < length arena → ((k ≡ kind.NonSeq → ⊥) → IsNoPick arena p) → ArePlanted arena (to_execs es) → IsPlanted arena (of_kind k (place_for k n p) es)
kind_planted arena kind.Plan n p es l own u = u
kind_planted arena kind.Par n p es l own u = (l, own (λ e. (let w : kind.Par ≡ kind.NonSeq = e in cc)), u)
kind_planted arena kind.NonSeq n p es l own u = (l, u)
kind_planted arena kind.Sel n p es l own u = u
kind_planted arena kind.If n p es l own u = (first_planted arena es u, second_planted arena es u)
kind_planted arena kind.While n p es l own u = (l, first_planted arena es u)
kind_planted arena kind.Work n p es l own u = tt
kind_planted arena kind.Assign n p es l own u = tt
kind_planted arena kind.Set n p es l own u = tt
kind_planted arena kind.Wait n p es l own u = tt
kind_planted arena kind.Note n p es l own u = tt

all_planted : (arena : List BareNode) (f : ℕ → Exec) (ps : List ℕ) → ((r : ℕ) → IsPlanted arena (f r)) → ArePlanted arena (to_execs (map f ps))
all_planted arena f [] h = tt
all_planted arena f (p ∷ ps) h = (h p, all_planted arena f ps h)

same_node : (a b : BareNode) → Some a ≡ Some b → a ≡ b
same_node a b e = cc

planted_down : (arena : List BareNode) (levels p : ℕ) → IsPlanted arena (placed_down arena levels p)
unfolding placed_down
planted_down arena zero p = tt
planted_down arena (suc levels) p = go (slice_get arena p) refl (λ r. planted_down arena levels r)
  where
    go : (o : Option BareNode) → slice_get arena p ≡ o → ((r : ℕ) → IsPlanted arena (placed_down arena levels r)) → IsPlanted arena (placed_node p o (λ r. placed_down arena levels r))
    go None e rec = tt
    go (Some node) e rec =
        kind_planted arena node.kind node.number p (map (λ r. placed_down arena levels r) node.elements) (slice_get_within arena p node e)
        (λ own other there k. own (ap (λ (w : BareNode). w.kind) (same_node node other (sym e ∙ there)) ∙ k)) (all_planted arena (λ r. placed_down arena levels r) node.elements rec)

-- ---- so the way leads through nodes of the arena, and opens elements of the tree

abbrev IsOfTree : List BareNode → Exec → Type 0
IsOfTree arena e = (c : ℕ → Cell) → AreUnpicked c (placed arena) → AreUnpicked c e

abbrev AreOfTree : List BareNode → Execs → Type 0
AreOfTree arena es = (c : ℕ → Cell) → AreUnpicked c (placed arena) → AreUnpickedAll c es

if_within : (arena : List BareNode) (b : Bool) (j k : Onward) → IsWithin arena j → IsWithin arena k → IsWithin arena (if b then j else k)
if_within arena true j k h i = h
if_within arena false j k h i = i

opened_within : (arena : List BareNode) (l : List ℕ) (es : Execs) (k : Onward) → AreOfTree arena es → IsWithin arena k → IsWithin arena (opened_or l es k)
opened_within arena [] es k u w = w
opened_within arena (n ∷ l) es k u w = u

joined_within : (arena : List BareNode) (b : Bool) (n : ℕ) (k : Onward) → n < length arena → IsNoPick arena n → IsWithin arena k → IsWithin arena (joined_or b n k)
joined_within arena true n k l own w = (l, own, w)
joined_within arena false n k l own w = w

mutual
  onward_within : (arena : List BareNode) (e : Exec) (k : Onward) (m : ℕ) → IsPlanted arena e → IsOfTree arena e → IsWithin arena k → IsWithin arena (onward e k m)
  onward_within arena (Work n) k m p u w = w
  onward_within arena (Leaf n l) k m p u w = w
  onward_within arena (Plan n es) k m p u w = if_within arena (has (number_or_none n) m) _ _ w (in_order_within arena es k m p u w)
  onward_within arena (Par n es) k m p u w = if_within arena (n == m) _ _ w (among_within arena es _ m p.2 u (joined_within arena (is_shared es) n k p.0 p.1 w))
  onward_within arena (NonSeq n es) k m p u w = if_within arena (n == m) _ _ w (among_within arena es _ m p.1 (λ c v. unpicked_elements c n es (u c v)) (p.0, w))
  onward_within arena (Sel n es) k m p u w = if_within arena (n == m) _ _ w (among_within arena es k m p u w)
  onward_within arena (If n a b) k m p u w =
      if_within arena (n == m) _ _ w (if_within arena (has (nodes a) m) _ _ (onward_within arena a k m p.0 (λ c v. (u c v).0) w) (onward_within arena b k m p.1 (λ c v. (u c v).1) w))
  onward_within arena (While n a) k m p u w = if_within arena (n == m) _ _ w (onward_within arena a (TestsAgain n) m p.1 u p.0)

  in_order_within : (arena : List BareNode) (es : Execs) (k : Onward) (m : ℕ) → ArePlanted arena es → AreOfTree arena es → IsWithin arena k → IsWithin arena (onward_in_order es k m)
  in_order_within arena None_left k m p u w = tt
  in_order_within arena (Then e es) k m p u w =
      if_within arena (has (nodes e) m) _ _ (onward_within arena e _ m p.0 (λ c v. (u c v).0) (opened_within arena (next_in_order es []) es k (λ c v. (u c v).1) w))
      (in_order_within arena es k m p.1 (λ c v. (u c v).1) w)

  among_within : (arena : List BareNode) (es : Execs) (k : Onward) (m : ℕ) → ArePlanted arena es → AreOfTree arena es → IsWithin arena k → IsWithin arena (onward_among es k m)
  among_within arena None_left k m p u w = tt
  among_within arena (Then e es) k m p u w =
      if_within arena (has (nodes e) m) _ _ (onward_within arena e k m p.0 (λ c v. (u c v).0) w) (among_within arena es k m p.1 (λ c v. (u c v).1) w)

-- a node's row tells the way on from it
pub way_at : (arena : List BareNode) (rows : List Row) (p : ℕ) → IsTable arena rows → AreDistinct (nodes (placed arena)) → has (nodes (placed arena)) p ≡ true → IsWay arena rows (after_at rows p) (onward (placed arena) Done p)
way_at arena rows p t d h = record {
  told = subst (λ (k : led.Onward). Tells arena rows (after_at rows p) k) (sym (led_is (placed arena) Done p)) (t.after p h);
  distinct = once_right (nodes (tree.executable_at (placed arena) p)) (along (onward (placed arena) Done p)) (way_is_apart (placed arena) p d);
  within = onward_within arena (placed arena) Done p (planted_down arena MAX_TREE_NESTING 0) (λ c v. v) tt;
}
