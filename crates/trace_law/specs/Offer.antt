-- What a node can do next in its present turn.
use Rattle.std.specs.Prelude.{◌≡◌, ◌<◌, ℕ, ◌==◌, Bool, true, false, if◌then◌else◌, List, [], Option, Some, None}
use Rattle.exec_tree.specs.Exec.{LeafKind, Exec, Work, Leaf, Plan, Par, NonSeq, Sel, If, While, Execs, None_left, Then, nodes, has, count}
use Rattle.trace_law.specs.Of.{only}
use Rattle.trace_law.specs.Own.{picks, turns}
use Rattle.trace_law.specs.Whole.{IsOfLeaf}
use Rattle.trace_law.specs.Step.{IsNewPick, IsTest}
use Rattle.trace_law.specs.State.{stage}
use Rattle.trace_law.specs.Cells.{Cell, stage_of, picked, last_body}
use Rattle.run_log.specs.declared.entry.Entry.{Entry}
use Rattle.run_log.specs.declared.entry.Entry.TheVariants.{Dispatch, Block, End}

-- what a node does next: a workingstep is dispatched, or cuts its next block or ends after so many; a leaf does what it does; of so
-- many elements, one is picked that isn't among those picked; a test is made
pub data Offer : Type 0 where
  Starts : Offer
  Cuts : ℕ → Offer
  Does : LeafKind → Offer
  Picks : ℕ → List ℕ → Offer
  Tests : Offer
  Nothing : Offer

-- what a workingstep does next, by the blocks that it has where it is open
abbrev pub offer_of_work : Option ℕ → Offer
offer_of_work None = Starts
offer_of_work (Some k) = Cuts k

-- of two branches, what the one with the node offers
abbrev pub offer_of_two : Bool → Bool → Offer → Offer → Offer
offer_of_two true second x y = x
offer_of_two false true x y = y
offer_of_two false false x y = Nothing

-- what node m of e does next, after t
abbrev mutual
  pub offer : Exec → List Entry → ℕ → Offer
  offer (Work n) t m = offer_of_work (stage m t)
  offer (Leaf n k) t m = Does k
  offer (Plan n es) t m = offer_among es t m
  offer (Par n es) t m = offer_among es t m
  offer (NonSeq n es) t m = if n == m then Picks (count es) (picks n t) else offer_among es t m
  offer (Sel n es) t m = if n == m then Picks (count es) [] else offer_among es t m
  offer (If n a b) t m = if n == m then Tests else offer_of_two (has (nodes a) m) (has (nodes b) m) (offer a (only (nodes a) t) m) (offer b (only (nodes b) t) m)
  offer (While n a) t m = if n == m then Tests else offer a (last_body (turns n t)) m

  pub offer_among : Execs → List Entry → ℕ → Offer
  offer_among None_left t m = Nothing
  offer_among (Then e es) t m = if has (nodes e) m then offer e (only (nodes e) t) m else offer_among es t m

-- what node m of e does next, from the cells alone
abbrev mutual
  pub offer_by : (ℕ → Cell) → Exec → ℕ → Offer
  offer_by c (Work n) m = offer_of_work (stage_of (c n))
  offer_by c (Leaf n k) m = Does k
  offer_by c (Plan n es) m = offer_by_among c es m
  offer_by c (Par n es) m = offer_by_among c es m
  offer_by c (NonSeq n es) m = if n == m then Picks (count es) (picked (c n)) else offer_by_among c es m
  offer_by c (Sel n es) m = if n == m then Picks (count es) [] else offer_by_among c es m
  offer_by c (If n a b) m = if n == m then Tests else offer_of_two (has (nodes a) m) (has (nodes b) m) (offer_by c a m) (offer_by c b m)
  offer_by c (While n a) m = if n == m then Tests else offer_by c a m

  pub offer_by_among : (ℕ → Cell) → Execs → ℕ → Offer
  offer_by_among c None_left m = Nothing
  offer_by_among c (Then e es) m = if has (nodes e) m then offer_by c e m else offer_by_among c es m

-- the entry is one of what node n does next
abbrev pub IsOffered : Offer → ℕ → Entry → Type 0
IsOffered Starts n (Dispatch m v) = m ≡ n
IsOffered (Cuts k) n (Block m j b) = (m ≡ n) × (j ≡ k)
IsOffered (Cuts k) n (End m) = m ≡ n
IsOffered (Does k) n x = IsOfLeaf k n x
IsOffered (Picks count ks) n x = IsNewPick n count ks x
IsOffered Tests n x = IsTest n x
IsOffered _ n x = ⊥

-- there is something that the node can do: of elements one is left to be picked
abbrev pub IsOpen : Offer → Type 0
IsOpen (Picks count ks) = (k : ℕ) × (k < count) × (has ks k ≡ false)
IsOpen Nothing = ⊥
IsOpen _ = Unit {0}
