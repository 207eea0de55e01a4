-- Trees whose nodes are of given kinds.
use Rattle.std.specs.Prelude.{◌≡◌, ◌⊎◌, ℕ}
use Rattle.exec_tree.specs.Exec.{LeafKind, Assigning, Setting, Waiting, Noting, Exec, Work, Leaf, Plan, Par, NonSeq, Sel, If, While, Execs, None_left, Then}
use Rattle.exec_tree.specs.declared.kind.Kind.{Kind}
use Rattle.exec_tree.specs.declared.kind.Kind.TheVariants as kinds
use Rattle.trace_law.specs.Offer.{Offer, Starts, Cuts, Does, Picks, Tests, Nothing}

-- the kind of a leaf
abbrev pub kind_of_leaf : LeafKind → Kind
kind_of_leaf Assigning = kinds.Assign
kind_of_leaf Setting = kinds.Set
kind_of_leaf Waiting = kinds.Wait
kind_of_leaf Noting = kinds.Note

-- each workingstep, leaf, if and while of the tree is of the kind that its number has
abbrev mutual
  pub AgreesWith : (ℕ → Kind) → Exec → Type 0
  AgreesWith k (Work n) = k n ≡ kinds.Work
  AgreesWith k (Leaf n l) = k n ≡ kind_of_leaf l
  AgreesWith k (Plan n es) = AllAgree k es
  AgreesWith k (Par n es) = AllAgree k es
  AgreesWith k (NonSeq n es) = AllAgree k es
  AgreesWith k (Sel n es) = AllAgree k es
  AgreesWith k (If n a b) = (k n ≡ kinds.If) × AgreesWith k a × AgreesWith k b
  AgreesWith k (While n a) = (k n ≡ kinds.While) × AgreesWith k a

  pub AllAgree : (ℕ → Kind) → Execs → Type 0
  AllAgree k None_left = Unit {0}
  AllAgree k (Then e es) = AgreesWith k e × AllAgree k es

-- a node of the kind can do this
abbrev pub IsDoneBy : Offer → Kind → Type 0
IsDoneBy Starts k = k ≡ kinds.Work
IsDoneBy (Cuts j) k = k ≡ kinds.Work
IsDoneBy (Does l) k = k ≡ kind_of_leaf l
IsDoneBy (Picks count ks) k = Unit {0}
IsDoneBy Tests k = (k ≡ kinds.If) ⊎ (k ≡ kinds.While)
IsDoneBy Nothing k = Unit {0}
