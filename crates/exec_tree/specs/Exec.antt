-- The tree of executables (ISO 14649-10, executables): shape and numbers.
use Rattle.std.specs.Prelude.{◌≡◌, ◌<◌, ◌==◌, ℕ, suc, Bool, false, List, [], ◌∷◌, ◌++◌, Option, Some, None}
use Rattle.std.specs.List.{list_any}

-- what an executable without elements does
pub data LeafKind : Type 0 where
  Assigning : LeafKind
  Setting : LeafKind
  Waiting : LeafKind
  Noting : LeafKind

mutual
  -- an executable, with its number and its elements; an if has the branch for yes and the branch for no
  pub data Exec : Type 0 where
    Work : ℕ → Exec
    Leaf : ℕ → LeafKind → Exec
    Plan : Option ℕ → Execs → Exec
    Par : ℕ → Execs → Exec
    NonSeq : ℕ → Execs → Exec
    Sel : ℕ → Execs → Exec
    If : ℕ → Exec → Exec → Exec
    While : ℕ → Exec → Exec

  -- elements in order
  pub data Execs : Type 0 where
    None_left : Execs
    Then : Exec → Execs → Execs

-- the branch that an if leaves out has no number
abbrev pub number_or_none : Option ℕ → List ℕ
number_or_none None = []
number_or_none (Some n) = n ∷ []

-- the numbers of the nodes, in preorder
abbrev mutual
  pub nodes : Exec → List ℕ
  nodes (Work n) = n ∷ []
  nodes (Leaf n k) = n ∷ []
  nodes (Plan n es) = number_or_none n ++ nodes_all es
  nodes (Par n es) = n ∷ nodes_all es
  nodes (NonSeq n es) = n ∷ nodes_all es
  nodes (Sel n es) = n ∷ nodes_all es
  nodes (If n a b) = n ∷ (nodes a ++ nodes b)
  nodes (While n a) = n ∷ nodes a

  pub nodes_all : Execs → List ℕ
  nodes_all None_left = []
  nodes_all (Then e es) = nodes e ++ nodes_all es

-- the workingsteps, in preorder
abbrev mutual
  pub works : Exec → List ℕ
  works (Work n) = n ∷ []
  works (Leaf n k) = []
  works (Plan n es) = works_all es
  works (Par n es) = works_all es
  works (NonSeq n es) = works_all es
  works (Sel n es) = works_all es
  works (If n a b) = works a ++ works b
  works (While n a) = works a

  pub works_all : Execs → List ℕ
  works_all None_left = []
  works_all (Then e es) = works e ++ works_all es

-- how many elements there are
abbrev pub count : Execs → ℕ
count None_left = 0
count (Then e es) = suc (count es)

-- the number is one of these
abbrev pub has : List ℕ → ℕ → Bool
has ms n = list_any (λ m. m == n) ms

-- no number stands twice
abbrev pub AreDistinct : List ℕ → Type 0
AreDistinct [] = Unit {0}
AreDistinct (n ∷ ns) = (has ns n ≡ false) × AreDistinct ns

-- each selective has an element
abbrev mutual
  pub HasChoices : Exec → Type 0
  HasChoices (Work n) = Unit {0}
  HasChoices (Leaf n k) = Unit {0}
  HasChoices (Plan n es) = HasChoicesAll es
  HasChoices (Par n es) = HasChoicesAll es
  HasChoices (NonSeq n es) = HasChoicesAll es
  HasChoices (Sel n es) = (0 < count es) × HasChoicesAll es
  HasChoices (If n a b) = HasChoices a × HasChoices b
  HasChoices (While n a) = HasChoices a

  pub HasChoicesAll : Execs → Type 0
  HasChoicesAll None_left = Unit {0}
  HasChoicesAll (Then e es) = HasChoices e × HasChoicesAll es
