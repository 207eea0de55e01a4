-- A set of workingsteps, and the workingsteps of a tree in order of number.
use Rattle.std.specs.Prelude.{◌≡◌, ◌↔◌, ◌⊎◌, ℕ, Bool, true, false, List, [], ◌∷◌, Contains}
use Rattle.std.specs.List.Sorted.{IsStrictlyIncreasing}

-- what contracts see of a set of workingsteps: those that it has room for, and those that are in it
pub record SomeSteps : Type 0 where
  pub steps : List ℕ
  pub members : List ℕ

-- the set with one step more
pub record Adds (old new : SomeSteps) (step : ℕ) : Type 0 where
  pub steps : new.steps ≡ old.steps
  pub members : (n : ℕ) → Contains new.members n ↔ (n ≡ step) ⊎ Contains old.members n

-- the numbers of a list in order, each once
pub record IsOrderOf (steps order : List ℕ) : Type 0 where
  pub rising : IsStrictlyIncreasing order
  pub members : (n : ℕ) → Contains order n ↔ Contains steps n

-- steps as they were given, and in order of number, each once
pub record Ordered : Type 0 where
  pub steps : List ℕ
  pub order : List ℕ

-- those of these numbers that are marked
abbrev pub marked : List ℕ → List Bool → List ℕ
marked [] marks = []
marked (n ∷ ns) [] = []
marked (n ∷ ns) (true ∷ marks) = n ∷ marked ns marks
marked (n ∷ ns) (false ∷ marks) = marked ns marks
