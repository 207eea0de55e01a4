-- Numbers put into a set that keeps the order in which they came.
use Rattle.std.specs.Prelude.{◌≡◌, ℕ, Bool, nat_eq, if◌then◌else◌, List, [], ◌∷◌, ◌++◌, Option}
use Rattle.std.specs.Option.{option_map_or}
use Rattle.std.specs.List.{list_any}
use Rattle.std.specs.Ordering.{nat_cmp}
use Rattle.std.specs.BTreeSet.{BTreeSet, contains}
use Rattle.entity_types.specs.declared.entity.Entity.{Entity}
use Rattle.entity_types.specs.Entity.{uses_of}

-- the number is one of these
abbrev pub is_among : List ℕ → ℕ → Bool
is_among numbers number = list_any (nat_eq number) numbers

-- the number put, where it is not there already
abbrev pub insert_number : List ℕ → ℕ → List ℕ
insert_number numbers number = if is_among numbers number then numbers else numbers ++ number ∷ []

-- each in turn
abbrev pub insert_all : List ℕ → List ℕ → List ℕ
insert_all set [] = set
insert_all set (number ∷ numbers) = insert_all (insert_number set number) numbers

-- the members of the set are these numbers
abbrev pub AreMembers : List ℕ → BTreeSet ℕ → Type 0
AreMembers numbers set = (m : ℕ) → contains nat_cmp set m ≡ is_among numbers m

-- what the entity of a number uses, nothing where there is none
abbrev pub uses_at : (ℕ → Option Entity) → ℕ → List ℕ
uses_at entities number = option_map_or uses_of (entities number) []
