-- What Versions keep.
use Rattle.std.specs.Prelude.{◌≡◌, ◌+◌, ℕ, List, length, Contains}
use Rattle.entity_types.specs.declared.entity.Entity.{Entity}
use Rattle.project_store.specs.Inserts.{is_among}
use Rattle.project_versions.specs.declared.users.Users.{Users}
use Rattle.project_versions.specs.Users.{rows_of, IsUserIndex, HasRows}
use Rattle.project_versions.specs.StepSet.{Ordered, IsOrderOf}
use Rattle.project_versions.specs.Versions.{one_where}
use Rattle.project_versions.specs.Versioned.{counted, version_of}

-- the index is that of the store and has rows for the instances that there is room for, and each step has a version
pub record IsKept (store : List Entity) (users : Users) (ordered : Ordered) (versions : List ℕ) (spare : ℕ) : Type 0 where
  pub index : IsUserIndex store (rows_of users)
  pub rows : HasRows (length store + spare) (rows_of users)
  pub is_order : IsOrderOf ordered.steps ordered.order
  pub counts : length versions ≡ length ordered.order

-- the versions of these steps are one higher
pub record Raises (order old new steps : List ℕ) : Type 0 where
  pub len : length new ≡ length old
  pub versions : (n : ℕ) → Contains order n → version_of (counted order new) n ≡ version_of (counted order old) n + one_where (is_among steps n)
