-- The workingsteps of a tree.
use Rattle.std.proofs.Common.{◌≡◌, ℕ, Bool, true, false, ◌==◌, List, [], ◌∷◌, Option, Some, None, refl}
use Rattle.std.specs.List.{list_all, filter}
use Rattle.entity_types.specs.declared.class.Class.{Class}
use Rattle.entity_types.specs.declared.class.Class.TheVariants.{MachiningWorkingstep}
use Rattle.entity_types.specs.declared.entity.Entity.{Entity}
use Rattle.entity_types.specs.Class.{code_of}
use Rattle.step_def.specs.Condition.{is_workingstep}
use Rattle.exec_tree.specs.Executable.{kind_of, kind_at}
use Rattle.exec_tree.specs.Built.{is_work, steps_of}

no_way : false ≡ true → ⊥
no_way e = absurd (cc)

work_class : (class : Class) → is_work (kind_of class) ≡ true → (code_of class == code_of MachiningWorkingstep) ≡ true
work_class MachiningWorkingstep h = refl
work_class _ h = absurd (no_way h)

work_found : (found : Option Entity) (entities : ℕ → Option Entity) (n : ℕ) → entities n ≡ found → is_work (kind_at found) ≡ true → is_workingstep entities n ≡ true
work_found None entities n is h = absurd (no_way h)
work_found (Some entity) entities n is h = rw is (work_class entity.class h)

-- a node that is a workingstep in the tree is one by its class
work_is_step : (entities : ℕ → Option Entity) (n : ℕ) → is_work (kind_at (entities n)) ≡ true → is_workingstep entities n ≡ true
work_is_step entities n h = work_found (entities n) entities n refl h

filtered : (p q : ℕ → Bool) → ((n : ℕ) → q n ≡ true → p n ≡ true) → (ns : List ℕ) → list_all p (filter q ns) ≡ true
filtered p q passes [] = refl
filtered p q passes (n ∷ ns) = by (q n) refl (filtered p q passes ns)
  where
    by : (b : Bool) → q n ≡ b → list_all p (filter q ns) ≡ true → list_all p (filter q (n ∷ ns)) ≡ true
    by true is rest = rw is (rw (passes n is) rest)
    by false is rest = rw is rest

pub steps_are_workingsteps : (entities : ℕ → Option Entity) (main : ℕ) → list_all (is_workingstep entities) (steps_of entities main) ≡ true
steps_are_workingsteps entities main = filtered (is_workingstep entities) (λ n. is_work (kind_at (entities n))) (work_is_step entities) _
