-- Worked rows: verdicts on edits of a small store.
use Rattle.std.specs.Prelude.{◌≡◌, ℕ, pos, List, [], ◌∷◌, Some}
use Rattle.std.proofs.Common.{refl}
use Rattle.nc_base.specs.declared.verdict.Verdict.TheVariants.{Accepted, Refused}
use Rattle.entity_types.specs.declared.class.Class.TheVariants.{Project, Workplan, MachiningWorkingstep, Note, RoundHole, Drilling, CartesianPoint}
use Rattle.entity_types.specs.declared.field.Field.TheVariants.{Absent, Ref, Refs, Values}
use Rattle.entity_types.specs.declared.entity.Entity.{Entity}
use Rattle.step_def.specs.DefOf.{def_of}
use Rattle.step_def.specs.Numbers.{numbers_at}
use Rattle.step_def.specs.Lookup.{lookup_of, plane_at, class_at}
use Rattle.edit_rules.specs.Judge.{judge, j5}

-- ---- entities

abbrev step : ℕ → ℕ → Entity
step n operation = record { number = n; class = MachiningWorkingstep; fields = Absent ∷ Ref 6 ∷ Ref operation ∷ []; fit = refl }

abbrev note : ℕ → Entity
note n = record { number = n; class = Note; fields = []; fit = refl }

abbrev point : ℕ → Entity
point n = record { number = n; class = CartesianPoint; fields = Values 1 (pos 0) (pos 0) (pos 0) ∷ []; fit = refl }

abbrev hole : ℕ → Entity
hole n = record { number = n; class = RoundHole; fields = Absent ∷ Absent ∷ Absent ∷ []; fit = refl }

abbrev drilling : ℕ → ℕ → Entity
drilling n tool = record { number = n; class = Drilling; fields = Absent ∷ Absent ∷ Ref tool ∷ Absent ∷ Absent ∷ []; fit = refl }

-- a project of the workingsteps 3 and 4 with one hole and faulty definitions, each with a drilling of its own, and both with the point 9 for a tool
abbrev holes : List Entity
holes =
    record { number = 1; class = Project; fields = Ref 2 ∷ []; fit = refl }
    ∷ record { number = 2; class = Workplan; fields = Refs (3 ∷ 4 ∷ 5 ∷ []) ∷ Absent ∷ []; fit = refl }
    ∷ step 3 7 ∷ step 4 8 ∷ note 5 ∷ hole 6 ∷ drilling 7 9 ∷ drilling 8 9 ∷ point 9 ∷ []

abbrev steps : List ℕ
steps = 3 ∷ 4 ∷ []

-- ---- what may be put

-- something new that no step reaches
accepted : judge holes steps (3 ∷ []) (point 20 ∷ []) ≡ Accepted
accepted = refl

-- a message is never put again, and a new one never added; nor is a new workingstep
of_the_program : judge holes steps [] (point 20 ∷ note 5 ∷ note 30 ∷ []) ≡ Refused 1 5 12
of_the_program = refl

new_step : judge holes steps [] (step 30 7 ∷ []) ≡ Refused 1 30 11
new_step = refl

-- the class of what is put is that of what it replaces, and the old one is told
other_class : judge holes steps [] (point 7 ∷ []) ≡ Refused 1 7 41
other_class = refl

-- the first rule comes before the second, whatever the items' order
first_rule_first : judge holes steps [] (drilling 7 99 ∷ note 5 ∷ []) ≡ Refused 1 5 12
first_rule_first = refl

-- ---- what is referred to

-- a reference names nothing, unless the edit itself brings it
missing : judge holes steps [] (drilling 20 98 ∷ drilling 21 99 ∷ point 98 ∷ []) ≡ Refused 2 21 99
missing = refl

brought : judge holes steps [] (drilling 20 99 ∷ point 99 ∷ []) ≡ Accepted
brought = refl

-- a workingstep's operation is put at its position 4: a point is none
wrong_kind : judge holes steps [] (step 3 9 ∷ []) ≡ Refused 3 3 4
wrong_kind = refl

-- ---- which steps are reached

-- the least step that was dispatched and is reached, through what it shares with others too
dispatched : judge holes steps (4 ∷ []) (drilling 8 9 ∷ []) ≡ Refused 4 4 0
dispatched = refl

shared : judge holes steps (4 ∷ 3 ∷ []) (point 9 ∷ []) ≡ Refused 4 3 0
shared = refl

-- a step that was dispatched and isn't reached refuses nothing: here the other one's definition misses a plane
not_reached : judge holes steps (3 ∷ []) (drilling 8 9 ∷ []) ≡ Refused 5 4 1
unfolding def_of numbers_at lookup_of plane_at class_at
not_reached = refl

-- a step that is new in the tree is judged though nothing is put that it reaches
new_in_the_tree : j5 holes (3 ∷ []) (3 ∷ 4 ∷ []) (point 20 ∷ []) ≡ Some (Refused 5 4 1)
unfolding def_of numbers_at lookup_of plane_at class_at
new_in_the_tree = refl
