-- Worked rows: the runs of small projects.
use Rattle.std.specs.Prelude.{◌≡◌, ℕ, pos, true, false, List, [], ◌∷◌, ◌++◌, map}
use Rattle.std.specs.List.{list_all}
use Rattle.std.proofs.Common.{refl}
use Rattle.entity_types.specs.declared.class.Class.TheVariants.{Project, Workplan, Parallel, NonSequential, Selective, WhileStatement, Assignment, SetMark, WaitForMark, Note, Channel, ComparisonLess, NcVariable, NcSum, MachiningWorkingstep, RoundHole, Drilling, CartesianPoint}
use Rattle.entity_types.specs.declared.field.Field.TheVariants.{Absent, Ref, Refs, Value, Values}
use Rattle.entity_types.specs.declared.entity.Entity.{Entity}
use Rattle.exec_tree.specs.Walk.{visits_from}
use Rattle.exec_tree.specs.TreeOf.{tree_from}
use Rattle.exec_tree.specs.Terms.{term_from, test_from}
use Rattle.run_log.specs.declared.entry.Entry.TheVariants as entries
use Rattle.run_law.specs.Fits.{next_of}
use Rattle.run_law.specs.Endings.{waits}
use Rattle.run_law.specs.Replay.{replay}
use Rattle.nc_base.specs.declared.verdict.Verdict.TheVariants.{Accepted, Refused}
use Rattle.step_def.specs.DefOf.{def_of}
use Rattle.step_def.specs.Numbers.{numbers_at}
use Rattle.step_def.specs.Lookup.{lookup_of, plane_at, class_at}
use Rattle.project_law.specs.Script.{Edit, store_after}
use Rattle.project_law.specs.ProjectRules.{rules_of, version_after}

-- ---- entities

-- a project whose main workplan is 2
abbrev project : List Entity → List Entity
project others = record { number = 1; class = Project; fields = Ref 2 ∷ []; fit = refl } ∷ others

abbrev plan : ℕ → List ℕ → Entity
plan n elements = record { number = n; class = Workplan; fields = Refs elements ∷ Absent ∷ []; fit = refl }

abbrev plan_on : ℕ → List ℕ → ℕ → Entity
plan_on n elements channel = record { number = n; class = Workplan; fields = Refs elements ∷ Ref channel ∷ []; fit = refl }

abbrev wait : ℕ → ℕ → Entity
wait n mark = record { number = n; class = WaitForMark; fields = Ref mark ∷ []; fit = refl }

abbrev mark : ℕ → Entity
mark n = record { number = n; class = SetMark; fields = []; fit = refl }

abbrev note : ℕ → Entity
note n = record { number = n; class = Note; fields = []; fit = refl }

abbrev channel : ℕ → Entity
channel n = record { number = n; class = Channel; fields = []; fit = refl }

-- a point at 0, and a drilling without anything, or at this point
abbrev point : ℕ → Entity
point n = record { number = n; class = CartesianPoint; fields = Values 1 (pos 0) (pos 0) (pos 0) ∷ []; fit = refl }

abbrev drilling : ℕ → Entity
drilling n = record { number = n; class = Drilling; fields = Absent ∷ Absent ∷ Absent ∷ Absent ∷ Absent ∷ []; fit = refl }

abbrev drilling_at : ℕ → ℕ → Entity
drilling_at n tool = record { number = n; class = Drilling; fields = Absent ∷ Absent ∷ Ref tool ∷ Absent ∷ Absent ∷ []; fit = refl }

-- ---- a loop

-- a variable that opens at 0, and a while that adds 1 to it as long as it is below 3
abbrev counting : List Entity
counting =
    project (plan 2 (3 ∷ [])
    ∷ record { number = 3; class = WhileStatement; fields = Ref 4 ∷ Ref 6 ∷ []; fit = refl }
    ∷ record { number = 4; class = ComparisonLess; fields = Ref 5 ∷ Value (pos 3000) ∷ []; fit = refl }
    ∷ record { number = 5; class = NcVariable; fields = Absent ∷ []; fit = refl }
    ∷ record { number = 6; class = Assignment; fields = Ref 5 ∷ Ref 7 ∷ []; fit = refl }
    ∷ record { number = 7; class = NcSum; fields = Ref 5 ∷ Value (pos 1000) ∷ []; fit = refl }
    ∷ [])

-- the condition is tested by the variable's value then, and not by its opening value
counted : replay (rules_of counting []) (0 ∷ []) [] 12
    ≡ entries.Test 3 true ∷ entries.Assign 6 (pos 1000) ∷ entries.Test 3 true ∷ entries.Assign 6 (pos 2000) ∷ entries.Test 3 true ∷ entries.Assign 6 (pos 3000) ∷ entries.Test 3 false ∷ []
unfolding visits_from tree_from term_from test_from
counted = refl

-- with the limit 5 it ends there
cut_off : replay (rules_of counting []) (0 ∷ []) [] 5 ≡ entries.Test 3 true ∷ entries.Assign 6 (pos 1000) ∷ entries.Test 3 true ∷ entries.Assign 6 (pos 2000) ∷ entries.Test 3 true ∷ []
unfolding visits_from tree_from term_from test_from
cut_off = refl

-- ---- two channels

-- branch 4 waits for the mark that branch 5 sets: the first two turns give nothing
meeting : replay (rules_of (project (plan 2 (3 ∷ []) ∷ record { number = 3; class = Parallel; fields = Refs (4 ∷ 5 ∷ []) ∷ []; fit = refl } ∷ plan_on 4 (6 ∷ []) 8 ∷ plan_on 5 (7 ∷ []) 9 ∷ wait 6 7 ∷ mark 7 ∷ channel 8 ∷ channel 9 ∷ [])) [])
    (0 ∷ 1 ∷ []) (0 ∷ 0 ∷ 1 ∷ 1 ∷ []) 12 ≡ entries.Set 7 ∷ entries.Pass 6 ∷ []
unfolding visits_from tree_from term_from test_from
meeting = refl

-- each of two branches waits for what the other sets behind its wait
abbrev knot : List ℕ → List Entity → List Entity
knot branches more =
    project (plan 2 (3 ∷ []) ∷ record { number = 3; class = Parallel; fields = Refs (4 ∷ 5 ∷ branches) ∷ []; fit = refl } ∷ plan_on 4 (6 ∷ 13 ∷ []) 8 ∷ plan_on 5 (7 ∷ 11 ∷ []) 9 ∷ wait 6 11 ∷ wait 7 13 ∷ mark 11 ∷ mark 13 ∷ channel 8 ∷ channel 9 ∷ more)

never : replay (rules_of (knot [] []) []) (0 ∷ 1 ∷ []) [] 12 ≡ []
unfolding visits_from tree_from term_from test_from
never = refl

both_wait : list_all (waits (rules_of (knot [] []) []) []) (next_of (rules_of (knot [] []) []) []) ≡ true
unfolding visits_from tree_from term_from test_from
both_wait = refl

-- the note of a third branch comes all the same
third_alone : replay (rules_of (knot (14 ∷ []) (plan_on 14 (15 ∷ []) 16 ∷ note 15 ∷ channel 16 ∷ [])) []) (0 ∷ 1 ∷ 2 ∷ []) [] 12 ≡ entries.Note 15 ∷ []
unfolding visits_from tree_from term_from test_from
third_alone = refl

-- ---- choices

-- a non-sequential picks each in turn
in_turn : replay (rules_of (project (plan 2 (3 ∷ []) ∷ record { number = 3; class = NonSequential; fields = Refs (4 ∷ 5 ∷ 6 ∷ []) ∷ []; fit = refl } ∷ note 4 ∷ note 5 ∷ note 6 ∷ [])) []) (0 ∷ []) [] 12
    ≡ entries.Pick 3 0 ∷ entries.Note 4 ∷ entries.Pick 3 1 ∷ entries.Note 5 ∷ entries.Pick 3 2 ∷ entries.Note 6 ∷ []
unfolding visits_from tree_from term_from test_from
in_turn = refl

-- a selective one alone
one_alone : replay (rules_of (project (plan 2 (3 ∷ []) ∷ record { number = 3; class = Selective; fields = Refs (4 ∷ 5 ∷ 6 ∷ []) ∷ []; fit = refl } ∷ note 4 ∷ note 5 ∷ note 6 ∷ [])) []) (0 ∷ []) [] 12
    ≡ entries.Pick 3 0 ∷ entries.Note 4 ∷ []
unfolding visits_from tree_from term_from test_from
one_alone = refl

-- ---- edits

-- a project whose main workplan has a message, a workingstep with the faulty definition of a hole that has nothing, and another message
abbrev drilled : List Entity
drilled =
    project (plan 2 (3 ∷ 4 ∷ 5 ∷ [])
    ∷ note 3
    ∷ record { number = 4; class = MachiningWorkingstep; fields = Absent ∷ Ref 6 ∷ Ref 7 ∷ []; fit = refl }
    ∷ note 5
    ∷ record { number = 6; class = RoundHole; fields = Absent ∷ Absent ∷ Absent ∷ []; fit = refl }
    ∷ drilling 7
    ∷ [])

-- an edit that is due from so many entries on
abbrev edit : ℕ → List Entity → Edit
edit at items = record { at = at; items = items }

-- an edit of a new point, which no workingstep reaches, is accepted as soon as it is due
point_put : replay (rules_of drilled (edit 1 (point 20 ∷ []) ∷ [])) (0 ∷ []) [] 12
    ≡ entries.Note 3 ∷ entries.Edit 0 Accepted ∷ entries.Dispatch 4 0 ∷ entries.End 4 ∷ entries.Note 5 ∷ []
unfolding visits_from tree_from term_from test_from def_of numbers_at lookup_of plane_at class_at
point_put = refl

-- one of the drilling of a workingstep that was dispatched is refused by the fourth rule, and one before it by the fifth, since the definition
-- misses something
two_refused : replay (rules_of drilled (edit 1 (drilling 7 ∷ []) ∷ edit 4 (drilling 7 ∷ []) ∷ [])) (0 ∷ []) [] 12
    ≡ entries.Note 3 ∷ entries.Edit 0 (Refused 5 4 1) ∷ entries.Dispatch 4 0 ∷ entries.End 4 ∷ entries.Edit 1 (Refused 4 4 0) ∷ entries.Note 5 ∷ []
unfolding visits_from tree_from term_from test_from def_of numbers_at lookup_of plane_at class_at
two_refused = refl

-- an edit at more entries than there come is judged where the run can't go on, and one of a message is refused
late : replay (rules_of drilled (edit 1000 (note 5 ∷ []) ∷ [])) (0 ∷ []) [] 12
    ≡ entries.Note 3 ∷ entries.Dispatch 4 0 ∷ entries.End 4 ∷ entries.Note 5 ∷ entries.Edit 0 (Refused 1 5 12) ∷ []
unfolding visits_from tree_from term_from test_from def_of numbers_at lookup_of plane_at class_at
late = refl

-- an accepted edit of its drilling raises the version of the workingstep, and a refused one doesn't; one of a point raises none, until the drilling
-- that was put refers to it
rising : map (λ t. version_after (edit 0 (drilling_at 7 20 ∷ []) ∷ edit 0 (point 20 ∷ []) ∷ []) (drilled ++ point 20 ∷ []) t 4)
    ((entries.Edit 0 (Refused 5 4 1) ∷ []) ∷ (entries.Edit 1 Accepted ∷ []) ∷ (entries.Edit 0 Accepted ∷ []) ∷ (entries.Edit 0 Accepted ∷ entries.Edit 1 Accepted ∷ []) ∷ [])
    ≡ 0 ∷ 0 ∷ 1 ∷ 2 ∷ []
rising = refl

-- what was put stands in the place of what had its number, and what is new comes at the end
put_there : map (λ (entity : Entity). entity.number) (store_after (edit 0 (point 20 ∷ drilling_at 7 20 ∷ []) ∷ []) drilled (entries.Edit 0 Accepted ∷ [])) ≡ 1 ∷ 2 ∷ 3 ∷ 4 ∷ 5 ∷ 6 ∷ 7 ∷ 20 ∷ []
put_there = refl

-- the variables of the loop go on where an edit is judged in it
counted_on : replay (rules_of counting (edit 3 (point 20 ∷ []) ∷ [])) (0 ∷ []) [] 12
    ≡ entries.Test 3 true ∷ entries.Assign 6 (pos 1000) ∷ entries.Test 3 true ∷ entries.Edit 0 Accepted ∷ entries.Assign 6 (pos 2000) ∷ entries.Test 3 true ∷ entries.Assign 6 (pos 3000) ∷ entries.Test 3 false ∷ []
unfolding visits_from tree_from term_from test_from
counted_on = refl
