-- The project of the large case (this profile): three channels, a parallel of three workplans, marks between them, and workingsteps of three kinds.
use Rattle.std.specs.Prelude.{ℕ, ◌+◌, ◌*◌, ◌%◌, ◌==◌, List, [], ◌∷◌, ◌++◌, map, filter, codes}
use Rattle.std.specs.List.{flat_map, range_with_len}
use Rattle.p21_parse.specs.Tree.{Tree, reference, InstanceTree, ExchangeTree}
use Rattle.p21_parse.specs.Built.{standard_head}
use Rattle.big_case.specs.declared.step.Kind.{Kind}
use Rattle.big_case.specs.declared.step.Kind.TheVariants.{Hole, Pocket, Face}
use Rattle.big_case.specs.declared.step.Step.{Step}
use Rattle.big_case.specs.Draws.{step_at}
use Rattle.big_case.specs.Parameters.{text, real, whole, minus, unset, list_of, references, instance, point, placement, plane}

-- the number of the workingstep at an index, counted from 0
abbrev pub step_number : ℕ → ℕ
step_number i = 1000 + 20 * i

-- ---- the workplans

-- the workingsteps of one of the three workplans, in order: those whose index leaves a given remainder by 3
abbrev pub steps_of : ℕ → ℕ → List ℕ
steps_of remainder steps = map step_number (filter (λ i. i % 3 == remainder) (range_with_len 0 steps))

-- the numbers, with one more behind the first
abbrev pub behind_first : ℕ → List ℕ → List ℕ
behind_first mark [] = mark ∷ []
behind_first mark (n ∷ ns) = n ∷ mark ∷ ns

-- the first workplan: its first workingstep, a mark that is set, its other workingsteps
abbrev pub first_elements : ℕ → List ℕ
first_elements steps = behind_first 10 (steps_of 0 steps)

-- the second workplan: a wait for that mark, its workingsteps, another mark that is set
abbrev pub second_elements : ℕ → List ℕ
second_elements steps = 12 ∷ (steps_of 1 steps ++ 11 ∷ [])

-- the third workplan: its workingsteps, a wait for the other mark
abbrev pub third_elements : ℕ → List ℕ
third_elements steps = steps_of 2 steps ++ 13 ∷ []

-- a workplan of these elements in a channel (ISO 14649-10: workplan)
abbrev pub workplan : ℕ → List ℕ → ℕ → InstanceTree
workplan n elements channel = instance n (codes "WORKPLAN") (text (codes "w") ∷ references elements ∷ reference channel ∷ [])

-- the channels, the project, its main workplan and the parallel in it
abbrev pub opening : List InstanceTree
opening =
    instance 1 (codes "CHANNEL") (text (codes "0") ∷ [])
    ∷ instance 2 (codes "CHANNEL") (text (codes "1") ∷ [])
    ∷ instance 3 (codes "CHANNEL") (text (codes "2") ∷ [])
    ∷ instance 4 (codes "PROJECT") (text (codes "big") ∷ reference 5 ∷ [])
    ∷ instance 5 (codes "WORKPLAN") (text (codes "main") ∷ references (6 ∷ []) ∷ unset ∷ [])
    ∷ instance 6 (codes "PARALLEL") (text (codes "p") ∷ references (7 ∷ 8 ∷ 9 ∷ []) ∷ [])
    ∷ []

-- the three workplans, each in a channel of its own
abbrev pub workplans : ℕ → List InstanceTree
workplans steps = workplan 7 (first_elements steps) 1 ∷ workplan 8 (second_elements steps) 2 ∷ workplan 9 (third_elements steps) 3 ∷ []

-- two marks, and a wait for each
abbrev pub marks : List InstanceTree
marks =
    instance 10 (codes "SET_MARK") (text (codes "m") ∷ [])
    ∷ instance 11 (codes "SET_MARK") (text (codes "m") ∷ [])
    ∷ instance 12 (codes "WAIT_FOR_MARK") (text (codes "m") ∷ reference 10 ∷ [])
    ∷ instance 13 (codes "WAIT_FOR_MARK") (text (codes "m") ∷ reference 11 ∷ [])
    ∷ []

-- the security plane of all workingsteps, at a height of 30
abbrev pub security : List InstanceTree
security = plane 20 21 ∷ placement 21 22 ∷ point 22 (real (codes "0.")) (real (codes "0.")) (real (codes "30.")) ∷ []

-- the tool and the technology of all workingsteps: a diameter of 10, a feed of 0.04, a spindle speed of 20
abbrev pub tooling : List InstanceTree
tooling =
    instance 30 (codes "MILLING_CUTTING_TOOL") (text (codes "t") ∷ reference 31 ∷ [])
    ∷ instance 31 (codes "ENDMILL") (reference 32 ∷ [])
    ∷ instance 32 (codes "MILLING_TOOL_DIMENSION") (real (codes "10.") ∷ [])
    ∷ instance 33 (codes "MILLING_TECHNOLOGY") (real (codes "0.04") ∷ unset ∷ unset ∷ real (codes "20.") ∷ [])
    ∷ []

-- ---- a workingstep, whose instances have the numbers from n on

-- the workingstep itself (ISO 14649-10: machining_workingstep)
abbrev pub workingstep : ℕ → InstanceTree
workingstep n = instance n (codes "MACHINING_WORKINGSTEP") (text (codes "s") ∷ reference 20 ∷ reference (n + 1) ∷ reference (n + 2) ∷ [])

-- what every feature has: its placement and its depth
abbrev pub feature_front : ℕ → List Tree
feature_front n = text (codes "f") ∷ unset ∷ list_of [] ∷ reference (n + 3) ∷ reference (n + 5) ∷ []

-- a hole of diameter 10, a pocket or a face (ISO 14649-10: manufacturing features)
abbrev pub feature : Kind → ℕ → InstanceTree
feature Hole n = instance (n + 1) (codes "ROUND_HOLE") (feature_front n ++ real (codes "10.") ∷ [])
feature Pocket n = instance (n + 1) (codes "CLOSED_POCKET") (feature_front n ++ list_of [] ∷ unset ∷ unset ∷ unset ∷ unset ∷ reference (n + 8) ∷ [])
feature Face n = instance (n + 1) (codes "PLANAR_FACE") (feature_front n ++ reference (n + 8) ∷ reference (n + 9) ∷ [])

-- what every operation has: a retract of 5, the tool and the technology
abbrev pub operation_front : List Tree
operation_front = unset ∷ unset ∷ text (codes "o") ∷ real (codes "5.") ∷ unset ∷ reference 30 ∷ reference 33 ∷ []

-- drilling, milling of a pocket with an axial depth of 5 and a radial one of 4, or of a face with an axial depth of 5
-- (ISO 14649-11: drilling, bottom_and_side_rough_milling, plane_rough_milling)
abbrev pub operation : Kind → ℕ → InstanceTree
operation Hole n = instance (n + 2) (codes "DRILLING") operation_front
operation Pocket n = instance (n + 2) (codes "BOTTOM_AND_SIDE_ROUGH_MILLING") (
    operation_front ++ unset ∷ unset ∷ unset ∷ unset ∷ unset ∷ real (codes "5.") ∷ real (codes "4.") ∷ unset ∷ unset ∷ []
    )
operation Face n = instance (n + 2) (codes "PLANE_ROUGH_MILLING") (operation_front ++ unset ∷ unset ∷ unset ∷ unset ∷ unset ∷ real (codes "5.") ∷ unset ∷ [])

-- the point of the plane of a depth
abbrev pub depth_point : ℕ → ℕ → InstanceTree
depth_point n depth = point n (real (codes "0.")) (real (codes "0.")) (minus depth)

-- where a feature lies, and how deep it is
abbrev pub geometry : Step → ℕ → List InstanceTree
geometry step n =
    placement (n + 3) (n + 4)
    ∷ point (n + 4) (whole step.x) (whole step.y) (real (codes "0."))
    ∷ plane (n + 5) (n + 6)
    ∷ placement (n + 6) (n + 7)
    ∷ depth_point (n + 7) step.depth
    ∷ []

-- how large a pocket or a face is (ISO 14649-10: profiles and travel paths)
abbrev pub extent : Kind → ℕ → List InstanceTree
extent Hole n = []
extent Pocket n = instance (n + 8) (codes "RECTANGULAR_CLOSED_PROFILE") (unset ∷ real (codes "40.") ∷ real (codes "20.") ∷ []) ∷ []
extent Face n =
    instance (n + 8) (codes "LINEAR_PATH") (unset ∷ real (codes "100.") ∷ reference (n + 10) ∷ [])
    ∷ instance (n + 9) (codes "LINEAR_PROFILE") (unset ∷ real (codes "50.") ∷ [])
    ∷ instance (n + 10) (codes "DIRECTION") (text [] ∷ list_of (real (codes "1.") ∷ real (codes "0.") ∷ real (codes "0.") ∷ []) ∷ [])
    ∷ []

-- all instances of a workingstep
abbrev pub step_instances : Step → ℕ → List InstanceTree
step_instances step n = workingstep n ∷ feature step.kind n ∷ operation step.kind n ∷ (geometry step n ++ extent step.kind n)

-- the same of the workingstep at an index, counted from 0
abbrev pub instances_at : ℕ → ℕ → List InstanceTree
instances_at start i = step_instances (step_at start i) (step_number i)

-- ---- the whole

-- the instances before those of the workingsteps
abbrev pub front : ℕ → List InstanceTree
front steps = opening ++ (workplans steps ++ (marks ++ (security ++ tooling)))

-- all instances, in order
abbrev pub project_items : ℕ → ℕ → List InstanceTree
project_items steps start = front steps ++ flat_map (instances_at start) (range_with_len 0 steps)

-- the project of so many workingsteps, drawn from a start on
abbrev pub project : ℕ → ℕ → ExchangeTree
project steps start = record { head = standard_head; items = project_items steps start }
