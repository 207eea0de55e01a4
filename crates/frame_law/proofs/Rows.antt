-- Worked rows: where a run goes on from a node of a small tree, and what comes in there.
use Rattle.std.specs.Prelude.{◌≡◌, ◌==◌, if◌then◌else◌, ℕ, List, [], ◌∷◌, Some, None}
use Rattle.std.proofs.Common.{refl}
use Rattle.exec_tree.specs.Exec.{Noting, Exec, Leaf, Plan, Par, NonSeq, Sel, If, While, Execs, None_left, Then}
use Rattle.trace_law.specs.Cells.{Cell, Going, Left, Picked}
use Rattle.frame_law.specs.Executable.{executable_at}
use Rattle.frame_law.specs.Onward.{Done, Opens, Joins, PicksOn, TestsAgain, onward, brings}
use Rattle.frame_law.specs.Way.{touched}

abbrev note : ℕ → Exec
note n = Leaf n Noting

abbrev notes : List ℕ → Execs
notes [] = None_left
notes (n ∷ ns) = Then (note n) (notes ns)

-- cells of which node n has one, and all others are going
abbrev with : ℕ → Cell → ℕ → Cell
with n cell m = if m == n then cell else Going

-- ---- a parallel of 2 and 3, and then 5 behind a non-sequential without elements

abbrev joining : Exec
joining = Plan (Some 0) (Then (Par 1 (notes (2 ∷ 3 ∷ []))) (Then (NonSeq 4 None_left) (notes (5 ∷ []))))

joins_and_opens : onward joining Done 2 ≡ Joins 1 (Opens (Then (NonSeq 4 None_left) (notes (5 ∷ []))))
joins_and_opens = refl

found_there : executable_at joining 4 ≡ NonSeq 4 None_left
found_there = refl

-- the first of the two that is over brings nothing in, the other one 5
first_joins : brings (with 1 (Left 2)) (onward joining Done 2) ≡ []
first_joins = refl

last_joins : brings (with 1 (Left 1)) (onward joining Done 3) ≡ 5 ∷ []
last_joins = refl

first_touches : touched (with 1 (Left 2)) (onward joining Done 2) ≡ 1 ∷ []
first_touches = refl

last_touches : touched (with 1 (Left 1)) (onward joining Done 3) ≡ 1 ∷ 4 ∷ 5 ∷ []
last_touches = refl

-- ---- of 0 two elements: a plan of 2 and a plan without elements, and 4

abbrev picking : Exec
picking = NonSeq 0 (Then (Plan (Some 1) (Then (note 2) (Then (Plan (Some 3) None_left) None_left))) (notes (4 ∷ [])))

picks_on : onward picking Done 2 ≡ PicksOn 0 2 Done
picks_on = refl

one_is_left : brings (with 0 (Picked (0 ∷ []))) (onward picking Done 2) ≡ 0 ∷ []
one_is_left = refl

none_is_left : brings (with 0 (Picked (1 ∷ 0 ∷ []))) (onward picking Done 2) ≡ []
none_is_left = refl

-- ---- loops and branches

tests_again : onward (While 0 (Sel 1 (notes (2 ∷ [])))) Done 2 ≡ TestsAgain 0
tests_again = refl

loop_is_over : onward (While 0 (note 1)) Done 0 ≡ Done
loop_is_over = refl

-- a parallel of which one element alone has something to do counts nothing
one_has_nothing : onward (Par 0 (Then (If 1 (note 2) (Plan None None_left)) (Then (Plan (Some 3) None_left) None_left))) Done 2 ≡ Done
one_has_nothing = refl
