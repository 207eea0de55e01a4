-- Small stores whose tree, or first fault, computes: each fault at its limit and one past it, and which of two faults comes first.
use Rattle.std.specs.Prelude.{◌≡◌, ℕ, zero, suc, pos, true, false, List, [], ◌∷◌, ◌++◌, Some, None}
use Rattle.std.proofs.Common.{refl}
use Rattle.entity_types.specs.declared.class.Class.TheVariants.{Workplan, NonSequential, IfStatement, WhileStatement, Assignment, WaitForMark, Note, Channel, NcVariable, NcSum, AndExpression, NotExpression, ComparisonLess}
use Rattle.entity_types.specs.declared.field.Field.TheVariants.{Absent, Ref, Refs, Value}
use Rattle.entity_types.specs.declared.entity.Entity.{Entity}
use Rattle.project_store.specs.Entities.{entity_at}
use Rattle.nc_expr.specs.declared.expr.Relation.TheVariants as relation
use Rattle.nc_expr.specs.Term.{Written, Variable, Sum, Compares, And, Constant}
use Rattle.exec_tree.specs.declared.error.TreeErr.TheVariants.{Shared, TooDeep, TooManyNodes, ExprTooBig, TooManyChannels, NewChannel}
use Rattle.exec_tree.specs.declared.role.Role.TheVariants.{Waiting}
use Rattle.exec_tree.specs.Exec.{Leaf, Noting, Plan, NonSeq, If, None_left, Then}
use Rattle.exec_tree.specs.Size.{size, expression_size}
use Rattle.exec_tree.specs.Terms.{term_from, test_from}
use Rattle.exec_tree.specs.Said.{Repeats, Assigns, said_for}
use Rattle.exec_tree.specs.Role.{role_of}
use Rattle.exec_tree.specs.Executable.{kind_at}
use Rattle.exec_tree.specs.Walk.{visits_from}
use Rattle.exec_tree.specs.TreeFault.{Seen, fault_by, first_tree_fault, first_fault_from, seen_before}
use Rattle.exec_tree.specs.TreeOf.{tree_from, tree_of}
use Rattle.exec_tree.specs.Built.{channels_of, channel_of}

-- ---- entities

abbrev plan : ℕ → List ℕ → Entity
plan n elements = record { number = n; class = Workplan; fields = Refs elements ∷ Absent ∷ []; fit = refl }

abbrev plan_on : ℕ → List ℕ → ℕ → Entity
plan_on n elements channel = record { number = n; class = Workplan; fields = Refs elements ∷ Ref channel ∷ []; fit = refl }

abbrev note : ℕ → Entity
note n = record { number = n; class = Note; fields = []; fit = refl }

abbrev channel : ℕ → Entity
channel n = record { number = n; class = Channel; fields = []; fit = refl }

abbrev less : ℕ → Entity
less n = record { number = n; class = ComparisonLess; fields = Value (pos 5) ∷ Value (pos 6) ∷ []; fit = refl }

abbrev loop : ℕ → ℕ → ℕ → Entity
loop n condition body = record { number = n; class = WhileStatement; fields = Ref condition ∷ Ref body ∷ []; fit = refl }

abbrev negation : ℕ → ℕ → Entity
negation n of = record { number = n; class = NotExpression; fields = Ref of ∷ []; fit = refl }

abbrev conjunction : ℕ → List ℕ → Entity
conjunction n of = record { number = n; class = AndExpression; fields = Refs of ∷ []; fit = refl }

-- so many numbers from n on, and so many times n
abbrev up : ℕ → ℕ → List ℕ
up zero n = []
up (suc k) n = n ∷ up k (suc n)

abbrev times : ℕ → ℕ → List ℕ
times zero n = []
times (suc k) n = n ∷ times k n

-- so many workplans from n on, each in the one before, and a note in the last
abbrev chain : ℕ → ℕ → List Entity
chain zero n = note n ∷ []
chain (suc k) n = plan n (suc n ∷ []) ∷ chain k (suc n)

-- so many empty workplans from n on, each with a channel of its own
abbrev branches_on : ℕ → ℕ → ℕ → List Entity
branches_on zero n c = []
branches_on (suc k) n c = plan_on n [] c ∷ branches_on k (suc n) (suc c)

-- a while whose condition is an AND of so many comparisons, each of three nodes: one node more than three times as many
abbrev loop_over : ℕ → List Entity
loop_over k = plan 2 (3 ∷ []) ∷ loop 3 4 6 ∷ conjunction 4 (times k 5) ∷ less 5 ∷ note 6 ∷ []

-- the same with a NOT around it
abbrev loop_over_not : ℕ → List Entity
loop_over_not k = plan 2 (3 ∷ []) ∷ loop 3 7 6 ∷ negation 7 4 ∷ conjunction 4 (times k 5) ∷ less 5 ∷ note 6 ∷ []

-- ---- each fault at its limit and one past it

once : first_tree_fault (entity_at (plan 2 (10 ∷ 11 ∷ []) ∷ note 10 ∷ note 11 ∷ [])) 2 ≡ None
unfolding visits_from size
once = refl

twice : first_tree_fault (entity_at (plan 2 (10 ∷ 10 ∷ []) ∷ note 10 ∷ [])) 2 ≡ Some (Shared 10)
unfolding visits_from size
twice = refl

-- an executable in two branches
twice_apart : first_tree_fault (entity_at (plan 2 (3 ∷ 4 ∷ []) ∷ plan 3 (10 ∷ []) ∷ plan 4 (10 ∷ []) ∷ note 10 ∷ [])) 2 ≡ Some (Shared 10)
unfolding visits_from size
twice_apart = refl

-- a workplan in itself
in_itself : first_tree_fault (entity_at (plan 2 (2 ∷ []) ∷ [])) 2 ≡ Some (Shared 2)
unfolding visits_from size
in_itself = refl

deep : first_tree_fault (entity_at (chain 63 2)) 2 ≡ None
unfolding visits_from size
deep = refl

too_deep : first_tree_fault (entity_at (chain 64 2)) 2 ≡ Some (TooDeep 66)
unfolding visits_from size
too_deep = refl

-- the walk with so much weight before it
abbrev heavy : ℕ → Seen
heavy weight = record { numbers = []; weight = weight; channels = []; fixed = false }

many : first_fault_from (heavy 65533) (entity_at (plan 2 (10 ∷ []) ∷ note 10 ∷ [])) 2 ≡ None
unfolding visits_from size
many = refl

too_many : first_fault_from (heavy 65534) (entity_at (plan 2 (10 ∷ []) ∷ note 10 ∷ [])) 2 ≡ Some TooManyNodes
unfolding visits_from size
too_many = refl

-- with the nodes of an expression: the workplan, the while and the note, and 1 and three times so many
many_expression_nodes : first_fault_from (heavy 65528) (entity_at (loop_over 1)) 2 ≡ None
unfolding visits_from size
many_expression_nodes = refl

too_many_expression_nodes : first_fault_from (heavy 65529) (entity_at (loop_over 1)) 2 ≡ Some TooManyNodes
unfolding visits_from size
too_many_expression_nodes = refl

big : first_tree_fault (entity_at (loop_over 333)) 2 ≡ None
unfolding visits_from size
big = refl

too_big : first_tree_fault (entity_at (loop_over_not 333)) 2 ≡ Some (ExprTooBig 3)
unfolding visits_from size
too_big = refl

-- a condition that names itself has endlessly many nodes
endless : first_tree_fault (entity_at (plan 2 (3 ∷ []) ∷ loop 3 4 6 ∷ negation 4 4 ∷ note 6 ∷ [])) 2 ≡ Some (ExprTooBig 3)
unfolding visits_from size
endless = refl

eight_channels : first_tree_fault (entity_at (plan 2 (up 8 10) ∷ branches_on 8 10 30)) 2 ≡ None
unfolding visits_from size
eight_channels = refl

nine_channels : first_tree_fault (entity_at (plan 2 (up 9 10) ∷ branches_on 9 10 30)) 2 ≡ Some TooManyChannels
unfolding visits_from size
nine_channels = refl

-- a channel named twice is one
eight_again : first_tree_fault (entity_at (plan 2 (up 8 10 ++ 50 ∷ []) ∷ plan_on 50 [] 30 ∷ branches_on 8 10 30)) 2 ≡ None
unfolding visits_from size
eight_again = refl

-- ---- of two faults at one executable the first in the order decides: one that stood earlier (7), with nesting 65 (0 levels left), with
-- weight 65,535 before it, with an expression of 1,001 nodes, with a ninth channel (9)

abbrev full : List ℕ → ℕ → Seen
full numbers weight = record { numbers = numbers; weight = weight; channels = up 8 30; fixed = false }

shared_and_deep : fault_by (full (7 ∷ []) 0) 7 0 0 None ≡ Some (Shared 7)
shared_and_deep = refl

shared_and_many : fault_by (full (7 ∷ []) 65535) 7 1 0 None ≡ Some (Shared 7)
shared_and_many = refl

shared_and_big : fault_by (full (7 ∷ []) 0) 7 1 1001 None ≡ Some (Shared 7)
shared_and_big = refl

shared_and_channels : fault_by (full (7 ∷ []) 0) 7 1 0 (Some 9) ≡ Some (Shared 7)
shared_and_channels = refl

deep_and_many : fault_by (full [] 65535) 7 0 0 None ≡ Some (TooDeep 7)
deep_and_many = refl

deep_and_big : fault_by (full [] 0) 7 0 1001 None ≡ Some (TooDeep 7)
deep_and_big = refl

deep_and_channels : fault_by (full [] 0) 7 0 0 (Some 9) ≡ Some (TooDeep 7)
deep_and_channels = refl

many_and_big : fault_by (full [] 64535) 7 1 1001 None ≡ Some TooManyNodes
many_and_big = refl

many_and_channels : fault_by (full [] 65535) 7 1 0 (Some 9) ≡ Some TooManyNodes
many_and_channels = refl

big_and_channels : fault_by (full [] 0) 7 1 1001 (Some 9) ≡ Some (ExprTooBig 7)
big_and_channels = refl

-- an expression counts as at most 1,000 nodes
big_at_the_limit : fault_by (full [] 64534) 7 1 1001 None ≡ Some (ExprTooBig 7)
big_at_the_limit = refl

-- ---- of two executables the earlier one decides, whatever its fault: here one past the ninth channel, and one that stands twice

channels_before_shared : first_tree_fault (entity_at (plan 2 (up 9 10 ++ 10 ∷ []) ∷ branches_on 9 10 30)) 2 ≡ Some TooManyChannels
unfolding visits_from size
channels_before_shared = refl

shared_before_channels : first_tree_fault (entity_at (plan 2 (10 ∷ up 9 10) ∷ branches_on 9 10 30)) 2 ≡ Some (Shared 10)
unfolding visits_from size
shared_before_channels = refl

-- what lies below an executable comes before what follows it
below_before_after : first_tree_fault (entity_at (plan 2 (3 ∷ 10 ∷ []) ∷ plan 3 (10 ∷ 3 ∷ []) ∷ note 10 ∷ [])) 2 ≡ Some (Shared 3)
unfolding visits_from size
below_before_after = refl

-- ---- trees and channels

-- an if without its second branch, and a workplan with a channel of its own in the first
abbrev branches : List Entity
branches =
    plan_on 2 (3 ∷ 5 ∷ []) 9 ∷ record { number = 3; class = IfStatement; fields = Ref 4 ∷ Ref 6 ∷ Absent ∷ []; fit = refl } ∷ less 4 ∷ note 5 ∷ plan_on 6 (7 ∷ []) 8 ∷ note 7 ∷ channel 8 ∷ channel 9 ∷ []

branches_fine : first_tree_fault (entity_at branches) 2 ≡ None
unfolding visits_from size
branches_fine = refl

branches_tree : tree_of (entity_at branches) 2 ≡ Plan (Some 2) (Then (If 3 (Plan (Some 6) (Then (Leaf 7 Noting) None_left)) (Plan None None_left)) (Then (Leaf 5 Noting) None_left))
unfolding tree_from
branches_tree = refl

branches_channels : channels_of (entity_at branches) 2 ≡ 9 ∷ 8 ∷ []
unfolding visits_from size
branches_channels = refl

inner_channel : channel_of (entity_at branches) 2 7 ≡ 1
unfolding visits_from size
inner_channel = refl

outer_channel : channel_of (entity_at branches) 2 5 ≡ 0
unfolding visits_from size
outer_channel = refl

-- a workplan without a channel has that of the one above it
handed_down : channel_of (entity_at (plan 2 (3 ∷ []) ∷ plan_on 3 (4 ∷ []) 9 ∷ plan 4 (5 ∷ []) ∷ note 5 ∷ [])) 2 5 ≡ 0
unfolding visits_from size
handed_down = refl

-- a tree before gives the channels, and none may come
new_channel : first_fault_from (seen_before (9 ∷ [])) (entity_at branches) 2 ≡ Some (NewChannel 6)
unfolding visits_from size
new_channel = refl

old_channels : first_fault_from (seen_before (8 ∷ 9 ∷ [])) (entity_at branches) 2 ≡ None
unfolding visits_from size
old_channels = refl

in_any_order : tree_of (entity_at (plan 2 (3 ∷ []) ∷ record { number = 3; class = NonSequential; fields = Refs (4 ∷ 5 ∷ 6 ∷ []) ∷ []; fit = refl } ∷ note 4 ∷ note 5 ∷ note 6 ∷ [])) 2
    ≡ Plan (Some 2) (Then (NonSeq 3 (Then (Leaf 4 Noting) (Then (Leaf 5 Noting) (Then (Leaf 6 Noting) None_left)))) None_left)
unfolding tree_from
in_any_order = refl

-- ---- what nodes say: a while that counts a variable up to 3, and a wait

abbrev counting : List Entity
counting =
    loop 3 4 6 ∷ record { number = 4; class = ComparisonLess; fields = Ref 5 ∷ Value (pos 3000) ∷ []; fit = refl } ∷ record { number = 5; class = NcVariable; fields = Absent ∷ []; fit = refl }
    ∷ record { number = 6; class = Assignment; fields = Ref 5 ∷ Ref 7 ∷ []; fit = refl } ∷ record { number = 7; class = NcSum; fields = Ref 5 ∷ Value (pos 1000) ∷ []; fit = refl }
    ∷ record { number = 8; class = WaitForMark; fields = Ref 9 ∷ []; fit = refl } ∷ conjunction 10 (4 ∷ []) ∷ []

counts_while : said_for (entity_at counting) (kind_at (entity_at counting 3)) (entity_at counting 3) ≡ Repeats (Compares relation.Less (Variable 5) (Written (pos 3000)))
unfolding term_from test_from
counts_while = refl

counts_up : said_for (entity_at counting) (kind_at (entity_at counting 6)) (entity_at counting 6) ≡ Assigns 5 (Sum (Variable 5) (Written (pos 1000)))
unfolding term_from
counts_up = refl

-- an assignment's variable is no node of its expression: the sum and its two operands are
assigned_nodes : expression_size (entity_at counting) 6 ≡ 3
unfolding size
assigned_nodes = refl

waits : role_of (entity_at counting) 8 ≡ Waiting 9
waits = refl

a_list_of_one : test_from (entity_at counting) 1001 10 ≡ And (Compares relation.Less (Variable 5) (Written (pos 3000))) (Constant true)
unfolding term_from test_from
a_list_of_one = refl
