-- What the passes over a tree leave in the rows of a table.
use Rattle.std.specs.Prelude.{◌≡◌, ℕ, zero, suc, Bool, true, false, if◌then◌else◌, List, [], length, slice_get, slice_set, Option, Some, None}
use Rattle.std.specs.Option.{option_map_or}
use Rattle.exec_tree.specs.Exec.{Exec, Work, Leaf, Plan, Par, NonSeq, Sel, If, While, Execs, None_left, Then, nodes, nodes_all, has}
use Rattle.exec_tree.specs.declared.kind.Kind.{Kind}
use Rattle.exec_tree.specs.declared.kind.Kind.TheVariants as kind
use Rattle.exec_tree.specs.declared.node.BareNode.{BareNode}
use Rattle.trace_law.specs.Next.{next}
use Rattle.trace_law.specs.Frames.{going, is_shared}
use Rattle.trace_law.specs.Leading.{has_none, leads}
use Rattle.tree_table.specs.Within.{own_number}
use Rattle.tree_table.specs.Rows.{into_at, after_at, levels_at, executable_at, AreLinkedBack}
use Rattle.tree_table.specs.declared.row.Continuation.{Continuation}
use Rattle.tree_table.specs.declared.row.Continuation.TheVariants.{Opens, Joins, PicksOn, TestsAgain}
use Rattle.tree_table.specs.declared.row.Row.{Row}

-- the first place of two
abbrev pub first_place : Option ℕ → Option ℕ → Option ℕ
first_place None q = q
first_place (Some p) q = Some p

-- one for a place
abbrev pub one_for : Option ℕ → ℕ
one_for None = 0
one_for (Some p) = 1

-- the place to which opening an executable leads
abbrev pub into_of : Exec → Option ℕ
into_of e = if has_none (next e []) then None else own_number (leads e)

-- that of the first element that has something to do
abbrev pub first_into : Execs → Option ℕ
first_into None_left = None
first_into (Then e es) = first_place (into_of e) (first_into es)

-- the same by kind, from what the elements tell: the place to which the first leads, and how many lead anywhere
abbrev pub into_by : Kind → ℕ → ℕ → Option ℕ → ℕ → Option ℕ
into_by kind.Plan p total first number = first
into_by kind.Par p total first zero = first
into_by kind.Par p total first (suc zero) = first
into_by kind.Par p total first (suc (suc number)) = Some p
into_by kind.NonSeq p zero first number = None
into_by kind.NonSeq p (suc total) first number = Some p
into_by _ p total first number = Some p

-- the row is put at the place, where there is one
abbrev pub with_row : Option ℕ → Row → List Row → List Row
with_row None r rows = rows
with_row (Some p) r rows = slice_set rows p r

-- the continuation is put into the row at the place
abbrev pub with_after : List Row → ℕ → Continuation → List Row
with_after rows p c = option_map_or (λ r. slice_set rows p (record r { after = c })) (slice_get rows p) rows

-- the rows are the same but at these places
abbrev pub AreKeptBut : List Row → List Row → List ℕ → Type 0
AreKeptBut old new ps = (q : ℕ) → has ps q ≡ false → slice_get new q ≡ slice_get old q

-- ---- where opening leads

-- the row at n says how deep e lies, and where opening it leads
pub record IsLed (arena : List BareNode) (rows : List Row) (n : ℕ) (e : Exec) : Type 0 where
  pub there : executable_at arena rows n ≡ e
  pub into : into_at rows n ≡ into_of e

-- and so of each node of e
abbrev mutual
  pub Led : List BareNode → List Row → Exec → Type 0
  Led arena rows (Work n) = IsLed arena rows n (Work n)
  Led arena rows (Leaf n k) = IsLed arena rows n (Leaf n k)
  Led arena rows (Plan None es) = LedAll arena rows es
  Led arena rows (Plan (Some n) es) = IsLed arena rows n (Plan (Some n) es) × LedAll arena rows es
  Led arena rows (Par n es) = IsLed arena rows n (Par n es) × LedAll arena rows es
  Led arena rows (NonSeq n es) = IsLed arena rows n (NonSeq n es) × LedAll arena rows es
  Led arena rows (Sel n es) = IsLed arena rows n (Sel n es) × LedAll arena rows es
  Led arena rows (If n a b) = IsLed arena rows n (If n a b) × Led arena rows a × Led arena rows b
  Led arena rows (While n a) = IsLed arena rows n (While n a) × Led arena rows a

  pub LedAll : List BareNode → List Row → Execs → Type 0
  LedAll arena rows None_left = Unit {0}
  LedAll arena rows (Then e es) = Led arena rows e × LedAll arena rows es

-- the rows of e's nodes are made, and no other has changed
pub record IsMade (arena : List BareNode) (old new : List Row) (e : Exec) (q : Option ℕ) : Type 0 where
  pub led : Led arena new e
  pub into : q ≡ into_of e
  pub kept : AreKeptBut old new (nodes e)
  pub long : length new ≡ length old
  pub back : AreLinkedBack old → AreLinkedBack new

-- the rows of the elements' nodes are made; where the first leads that leads anywhere, and how many do
pub record AreMade (arena : List BareNode) (old new : List Row) (es : Execs) (first : Option ℕ) (number : ℕ) : Type 0 where
  pub led : LedAll arena new es
  pub first_is : first ≡ first_into es
  pub number_is : number ≡ going es []
  pub kept : AreKeptBut old new (nodes_all es)
  pub long : length new ≡ length old
  pub back : AreLinkedBack old → AreLinkedBack new

-- ---- where the run goes on

abbrev pub opens_or : Option ℕ → Continuation → Continuation
opens_or None c = c
opens_or (Some q) c = Opens q

abbrev pub joins_or : Bool → ℕ → Continuation → Continuation
joins_or true p c = Joins p
joins_or false p c = c

-- the elements' continuation, in an executable of a kind that is no plan
abbrev pub inner : Kind → Bool → ℕ → Continuation → Continuation
inner kind.Par shared p c = joins_or shared p c
inner kind.NonSeq shared p c = PicksOn p
inner kind.While shared p c = TestsAgain p
inner _ shared p c = c

-- the rows of e's nodes have these continuations, where e goes on at c
abbrev mutual
  pub Told : List Row → Exec → Continuation → Type 0
  Told rows (Work n) c = after_at rows n ≡ c
  Told rows (Leaf n k) c = after_at rows n ≡ c
  Told rows (Plan None es) c = ToldInOrder rows es c
  Told rows (Plan (Some n) es) c = (after_at rows n ≡ c) × ToldInOrder rows es c
  Told rows (Par n es) c = (after_at rows n ≡ c) × ToldAll rows es (joins_or (is_shared es) n c)
  Told rows (NonSeq n es) c = (after_at rows n ≡ c) × ToldAll rows es (PicksOn n)
  Told rows (Sel n es) c = (after_at rows n ≡ c) × ToldAll rows es c
  Told rows (If n a b) c = (after_at rows n ≡ c) × Told rows a c × Told rows b c
  Told rows (While n a) c = (after_at rows n ≡ c) × Told rows a (TestsAgain n)

  pub ToldInOrder : List Row → Execs → Continuation → Type 0
  ToldInOrder rows None_left c = Unit {0}
  ToldInOrder rows (Then e es) c = Told rows e (opens_or (first_into es) c) × ToldInOrder rows es c

  pub ToldAll : List Row → Execs → Continuation → Type 0
  ToldAll rows None_left c = Unit {0}
  ToldAll rows (Then e es) c = Told rows e c × ToldAll rows es c

-- nothing but continuations has changed, and these only at some places
pub record AreSameBut (old new : List Row) (ps : List ℕ) : Type 0 where
  pub into : (q : ℕ) → into_at new q ≡ into_at old q
  pub levels : (q : ℕ) → levels_at new q ≡ levels_at old q
  pub after : (q : ℕ) → has ps q ≡ false → after_at new q ≡ after_at old q
  pub long : length new ≡ length old
  pub back : AreLinkedBack new

-- the rows of e's nodes are told, where e goes on at c; q is where opening e leads
pub record IsTold (old new : List Row) (e : Exec) (c : Continuation) (q : Option ℕ) : Type 0 where
  pub told : Told new e c
  pub into : q ≡ into_of e
  pub same : AreSameBut old new (nodes e)

pub record AreTold (old new : List Row) (es : Execs) (c : Continuation) : Type 0 where
  pub told : ToldAll new es c
  pub same : AreSameBut old new (nodes_all es)

pub record AreToldInOrder (old new : List Row) (es : Execs) (c : Continuation) (q : Option ℕ) : Type 0 where
  pub told : ToldInOrder new es c
  pub into : q ≡ first_into es
  pub same : AreSameBut old new (nodes_all es)
