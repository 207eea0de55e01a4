-- Which entry may follow a run so far.
use Rattle.std.specs.Prelude.{◌≡◌, ℕ, ◌+◌, Bool, true, false, ◌==◌, nat_le, ◌&&◌, ◌||◌, not, List, [], ◌∷◌, ◌++◌, length, slice_get, Some, is_some, IsSomeAnd}
use Rattle.std.specs.List.{list_any, filter}
use Rattle.std.specs.Option.{option_map_or}
use Rattle.exec_tree.specs.Exec.{has, works}
use Rattle.trace_law.specs.Of.{number_of}
use Rattle.trace_law.specs.Part.{Part}
use Rattle.trace_law.specs.Next.{next}
use Rattle.trace_law.specs.State.{marks, stage, is_open}
use Rattle.run_log.specs.declared.entry.Entry.{Entry}
use Rattle.run_log.specs.declared.entry.Entry.TheVariants.{Dispatch, Block, End, Test, Assign, Edit}
use Rattle.exec_tree.specs.declared.role.Role.{Role}
use Rattle.exec_tree.specs.declared.role.Role.TheVariants.{Cutting, Waiting, Free}
use Rattle.run_law.specs.Rules.{Rules}
use Rattle.nc_base.specs.declared.verdict.Verdict.{Verdict}

-- t without its edits
abbrev pub is_plain : Entry → Bool
is_plain x = is_some (number_of x)

-- the entries of nodes, in order
abbrev pub plain : List Entry → List Entry
plain t = filter is_plain t

-- how many edits t has judged
abbrev pub judged : List Entry → ℕ
judged [] = 0
judged (Edit i w ∷ t) = judged t + 1
judged (x ∷ t) = judged t

-- the nodes where the run can go on
abbrev pub next_of : Rules → List Entry → List ℕ
next_of r t = next (r.tree t) (plain t)

-- a step of this channel is open
abbrev pub is_busy : Rules → List Entry → ℕ → Bool
is_busy r t c = list_any (λ m. (r.channel t m == c) && is_open m t) (works (r.tree t))

-- a wait may be passed where its mark is set, and a workingstep that isn't open may start where no step of its channel is open
abbrev pub may_go_on : Rules → List Entry → ℕ → Role → Bool
may_go_on r t n Cutting = is_open n t || not (is_busy r t (r.channel t n))
may_go_on r t n (Waiting m) = has (marks t) m
may_go_on r t n Free = true

-- node n may go on
abbrev pub is_enabled : Rules → List Entry → ℕ → Bool
is_enabled r t n = may_go_on r t n (r.role t n)

-- no node where the run can go on is enabled
abbrev pub is_stuck : Rules → List Entry → Bool
is_stuck r t = not (list_any (is_enabled r t) (next_of r t))

-- the next edit is there, and its count of entries is reached or the run is stuck
abbrev pub is_due : Rules → List Entry → Bool
is_due r t = option_map_or (λ at. nat_le at (length t) || is_stuck r t) (slice_get r.edits (judged t)) false

-- the entry's values are those of the run so far
abbrev pub HasValues : Rules → List Entry → Entry → Type 0
HasValues r t (Dispatch n v) = v ≡ r.version t n
HasValues r t (Block n k b) = slice_get (r.path t n) k ≡ Some b
HasValues r t (End n) = stage n t ≡ Some (length (r.path t n))
HasValues r t (Test n b) = b ≡ r.answer t n
HasValues r t (Assign n x) = x ≡ r.value t n
HasValues r t x = Unit {0}

-- an entry of a node: the run with it is a run so far of the tree, its node is enabled, and its values are right
pub record FitsNode (r : Rules) (t : List Entry) (x : Entry) : Type 0 where
  pub not_due : is_due r t ≡ false
  pub goes_on : Part (r.tree t) (plain t ++ x ∷ [])
  pub enabled : IsSomeAnd (number_of x) (λ n. is_enabled r t n ≡ true)
  pub values : HasValues r t x

-- an edit: it is due, it is the next, and the verdict is its own
pub record FitsEdit (r : Rules) (t : List Entry) (i : ℕ) (w : Verdict) : Type 0 where
  pub due : is_due r t ≡ true
  pub next_one : i ≡ judged t
  pub verdict : w ≡ r.verdict t i

-- the entry fits t
abbrev pub Fits : Rules → List Entry → Entry → Type 0
Fits r t (Edit i w) = FitsEdit r t i w
Fits r t x = FitsNode r t x
