-- How long a run without loops can be.
use Rattle.std.specs.Prelude.{◌<◌, ℕ, ◌+◌, ◌*◌, Bool, true, nat_lt, length}
use Rattle.path_blocks.specs.declared.limits.TheConstants.{MAX_BLOCKS}
use Rattle.exec_tree.specs.Exec.{Exec, Work, Leaf, Plan, Par, NonSeq, Sel, If, While, Execs, None_left, Then, nodes, works}
use Rattle.run_log.specs.declared.entry.Entry.{Entry}
use Rattle.run_log.specs.declared.entry.Entry.TheVariants.{Block}

abbrev mutual
  -- no while lies in the executable
  pub HasNoLoop : Exec → Type 0
  HasNoLoop (Work n) = Unit {0}
  HasNoLoop (Leaf n k) = Unit {0}
  HasNoLoop (Plan n es) = HaveNoLoop es
  HasNoLoop (Par n es) = HaveNoLoop es
  HasNoLoop (NonSeq n es) = HaveNoLoop es
  HasNoLoop (Sel n es) = HaveNoLoop es
  HasNoLoop (If n a b) = HasNoLoop a × HasNoLoop b
  HasNoLoop (While n a) = ⊥

  -- nor in any of these
  pub HaveNoLoop : Execs → Type 0
  HaveNoLoop None_left = Unit {0}
  HaveNoLoop (Then e es) = HasNoLoop e × HaveNoLoop es

-- each of these executables has a node with a number
abbrev pub AreNumbered : Execs → Type 0
AreNumbered None_left = Unit {0}
AreNumbered (Then e es) = (0 < length (nodes e)) × AreNumbered es

abbrev mutual
  -- each element of a non-sequential has a node with a number
  pub HasNumbers : Exec → Type 0
  HasNumbers (Work n) = Unit {0}
  HasNumbers (Leaf n k) = Unit {0}
  HasNumbers (Plan n es) = HaveNumbers es
  HasNumbers (Par n es) = HaveNumbers es
  HasNumbers (NonSeq n es) = AreNumbered es × HaveNumbers es
  HasNumbers (Sel n es) = HaveNumbers es
  HasNumbers (If n a b) = HasNumbers a × HasNumbers b
  HasNumbers (While n a) = HasNumbers a

  -- and so in each of these
  pub HaveNumbers : Execs → Type 0
  HaveNumbers None_left = Unit {0}
  HaveNumbers (Then e es) = HasNumbers e × HaveNumbers es

-- a block of an entry is one of those that a path may have
abbrev pub is_within : Entry → Bool
is_within (Block n k b) = nat_lt k MAX_BLOCKS
is_within _ = true

-- how many entries come of so many nodes, of which so many are workingsteps, where none runs twice: three a node, and for each workingstep a
-- dispatch, the blocks of the longest path, and an end
abbrev pub most_of : ℕ → ℕ → ℕ
most_of nodes works = 3 * nodes + (MAX_BLOCKS + 2) * works

-- how many entries come of an executable without loops
abbrev pub most_entries : Exec → ℕ
most_entries e = most_of (length (nodes e)) (length (works e))
