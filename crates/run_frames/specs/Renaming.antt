-- Other numbers for the nodes of a tree and for those of a log.
use Rattle.std.specs.Prelude.{◌≡◌, ℕ, option_map}
use Rattle.exec_tree.specs.Exec.{Exec, Work, Leaf, Plan, Par, NonSeq, Sel, If, While, Execs, None_left, Then}
use Rattle.run_log.specs.declared.entry.Entry.{Entry}
use Rattle.run_log.specs.declared.entry.Entry.TheVariants.{Dispatch, Block, End, Pick, Test, Assign, Set, Pass, Note, Edit}

-- no two numbers become one
abbrev pub IsOneToOne : (ℕ → ℕ) → Type 0
IsOneToOne r = (a b : ℕ) → r a ≡ r b → a ≡ b

-- an executable under other numbers
abbrev mutual
  pub renamed : (ℕ → ℕ) → Exec → Exec
  renamed r (Work n) = Work (r n)
  renamed r (Leaf n k) = Leaf (r n) k
  renamed r (Plan n es) = Plan (option_map r n) (renamed_all r es)
  renamed r (Par n es) = Par (r n) (renamed_all r es)
  renamed r (NonSeq n es) = NonSeq (r n) (renamed_all r es)
  renamed r (Sel n es) = Sel (r n) (renamed_all r es)
  renamed r (If n a b) = If (r n) (renamed r a) (renamed r b)
  renamed r (While n a) = While (r n) (renamed r a)

  pub renamed_all : (ℕ → ℕ) → Execs → Execs
  renamed_all r None_left = None_left
  renamed_all r (Then e es) = Then (renamed r e) (renamed_all r es)

-- an entry under other numbers
abbrev pub entry_renamed : (ℕ → ℕ) → Entry → Entry
entry_renamed r (Dispatch n v) = Dispatch (r n) v
entry_renamed r (Block n k b) = Block (r n) k b
entry_renamed r (End n) = End (r n)
entry_renamed r (Pick n k) = Pick (r n) k
entry_renamed r (Test n b) = Test (r n) b
entry_renamed r (Assign n x) = Assign (r n) x
entry_renamed r (Set n) = Set (r n)
entry_renamed r (Pass n) = Pass (r n)
entry_renamed r (Note n) = Note (r n)
entry_renamed r (Edit i v) = Edit i v

-- an entry as one of node n
abbrev pub entry_at : ℕ → Entry → Entry
entry_at n x = entry_renamed (λ m. n) x
