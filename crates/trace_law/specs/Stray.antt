-- The first entry with which a list is no run so far of a tree any more.
use Rattle.std.specs.Prelude.{◌≡◌, ℕ, Bool, false, ◌==◌, nat_lt, ◌&&◌, not, is_some, if◌then◌else◌, List, [], ◌∷◌, ◌++◌, Option, Some, None}
use Rattle.std.specs.Option.{option_map_or}
use Rattle.exec_tree.specs.Exec.{LeafKind, Assigning, Setting, Waiting, Noting, Exec, has}
use Rattle.trace_law.specs.Of.{number_of}
use Rattle.trace_law.specs.Part.{Part}
use Rattle.trace_law.specs.Next.{next}
use Rattle.trace_law.specs.Own.{pick_of, test_of}
use Rattle.trace_law.specs.Offer.{Offer, Starts, Cuts, Does, Picks, Tests, offer}
use Rattle.run_log.specs.declared.entry.Entry.{Entry}
use Rattle.run_log.specs.declared.entry.Entry.TheVariants.{Dispatch, Block, End, Assign, Set, Pass, Note}

-- the entry is what a leaf of this kind does
abbrev pub is_of_leaf : LeafKind → ℕ → Entry → Bool
is_of_leaf Assigning n (Assign m x) = m == n
is_of_leaf Setting n (Set m) = m == n
is_of_leaf Waiting n (Pass m) = m == n
is_of_leaf Noting n (Note m) = m == n
is_of_leaf _ n x = false

-- the entry is one of what node n does next
abbrev pub is_offered : Offer → ℕ → Entry → Bool
is_offered Starts n (Dispatch m v) = m == n
is_offered (Cuts k) n (Block m j b) = (m == n) && (j == k)
is_offered (Cuts k) n (End m) = m == n
is_offered (Does k) n x = is_of_leaf k n x
is_offered (Picks count ks) n x = option_map_or (λ k. nat_lt k count && not (has ks k)) (pick_of n x) false
is_offered Tests n x = is_some (test_of n x)
is_offered _ n x = false

-- an edit never may, and an entry of node n may where the run can go on there and n does just that
abbrev pub may_follow_by : Exec → List Entry → Entry → Option ℕ → Bool
may_follow_by e t x None = false
may_follow_by e t x (Some n) = has (next e t) n && is_offered (offer e t n) n x

-- after t the run can go on at the entry's node, and the entry is what the node does next
abbrev pub may_follow : Exec → List Entry → Entry → Bool
may_follow e t x = may_follow_by e t x (number_of x)

-- of the entries that come after `before`, the first that may not follow those before it
abbrev pub first_stray : Exec → List Entry → List Entry → Option Entry
first_stray e before [] = None
first_stray e before (x ∷ rest) = if may_follow e before x then first_stray e (before ++ x ∷ []) rest else Some x

-- x is the first entry of t such that the entries up to it, itself included, are no run so far of e
pub record IsFirstStray (e : Exec) (t : List Entry) (x : Entry) : Type 0 where
  pub before : List Entry
  pub after : List Entry
  pub split : t ≡ before ++ x ∷ after
  pub part : Part e before
  pub no_part : Part e (before ++ x ∷ []) → ⊥
