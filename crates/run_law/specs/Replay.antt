-- The run under a schedule.
use Rattle.std.specs.Prelude.{◌≡◌, ℕ, zero, suc, ◌+◌, Bool, true, false, ◌==◌, nat_le, ◌&&◌, ◌||◌, is_none, List, [], ◌∷◌, ◌++◌, length, slice_get, find, Option, Some, None, if◌then◌else◌}
use Rattle.std.specs.Option.{option_map, option_to_list}
use Rattle.std.specs.List.{list_all}
use Rattle.exec_tree.specs.Exec.{Assigning, Setting, Waiting, Noting, has}
use Rattle.trace_law.specs.Offer.{Offer, Starts, Cuts, Does, Picks, Tests, Nothing, offer}
use Rattle.run_log.specs.declared.entry.Entry.{Entry}
use Rattle.run_log.specs.declared.entry.Entry.TheVariants.{Dispatch, Block, End, Pick, Test, Assign, Set, Pass, Note, Edit}
use Rattle.run_law.specs.Rules.{Rules}
use Rattle.run_law.specs.Fits.{plain, judged, next_of, is_enabled, is_due}
use Rattle.run_law.specs.Endings.{waits}
use Rattle.run_law.specs.Legal.{Legal}
use Rattle.path_blocks.specs.declared.block.Block.{Block as PathBlock}

-- the least number from k on that isn't among these, looking at most so many times
abbrev pub least_from : ℕ → ℕ → List ℕ → ℕ
least_from zero k ks = k
least_from (suc looks) k ks = if has ks k then least_from looks (k + 1) ks else k

-- the least index not yet picked
abbrev pub least_left : ℕ → List ℕ → ℕ
least_left count ks = least_from count 0 ks

-- the next block, or the end where there is none
abbrev pub cut : ℕ → ℕ → Option PathBlock → Entry
cut n k None = End n
cut n k (Some b) = Block n k b

-- the entry of node n, by what it does next
abbrev pub made_by : Rules → List Entry → ℕ → Offer → Entry
made_by r t n Starts = Dispatch n (r.version t n)
made_by r t n (Cuts k) = cut n k (slice_get (r.path t n) k)
made_by r t n (Does Assigning) = Assign n (r.value t n)
made_by r t n (Does Setting) = Set n
made_by r t n (Does Waiting) = Pass n
made_by r t n (Does Noting) = Note n
made_by r t n (Picks count ks) = Pick n (least_left count ks)
made_by r t n Tests = Test n (r.answer t n)
made_by r t n Nothing = Note n

-- the entry that node n makes next
abbrev pub made : Rules → List Entry → ℕ → Entry
made r t n = made_by r t n (offer (r.tree t) (plain t) n)

-- the first enabled node of a channel
abbrev pub ready : Rules → List Entry → ℕ → Option ℕ
ready r t c = find (λ n. (r.channel t n == c) && is_enabled r t n) (next_of r t)

-- the run has ended: every edit is judged and nothing but waits for unset marks can go on, if anything, or it has all its entries
abbrev pub has_ended : Rules → ℕ → List Entry → Bool
has_ended r limit t = (is_none (slice_get r.edits (judged t)) && list_all (waits r t) (next_of r t)) || nat_le limit (length t)

-- the entry that a turn of a channel appends
abbrev pub turn_by : Rules → List Entry → ℕ → Bool → Bool → Option Entry
turn_by r t c true due = None
turn_by r t c false true = Some (Edit (judged t) (r.verdict t (judged t)))
turn_by r t c false false = option_map (made r t) (ready r t c)

-- the entry of a turn of channel c, where it makes one
abbrev pub turn : Rules → ℕ → List Entry → ℕ → Option Entry
turn r limit t c = turn_by r t c (has_ended r limit t) (is_due r t)

-- turns of these channels, in order
abbrev pub turns_of : Rules → ℕ → List Entry → List ℕ → List Entry
turns_of r limit t [] = t
turns_of r limit t (c ∷ cs) = turns_of r limit (t ++ option_to_list (turn r limit t c)) cs

-- so many rounds of all channels
abbrev pub rounds : Rules → ℕ → List ℕ → ℕ → List Entry → List Entry
rounds r limit channels zero t = t
rounds r limit channels (suc k) t = rounds r limit channels k (turns_of r limit t channels)

-- the run under a schedule of channels: turns as scheduled, and then rounds to its end
abbrev pub replay : Rules → List ℕ → List ℕ → ℕ → List Entry
replay r channels schedule limit = rounds r limit channels limit (turns_of r limit [] schedule)

-- each node where the run can go on is of one of the channels
abbrev pub AreChannels : Rules → List ℕ → Type 0
AreChannels r channels = (t : List Entry) (n : ℕ) → Legal r t → has (next_of r t) n ≡ true → has channels (r.channel t n) ≡ true
