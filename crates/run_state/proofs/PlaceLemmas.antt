-- What stands at the place of a number.
use Rattle.std.specs.Prelude.{◌≡◌, ◌==◌, ◌||◌, ◌<◌, ℕ, Bool, false, List, length, slice_get, unwrap_or, Option, Some, None, IfSome}
use Rattle.std.specs.Option.{option_map_or}
use Rattle.std.proofs.Common.{sym, ap, subst, ◌∙◌}
use Rattle.std.proofs.lemmas.Option.{slice_get_within}
use Rattle.exec_tree.specs.Arena.{number_or_zero}
use Rattle.exec_tree.specs.Walked.{place_from}
use Rattle.exec_tree.specs.Said.{Said}
use Rattle.exec_tree.specs.Built.{TreeValue, channel_in, said_in}
use Rattle.exec_tree.specs.declared.node.BareNode.{BareNode}
use Rattle.tree_table.specs.Placed.{number_at}
use Rattle.trace_law.specs.Of.{number_of}
use Rattle.trace_law.specs.State.{marked}
use Rattle.run_log.specs.declared.entry.Entry.{Entry}
use Rattle.run_log.specs.declared.entry.Entry.TheVariants.{Dispatch, Block, End, Pick, Test, Assign, Set, Pass, Note, Edit}
use Rattle.run_state.specs.State.{flag_at, flag_after, mark_in}

-- what the law of places says of one place
abbrev pub StandsThere : List BareNode → ℕ → ℕ → Type 0
StandsThere nodes n place = (node : BareNode) × (slice_get nodes place ≡ Some node) × (node.number ≡ Some n)

pub number_there : (nodes : List BareNode) (n place : ℕ) → StandsThere nodes n place → number_at nodes place ≡ n
number_there nodes n place s = ap (λ (o : Option BareNode). option_map_or (λ node. number_or_zero node.number) o 0) s.1 ∙ ap number_or_zero s.2

-- a node's number as the code reads it
pub number_read : (nodes : List BareNode) (n place : ℕ) (node : BareNode) → StandsThere nodes n place → slice_get nodes place ≡ Some node → unwrap_or node.number 0 ≡ n
number_read nodes n place node s e =
    let f : Some node ≡ Some s.0 = sym e ∙ s.1 in
    let g : node ≡ s.0 = cc in
    ap (λ (m : BareNode). unwrap_or m.number 0) g ∙ ap (λ (o : Option ℕ). unwrap_or o 0) s.2

pub within : (nodes : List BareNode) (n place : ℕ) → StandsThere nodes n place → place < length nodes
within nodes n place s = slice_get_within nodes place s.0 s.1

pub channel_there : (nodes : List BareNode) (n place : ℕ) (node : BareNode) → place_from 0 nodes n ≡ Some place → slice_get nodes place ≡ Some node → channel_in nodes n ≡ node.channel
channel_there nodes n place node f e =
    ap (λ (o : Option ℕ). option_map_or (λ m. m.channel) (option_map_or (λ p. slice_get nodes p) o None) 0) f
    ∙ ap (λ (o : Option BareNode). option_map_or (λ m. m.channel) o 0) e

pub said_there : (tree : TreeValue) (n place : ℕ) (said : Option Said) → place_from 0 tree.nodes n ≡ Some place → slice_get tree.said place ≡ said → said_in tree n ≡ said
said_there tree n place said f e = ap (λ (o : Option ℕ). option_map_or (λ p. slice_get tree.said p) o None) f ∙ e

-- the mark of an entry's node is looked up at its place
pub flag_there : (nodes : List BareNode) (flags : List Bool) (n place : ℕ) → place_from 0 nodes n ≡ Some place → mark_in nodes flags n ≡ flag_at flags place
flag_there nodes flags n place f = ap (λ (o : Option ℕ). option_map_or (λ p. flag_at flags p) o false) f

pub flag_put : (nodes : List BareNode) (set : Option ℕ) (n place q : ℕ) (flag : Bool) → set ≡ Some n → place_from 0 nodes n ≡ Some place → (place == q || flag) ≡ flag_after nodes set flag q
flag_put nodes set n place q flag e f =
    sym (ap (λ (o : Option ℕ). flag_after nodes o flag q) e ∙ ap (λ (o : Option ℕ). option_map_or (λ p. p == q) o false || flag) f)

-- the number that a mark tells is the entry's own
pub marked_place : (nodes : List BareNode) (x : Entry) (place : ℕ) → IfSome (number_of x) (λ n. place_from 0 nodes n ≡ Some place) → IfSome (marked x) (λ n. place_from 0 nodes n ≡ Some place)
marked_place nodes (Set m) place h = h
marked_place nodes (Dispatch m v) place h = tt
marked_place nodes (Block m k b) place h = tt
marked_place nodes (End m) place h = tt
marked_place nodes (Pick m k) place h = tt
marked_place nodes (Test m b) place h = tt
marked_place nodes (Assign m y) place h = tt
marked_place nodes (Pass m) place h = tt
marked_place nodes (Note m) place h = tt
marked_place nodes (Edit i w) place h = tt

pub of_number : (P : ℕ → Type 0) (o : Option ℕ) (n : ℕ) → o ≡ Some n → IfSome o P → P n
of_number P o n e h = subst (λ (z : Option ℕ). IfSome z P) e h

pub for_number : (P : ℕ → Type 0) (o : Option ℕ) (n : ℕ) → o ≡ Some n → P n → IfSome o P
for_number P o n e h = subst (λ (z : Option ℕ). IfSome z P) (sym e) h
