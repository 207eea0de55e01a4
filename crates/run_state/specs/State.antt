-- What a core keeps beside its log, and how each piece moves with one more entry.
use Rattle.std.specs.Prelude.{◌==◌, ◌||◌, if◌then◌else◌, pos, ℕ, ℤ, Bool, true, false, List, [], unwrap_or, slice_get, Option, Some, None, option_map}
use Rattle.std.specs.Option.{option_map_or}
use Rattle.std.specs.Result.{result_ok}
use Rattle.entity_types.specs.declared.entity.Entity.{Entity}
use Rattle.project_store.specs.Entities.{entity_at}
use Rattle.step_def.specs.DefOf.{def_of}
use Rattle.path_blocks.specs.declared.def.Def.{Def}
use Rattle.exec_tree.specs.declared.node.BareNode.{BareNode}
use Rattle.exec_tree.specs.Said.{Said, Assigns, Branches, Repeats}
use Rattle.nc_expr.specs.Value.{value_of, holds}
use Rattle.exec_tree.specs.Built.{TreeValue, said_in}
use Rattle.exec_tree.specs.Walked.{place_from}
use Rattle.run_log.specs.declared.entry.Entry.{Entry}
use Rattle.run_log.specs.declared.entry.Entry.TheVariants.{Dispatch, End, Assign, Set, Pass, Note, Pick, Test}
use Rattle.run_law.specs.Replay.{cut}
use Rattle.run_frames.specs.declared.deed.Deed.{Deed}
use Rattle.run_frames.specs.declared.deed.Deed.TheVariants as deeds
use Rattle.path_blocks.specs.declared.block.Block.{Block as PathBlock}
use Rattle.path_blocks.specs.Path.{path_of}
use Rattle.path_blocks.specs.Place.{start}
use Rattle.run_state.specs.declared.open_steps.OpenStep.{OpenStep}

-- the flag at a place, no where there is none
abbrev pub flag_at : List Bool → ℕ → Bool
flag_at flags place = unwrap_or (slice_get flags place) false

-- the flag of the node with this number
abbrev pub mark_in : List BareNode → List Bool → ℕ → Bool
mark_in nodes flags n = option_map_or (λ place. flag_at flags place) (place_from 0 nodes n) false

-- the open step of a channel
abbrev pub slot_at : List (Option OpenStep) → ℕ → Option OpenStep
slot_at slots channel = unwrap_or (slice_get slots channel) None

-- step n is the open one
abbrev pub is_step_of : Option OpenStep → ℕ → Bool
is_step_of slot n = option_map_or (λ o. o.step == n) slot false

-- workingstep n may go on in a channel with this open step: it is the open one, or there is none
abbrev pub may_cut : Option OpenStep → ℕ → Bool
may_cut None n = true
may_cut (Some o) n = o.step == n

-- the variable that a node assigns
abbrev pub variable_by : Option Said → Option ℕ
variable_by (Some (Assigns variable value)) = Some variable
variable_by _ = None

abbrev pub variable_in : TreeValue → ℕ → Option ℕ
variable_in tree n = variable_by (said_in tree n)

-- the open step of the entry's channel after an entry: the step that is dispatched with this definition, and none after an end
abbrev pub slot_after : Option Def → Entry → Option OpenStep → Option OpenStep
slot_after def (Dispatch n v) slot = option_map (λ d. let o : OpenStep = record { step = n; blocks = start d } in o) def
slot_after def (End n) slot = None
slot_after def _ slot = slot

-- the value that a node assigns by these values of the variables, 0 where it assigns none
abbrev pub value_said : (ℕ → ℤ) → Option Said → ℤ
value_said vars (Some (Assigns variable value)) = value_of vars value
value_said vars _ = pos 0

-- the answer of a node's condition by these values of the variables, no where it has none
abbrev pub answer_said : (ℕ → ℤ) → Option Said → Bool
answer_said vars (Some (Branches condition)) = holds vars condition
answer_said vars (Some (Repeats condition)) = holds vars condition
answer_said vars _ = false

-- the value of variable m after an assignment by a node that names this variable
abbrev pub set_by : Option ℕ → ℤ → Option ℤ → ℕ → Option ℤ
set_by None x so_far m = so_far
set_by (Some v) x so_far m = if v == m then Some x else so_far

-- the value of variable m after an entry of the tree
abbrev pub var_after : TreeValue → Entry → Option ℤ → ℕ → Option ℤ
var_after tree (Assign n x) so_far m = set_by (variable_in tree n) x so_far m
var_after tree _ so_far m = so_far

-- the place is that of the node with this number
abbrev pub is_place_of : List BareNode → ℕ → ℕ → Bool
is_place_of nodes place n = option_map_or (λ p. p == place) (place_from 0 nodes n) false

-- whether the mark at a place is set after the mark of one more node, where there is one
abbrev pub flag_after : List BareNode → Option ℕ → Bool → ℕ → Bool
flag_after nodes set flag place = option_map_or (is_place_of nodes place) set false || flag

-- the path of a slot's step
abbrev pub path_in : Option OpenStep → List PathBlock
path_in slot = option_map_or (λ o. path_of o.blocks.def) slot []

-- the entry of node n, of this channel and with what it says, by what it does next and what is kept, a dispatch at this version
abbrev pub entry_by : ℕ → Option Said → List (Option OpenStep) → (ℕ → ℤ) → ℕ → ℕ → Deed → Entry
entry_by channel said slots vars version n deeds.Starts = Dispatch n version
entry_by channel said slots vars version n (deeds.Cuts k) = cut n k (slice_get (path_in (slot_at slots channel)) k)
entry_by channel said slots vars version n deeds.Assigns = Assign n (value_said vars said)
entry_by channel said slots vars version n deeds.Sets = Set n
entry_by channel said slots vars version n deeds.Passes = Pass n
entry_by channel said slots vars version n deeds.Notes = Note n
entry_by channel said slots vars version n (deeds.Picks count next) = Pick n next
entry_by channel said slots vars version n deeds.Tests = Test n (answer_said vars said)

-- the definition for what node n does next: of a step that starts its own in this store
abbrev pub def_by : List Entity → ℕ → Deed → Option Def
def_by store n deeds.Starts = result_ok (def_of (entity_at store) n)
def_by store n _ = None

-- a step is dispatched by what it does next
abbrev pub starts_by : Deed → Bool
starts_by deeds.Starts = true
starts_by _ = false
