-- What a core keeps, in terms of the entries so far.
use Rattle.std.specs.Prelude.{◌≡◌, ℕ, ℤ, Bool, true, List, length, Option, Some, IsSome, IsSomeAnd, IfSome, Ok}
use Rattle.entity_types.specs.declared.entity.Entity.{Entity}
use Rattle.entity_types.specs.declared.edit.Edit.{Edit}
use Rattle.project_store.specs.Entities.{entity_at}
use Rattle.step_def.specs.DefOf.{def_of}
use Rattle.path_blocks.specs.declared.def.Def.{Def}
use Rattle.path_blocks.specs.Path.{path_of}
use Rattle.nc_expr.specs.Vars.{value_at, value_of_variable}
use Rattle.exec_tree.specs.Exec.{has, works}
use Rattle.exec_tree.specs.Built.{TreeValue, IsTreeOf, main_of}
use Rattle.exec_tree.specs.declared.node.BareNode.{BareNode}
use Rattle.trace_law.specs.State.{is_open, marks}
use Rattle.run_log.specs.declared.entry.Entry.{Entry}
use Rattle.run_log.specs.declared.entry.Entry.TheVariants.{Dispatch}
use Rattle.run_law.specs.Rules.{Rules}
use Rattle.run_law.specs.Fits.{plain}
use Rattle.run_frames.specs.declared.frames.Frames.{Frames}
use Rattle.run_frames.specs.Standing.{IsAt}
use Rattle.run_frames.specs.Ready.{IsSorted}
use Rattle.project_law.specs.Variables.{vars_after}
use Rattle.project_law.specs.ProjectRules.{rules_of}
use Rattle.project_law.specs.Legal.{Legal}
use Rattle.run_state.specs.declared.open_steps.OpenStep.{OpenStep}
use Rattle.run_state.specs.State.{mark_in, slot_at, is_step_of, variable_in}

-- the state of a run: its project, its script, the nodes of its tree, the entries so far, those that it is still to follow, and how many there is
-- room for
pub record State : Type 0 where
  pub project : List Entity
  pub script : List Edit
  pub nodes : List BareNode
  pub list : List Entry
  pub coming : List Entry
  pub room : ℕ

-- the open step of channel c: it is a step of the tree and of that channel, and its path is the one that it was dispatched with
pub record IsOpenStep (r : Rules) (t : List Entry) (c : ℕ) (o : OpenStep) : Type 0 where
  pub channel : r.channel t o.step ≡ c
  pub among : has (works (r.tree t)) o.step ≡ true
  pub path : r.path t o.step ≡ path_of o.blocks.def

-- the slots have the open steps, each at its channel
pub record AreOpen (r : Rules) (t : List Entry) (slots : List (Option OpenStep)) : Type 0 where
  pub opens : (n : ℕ) → is_open n t ≡ is_step_of (slot_at slots (r.channel t n)) n
  pub each : (c : ℕ) → IfSome (slot_at slots c) (λ o. IsOpenStep r t c o)

-- the list is a legal run of the project and the script, and what is kept beside it of the tree's run is what it tells
pub record IsState (project : List Entity) (script : List Edit) (tree : TreeValue) (frames : Frames) (t : List Entry) (flags : List Bool) (vars : List (ℕ × ℤ)) (slots : List (Option OpenStep)) : Type 0 where
  pub tree_is : IsTreeOf (entity_at project) (main_of project) tree
  pub at : IsAt tree.nodes frames (plain t)
  pub sorted : IsSorted tree frames (plain t) (marks t)
  pub legal : Legal project script t
  pub flags_fit : length flags ≡ length tree.nodes
  pub marks_are : (n : ℕ) → mark_in tree.nodes flags n ≡ has (marks t) n
  pub vars_are : (v : ℕ) → value_at vars v ≡ vars_after script project t v
  pub vars_there : (n v : ℕ) → variable_in tree n ≡ Some v → IsSome (value_of_variable vars v)
  pub steps_are : AreOpen (rules_of project script) t slots

-- the definition with which an entry dispatches a step is the step's own in this store
abbrev pub IsDefined : List Entity → Entry → Option Def → Type 0
IsDefined store x def = (n v : ℕ) → x ≡ Dispatch n v → IsSomeAnd def (λ d. def_of (entity_at store) n ≡ Ok d)
