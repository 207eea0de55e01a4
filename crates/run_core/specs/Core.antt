-- What a core keeps.
use Rattle.std.specs.Prelude.{◌≡◌, ◌<◌, ◌≤◌, ℕ, List, [], length, vec_capacity}
use Rattle.std.specs.Global.{Vec}
use Rattle.std.specs.List.{All}
use Rattle.entity_types.specs.declared.entity.Entity.{Entity}
use Rattle.entity_types.specs.declared.edit.Edit.{Edit}
use Rattle.run_log.specs.declared.entry.Entry.{Entry}
use Rattle.run_log.specs.declared.entry.TheConstants.{MAX_ENTRIES}
use Rattle.run_log.specs.declared.entry.Entry.TheVariants.{Dispatch}
use Rattle.run_core.specs.declared.free.PathUse.{PathUse}
use Rattle.run_core.specs.declared.free.PathUse.TheVariants.{NotADispatch, Own}
use Rattle.run_state.specs.Kept.{State}

-- a run as a core holds it
pub record Run : Type 0 where
  pub project : List Entity
  pub script : List Edit
  pub limit : ℕ
  pub log : List Entry
  pub actors : List ℕ

-- the limit is in its range and isn't passed, each entry has its actor, there is room for all entries and actors, and no log is followed
pub record IsKept (state : State) (limit : ℕ) (actors : Vec ℕ) : Type 0 where
  pub least : 1 ≤ limit
  pub most : limit ≤ MAX_ENTRIES
  pub short : length state.list ≤ limit
  pub one_each : length actors.items ≡ length state.list
  pub few_actors : All (λ (a : ℕ). a < 16) actors.items
  pub for_entries : limit ≤ state.room
  pub alone : state.coming ≡ []
  pub for_actors : limit ≤ vec_capacity actors

-- the path that a dispatch goes by
abbrev pub path_use : Entry → PathUse
path_use (Dispatch n v) = Own
path_use _ = NotADispatch
