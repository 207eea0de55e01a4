-- A script of edits as the rules of a run see it: which entries are verdicts on its edits, and the store after a run so far. An edit tells from how
-- many entries on it is due, and the items that it puts.
use Rattle.std.specs.Prelude.{List, map}
use Rattle.entity_types.specs.declared.entity.Entity.{Entity}
pub use Rattle.entity_types.specs.declared.edit.Edit.{Edit}
use Rattle.run_log.specs.declared.entry.Entry.{Entry}
use Rattle.run_log.specs.declared.entry.Entry.TheVariants as entries
use Rattle.project_versions.specs.Versions.{Event, Judged, Other, store_by, store_from}

-- an entry as edits see it
abbrev pub event_of : Entry → Event
event_of (entries.Edit i verdict) = Judged i verdict
event_of _ = Other

-- entries as edits see them
abbrev pub events_of : List Entry → List Event
events_of t = map event_of t

-- the store after one more entry: an edit that it accepts is put
abbrev pub store_with : List Edit → List Entity → Entry → List Entity
store_with script store x = store_by script store (event_of x)

-- the store after these entries: the edits that they accept are put in order
abbrev pub store_after : List Edit → List Entity → List Entry → List Entity
store_after script store t = store_from script store (events_of t)

-- the store that the tree and its expressions are read off after one more entry: the opening one, since no edit that is accepted puts what they are
-- made of
abbrev pub plan_with : List Edit → List Entity → Entry → List Entity
plan_with script store x = store

-- the store that they are read off after these entries
abbrev pub plan_after : List Edit → List Entity → List Entry → List Entity
plan_after script store t = store
