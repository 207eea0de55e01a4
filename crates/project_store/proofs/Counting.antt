-- Counting projects from left to right.
use Rattle.std.proofs.Common.{Bool, true, false, List, [], ◌∷◌}
use Rattle.std.specs.Prelude.{Option, Some, None}
use Rattle.entity_types.specs.declared.entity.Entity.{Entity}
use Rattle.project_store.specs.declared.error.StoreErr.{StoreErr}
use Rattle.project_store.specs.declared.error.StoreErr.TheVariants.{ManyProjects}
use Rattle.project_store.specs.Build.{count_fault}

-- the fault of the projects that are left, where one was seen or not
abbrev pub fault_after : Bool → List Entity → Option StoreErr
fault_after false projects = count_fault projects
fault_after true [] = None
fault_after true (second ∷ others) = Some (ManyProjects second.number)
