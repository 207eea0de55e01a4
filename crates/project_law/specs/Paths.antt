-- The path that a workingstep was dispatched with.
use Rattle.std.specs.Prelude.{ℕ, ◌==◌, if◌then◌else◌, List, [], ◌∷◌, Option}
use Rattle.std.specs.Option.{option_map_or}
use Rattle.std.specs.Result.{result_ok}
use Rattle.entity_types.specs.declared.entity.Entity.{Entity}
use Rattle.project_store.specs.Entities.{entity_at}
use Rattle.path_blocks.specs.declared.block.Block.{Block}
use Rattle.path_blocks.specs.Path.{path_of}
use Rattle.step_def.specs.DefOf.{def_of}
use Rattle.run_log.specs.declared.entry.Entry.{Entry}
use Rattle.run_log.specs.declared.entry.Entry.TheVariants.{Dispatch}
use Rattle.project_law.specs.Script.{Edit, store_with}

-- the blocks of a workingstep: the path of its definition
abbrev pub blocks_in : (ℕ → Option Entity) → ℕ → List Block
blocks_in entities n = option_map_or path_of (result_ok (def_of entities n)) []

-- the path of n after one more entry: a dispatch of n freezes the one that its definition has in the store
abbrev pub frozen_with : List Entity → ℕ → List Block → Entry → List Block
frozen_with store n so_far (Dispatch m v) = if m == n then blocks_in (entity_at store) n else so_far
frozen_with store n so_far _ = so_far

-- the path of n after these entries, each dispatch with the store before it
abbrev pub frozen_from : List Edit → List Entity → ℕ → List Block → List Entry → List Block
frozen_from script store n so_far [] = so_far
frozen_from script store n so_far (x ∷ t) = frozen_from script (store_with script store x) n (frozen_with store n so_far x) t

-- the path of n's definition as it stood at the last dispatch of n, and no blocks where it wasn't dispatched
abbrev pub frozen_after : List Edit → List Entity → List Entry → ℕ → List Block
frozen_after script store t n = frozen_from script store n [] t
