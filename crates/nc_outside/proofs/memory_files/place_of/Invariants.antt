use Rattle.std.proofs.Common.{◌≡◌, take, None}
use Rattle.nc_outside.specs.MemoryState.{file_named}
use Rattle.nc_outside.proofs.memory_files.place_of.Given as goal

abbrev pub invariant-loop-i : goal.invariant-loop-i
invariant-loop-i l = file_named (take l.i l.files) l.name ≡ None
