use Rattle.std.proofs.Common.{◌≤◌, ◌++◌, [], take}
use Rattle.std.specs.List.{flat_map}
use Rattle.nc_outside.specs.Outside.{Appends}
use Rattle.run_log.specs.BlocksText.{block_line}
use Rattle.run_log.proofs.writing.put_blocks.Given as goal

abbrev pub invariant-loop-block : goal.invariant-loop-block
invariant-loop-block g l = record {
  counted : g.S.Sink.faults l.fn.sink ≤ g.S.Sink.faults l.sink;
  taken : Appends (g.S.Sink.taken l.fn.sink) (g.S.Sink.taken l.sink) ([] ++ flat_map block_line (take l.block-index l.blocks));
}
