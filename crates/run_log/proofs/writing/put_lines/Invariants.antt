use Rattle.std.proofs.Common.{◌≤◌, ◌++◌, [], take}
use Rattle.run_log.specs.LinesFrom.{lines_from}
use Rattle.nc_outside.specs.Outside.{Appends}
use Rattle.run_log.specs.LogText.{first_line, line_after}
use Rattle.run_log.proofs.writing.put_lines.Given as goal

abbrev pub invariant-loop-entry : goal.invariant-loop-entry
invariant-loop-entry g l = record {
  counted : g.S.Sink.faults l.fn.sink ≤ g.S.Sink.faults l.sink;
  taken : Appends (g.S.Sink.taken l.fn.sink) (g.S.Sink.taken l.sink) (first_line ++ lines_from line_after [] (take l.entry-index l.log));
}
