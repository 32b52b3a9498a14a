-- The lines of the rows so far are written.
use Rattle.std.proofs.Common.{◌≤◌, take}
use Rattle.std.specs.Prelude.{flat_map}
use Rattle.std.specs.Io.KnownBytes.{Appends}
use Rattle.gantt_print.specs.Drawings.{row_line}
use Rattle.gantt_print.proofs.chart.put_rows.Given as goal

abbrev pub invariant-loop-track : goal.invariant-loop-track
invariant-loop-track g l = record {
  text : Appends (g.K.Sink.written l.initial.out) (g.K.Sink.written l.out) (flat_map (row_line l.tasks l.width) (take l.track-index l.tracks));
  counted : g.K.Sink.faults l.initial.out ≤ g.K.Sink.faults l.out;
}
