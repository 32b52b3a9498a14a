-- The wires so far are written.
use Rattle.std.proofs.Common.{◌≤◌, take}
use Rattle.std.specs.Prelude.{flat_map}
use Rattle.std.specs.List.{enumerate_from}
use Rattle.std.specs.Io.KnownBytes.{Appends}
use Rattle.view_waves.specs.WaveTexts.{row_text}
use Rattle.view_waves.proofs.head.put_row_wires.Given as goal

abbrev pub invariant-loop-wire : goal.invariant-loop-wire
invariant-loop-wire g l = record {
  text : Appends (g.K.Sink.written l.initial.out) (g.K.Sink.written l.out) (flat_map row_text (take l.wire (enumerate_from 0 l.rows)));
  counted : g.K.Sink.faults l.initial.out ≤ g.K.Sink.faults l.out;
}
