-- The values of the wires so far are written.
use Rattle.std.proofs.Common.{◌≤◌, ◌==◌, take}
use Rattle.std.specs.Prelude.{flat_map}
use Rattle.std.specs.List.{range_with_len}
use Rattle.std.specs.Io.KnownBytes.{Appends}
use Rattle.view_waves.specs.WaveTexts.{level_text}
use Rattle.view_waves.proofs.head.put_levels.Given as goal

abbrev pub invariant-loop-wire : goal.invariant-loop-wire
invariant-loop-wire g l = record {
  text : Appends (g.K.Sink.written l.initial.out) (g.K.Sink.written l.out) (flat_map (λ wire. level_text wire (wire == l.on)) (take l.wire (range_with_len 0 l.wires)));
  counted : g.K.Sink.faults l.initial.out ≤ g.K.Sink.faults l.out;
}
