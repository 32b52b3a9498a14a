-- What changes over the lines so far is written.
use Rattle.std.proofs.Common.{◌≡◌, ◌≤◌, take}
use Rattle.std.specs.Io.KnownBytes.{Appends}
use Rattle.view_waves.specs.Steps.{wave_along}
use Rattle.view_waves.specs.WaveTexts.{steps_text}
use Rattle.view_waves.proofs.put.put_steps.Given as goal

abbrev pub invariant-loop-line : goal.invariant-loop-line
invariant-loop-line g l = record {
  text : Appends (g.K.Sink.written l.initial.out) (g.K.Sink.written l.out) (steps_text l.rows l.fn.first (take l.line-index l.lines));
  wave : l.wave ≡ wave_along l.rows l.fn.first (take l.line-index l.lines);
  counted : g.K.Sink.faults l.initial.out ≤ g.K.Sink.faults l.out;
}
