-- The lines so far are written.
use Rattle.std.proofs.Common.{◌≤◌, take}
use Rattle.std.specs.Prelude.{flat_map}
use Rattle.std.specs.Io.KnownBytes.{Appends}
use Rattle.future_check.specs.Explanations.{arrival_line}
use Rattle.future_check.proofs.lines.put_arrivals.Given as goal

abbrev pub invariant-loop-arrival : goal.invariant-loop-arrival
invariant-loop-arrival g l = record {
  text :
      Appends
      (g.K.Sink.written l.initial.out)
      (g.K.Sink.written l.out)
      (flat_map (arrival_line l.tasks) (take l.arrival-index l.arrivals));
  counted : g.K.Sink.faults l.initial.out ≤ g.K.Sink.faults l.out;
}
