-- The lines so far are put.
use Rattle.std.proofs.Common.{◌≤◌, take}
use Rattle.std.specs.Prelude.{flat_map}
use Rattle.std.specs.Io.KnownBytes.{Appends}
use Rattle.live_run.specs.Carried.{carried_line}
use Rattle.live_run.proofs.carried.put_each.Given as goal

abbrev pub invariant-loop-job : goal.invariant-loop-job
invariant-loop-job g l = record {
  put :
      Appends
      (g.K.Sink.written l.initial.out)
      (g.K.Sink.written l.out)
      (flat_map (carried_line l.tasks l.now) (take l.job-index l.jobs));
  counted : g.K.Sink.faults l.initial.out ≤ g.K.Sink.faults l.out;
}
