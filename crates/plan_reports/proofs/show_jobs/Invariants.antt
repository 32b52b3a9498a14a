-- The lines of the jobs so far are written.
use Rattle.std.proofs.Common.{◌≤◌, take}
use Rattle.std.specs.Prelude.{flat_map}
use Rattle.std.specs.Io.KnownBytes.{Appends}
use Rattle.slot_core.specs.Output.Reports.{job_line}
use Rattle.plan_reports.proofs.show_jobs.Given as goal

abbrev pub invariant-loop-job : goal.invariant-loop-job
invariant-loop-job g l = record {
  text : Appends (g.K.Sink.written l.initial.out) (g.K.Sink.written l.out) (flat_map (job_line l.tasks) (take l.job-index l.jobs));
  counted : g.K.Sink.faults l.initial.out ≤ g.K.Sink.faults l.out;
}
