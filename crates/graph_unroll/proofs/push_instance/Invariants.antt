-- What is appended, and the jobs of the tasks that are left, are the jobs of all tasks.
use Rattle.std.proofs.Common.{◌≡◌, ◌++◌, drop, map}
use Rattle.std.specs.List.{enumerate_from}
use Rattle.slot_core.specs.Offline.OfflineJobs.{raw_job}
use Rattle.graph_unroll.proofs.push_instance.Given as goal

abbrev pub invariant-loop-place : goal.invariant-loop-place
invariant-loop-place l =
    l.jobs.items ++ map (raw_job l.index l.graph l.instance) (enumerate_from l.place (drop l.place l.task-items)) ≡ l.initial.jobs.items ++ map (raw_job l.index l.graph l.instance) (enumerate_from 0 l.task-items)
