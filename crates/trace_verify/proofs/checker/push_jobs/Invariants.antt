use Rattle.std.proofs.Common.{◌≡◌, ◌++◌, map, take}
use Rattle.slot_core.specs.Offline.OfflineJobs.{later_job}
use Rattle.trace_verify.proofs.checker.push_jobs.Given as goal

-- the plan's first jobs stand behind those that were there
abbrev pub invariant-loop-i : goal.invariant-loop-i
invariant-loop-i l =
    l.jobs ≡ l.initial.jobs ++ map (later_job l.plan.tasks l.plan.cycle l.n) (take l.i l.plan.jobs)
