use Rattle.std.proofs.Common.{ℕ, ◌≤◌, take}
use Rattle.std.specs.Prelude.{All}
use Rattle.slot_core.specs.declared.jobs.Job.{Job}
use Rattle.demand_test.proofs.windows.latest_of.Given as goal

abbrev pub invariant-loop-job : goal.invariant-loop-job
invariant-loop-job l =
    record {
      among : (m : ℕ) → All (λ (j : Job). j.dl ≤ m) l.jobs → l.latest ≤ m;
      seen : All (λ (j : Job). j.dl ≤ l.latest) (take l.job-index l.jobs);
    }
