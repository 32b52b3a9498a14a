use Rattle.std.proofs.Common.{◌≡◌, ℕ, ◌+◌, ◌<◌, false, get_or}
use Rattle.slot_core.specs.declared.jobs.Job.{Job}
use Rattle.slot_core.specs.Offline.Keys.{same_key}
use Rattle.job_queue.proofs.queue.JobQueue.place_of.Given as goal

abbrev pub invariant-loop-place : goal.invariant-loop-place
invariant-loop-place g l = record {
  passed :
      (k : ℕ) (d : Job) → k < l.place → same_key (get_or l.self.jobs k d).key l.key ≡ false;
  counted : l.steps ≡ l.initial.steps + l.place;
}
