use Rattle.std.proofs.Common.{◌≡◌, ℕ, ◌-◌, ◌<◌, ◌≤◌, true, get_or, length}
use Rattle.slot_core.specs.declared.jobs.Job.{Job}
use Rattle.slot_core.specs.Offline.Keys.{is_earlier}
use Rattle.job_queue.proofs.queue.place_in_order.Given as goal

abbrev pub invariant-loop-behind : goal.invariant-loop-behind
invariant-loop-behind g l = record {
  behind :
      (i : ℕ) (d : Job) → length l.come - l.behind ≤ i → i < length l.come
      → is_earlier (get_or l.come i d) l.job ≡ true;
  counted : l.initial.steps ≤ l.steps;
}
