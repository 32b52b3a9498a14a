use Rattle.std.proofs.Common.{◌≡◌, ℕ, ◌-◌, ◌<◌, ◌≤◌, true, false, get_or, length}
use Rattle.slot_core.specs.declared.jobs.Job.{Job}
use Rattle.slot_core.specs.Offline.Keys.{is_earlier}
use Rattle.job_queue.proofs.queue.place_before.Given as goal

abbrev pub invariant-loop-low : goal.invariant-loop-low
invariant-loop-low g l = record {
  low_within : l.low ≤ l.high;
  high_within : l.high ≤ length l.come;
  behind :
      (i : ℕ) (d : Job) → l.high ≤ i → i < length l.come
      → is_earlier (get_or l.come i d) l.job ≡ true;
  before :
      (d : Job) → 1 ≤ l.low → is_earlier (get_or l.come (l.low - 1) d) l.job ≡ false;
  counted : l.initial.steps ≤ l.steps;
}

abbrev pub decreases-loop-low : goal.decreases-loop-low
decreases-loop-low g l = l.high - l.low
