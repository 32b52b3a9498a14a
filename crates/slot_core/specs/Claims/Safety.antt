-- What a slot changes in a list of jobs, and jobs of which no deadline is at risk.
use Rattle.std.specs.Prelude.{ℕ, ◌+◌, ◌-◌, ◌≤◌, ◌<◌, List, map, filter, nat_lt, if◌then◌else◌}
use Rattle.slot_core.specs.declared.jobs.Key.{Key}
use Rattle.slot_core.specs.declared.jobs.Job.{Job}
use Rattle.slot_core.specs.declared.tasks.Sporadic.{Sporadic}
use Rattle.slot_core.specs.declared.events.Ran.{Ran}
use Rattle.slot_core.specs.declared.events.Ran.TheVariants.{Idle, Key as KeyRan}
use Rattle.slot_core.specs.Offline.Keys.{same_key}
use Rattle.slot_core.specs.Feasibility.Sporadics.{sporadic_demand}
use Rattle.slot_core.specs.Runs.Demand.{work_by, work_from}

-- the jobs after the job of this key has run one slot; those without a slot left have ended
abbrev pub after_run : Key → List Job → List Job
after_run key jobs =
    filter
    (λ (j : Job). nat_lt 0 j.left)
    (map (λ (j : Job). if same_key j.key key then record j { left = j.left - 1 } else j) jobs)

-- the jobs after a slot in which this ran
abbrev pub after_slot : Ran → List Job → List Job
after_slot Idle jobs = jobs
after_slot (KeyRan key) jobs = after_run key jobs

-- no deadline up to `end` is at risk at time t
pub record IsSafe
    (sporadics : List Sporadic) (nexts : List ℕ) (jobs : List Job) (t end : ℕ) : Type 0 where
  -- the jobs due by any later time, and the sporadic arrivals that may come, fit the slots up to it
  pub due :
      (x : ℕ) → t ≤ x → x ≤ end
      → work_by jobs x + sporadic_demand sporadics nexts t x ≤ x - t
  -- so do those that start at or after any later time
  pub to_come :
      (a x : ℕ) → t < a → a ≤ x → x ≤ end
      → work_from jobs a x + sporadic_demand sporadics nexts a x ≤ x - a
