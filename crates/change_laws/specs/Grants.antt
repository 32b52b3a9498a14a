-- When a change of plan can be served, over slot schedules: raw windows and precedence alone.
use Rattle.std.specs.Prelude.{ℕ, ◌*◌, List, [], ◌++◌}
use Rattle.slot_core.specs.declared.jobs.Job.{Job}
use Rattle.slot_core.specs.declared.tasks.TaskSet.{TaskSet}
use Rattle.slot_core.specs.Sets.Cycles.{cycle_of}
use Rattle.slot_core.specs.Feasibility.Sporadics.{IsLegalPattern}
use Rattle.slot_core.specs.Claims.Futures.{pattern_jobs}
use Rattle.slot_core.specs.Claims.Schedules.{HasSchedule}
use Rattle.change_laws.specs.Carried.{cycles_of_change, jobs_after}

-- the jobs after a change, and those of a pattern of arrivals in rows from this one on
abbrev pub jobs_with : TaskSet → ℕ → List Job → ℕ → ℕ → List (ℕ × ℕ) → List Job
jobs_with set c carried row cycles pattern =
    jobs_after set c carried cycles ++ pattern_jobs set.sporadics row pattern

-- whatever legal pattern of arrivals of the second set's sporadic tasks comes from the change on, a
-- slot schedule of so many cycles serves the carried jobs, the offline jobs and the pattern's jobs
abbrev pub CanChangeFor : TaskSet → ℕ → List Job → ℕ → ℕ → Type 0
CanChangeFor set c carried row cycles =
    (pattern : List (ℕ × ℕ)) → IsLegalPattern set.sporadics [] 0 pattern
    → HasSchedule set (jobs_with set c carried row cycles pattern) 0 (cycles * cycle_of set)

-- the change can be served: so it is for the number of cycles that is looked at
abbrev pub CanChange : TaskSet → ℕ → List Job → ℕ → Type 0
CanChange set c carried row =
    CanChangeFor set c carried row (cycles_of_change (cycle_of set) c carried)
