-- What is left where soft work may have run in every slot in which it may.
use Rattle.std.specs.Prelude.{ℕ, ◌+◌, ◌-◌, ◌*◌, ◌/◌, ◌≤◌, ◌<◌, List, sum_by}
use Rattle.slot_core.specs.declared.tasks.Sporadic.{Sporadic}
use Rattle.slot_core.specs.declared.tasks.TaskSet.{TaskSet}
use Rattle.slot_core.specs.Sets.Cycles.{cycle_of}
use Rattle.slot_core.specs.Offline.OfflineJobs.{offline_jobs}
use Rattle.slot_core.specs.Runs.Demand.{work_between}

-- the slots of the sporadic jobs that can be due in so many slots that follow each other: of each
-- task one for each separation that begins in them
abbrev pub arrivals_within : List Sporadic → ℕ → ℕ
arrivals_within sporadics length =
    sum_by
    (λ (s : Sporadic). s.wcet * ((length + (s.separation - 1)) / s.separation))
    sporadics

-- the slots that can be due in so many slots up to x: those of all offline jobs that are due in
-- them, whenever they start, and of the sporadic jobs
abbrev pub due_need : TaskSet → ℕ → ℕ → ℕ → ℕ
due_need set cycles length x =
    work_between (offline_jobs set (cycle_of set) cycles) (x - length) x
    + arrivals_within set.sporadics length

-- up to each time the last slots, `within` or fewer of them, leave so many free
abbrev pub AreSpare : TaskSet → ℕ → ℕ → Type 0
AreSpare set within slots =
    (cycles x : ℕ) → within ≤ x
    → (length : ℕ) × (length ≤ within) × (slots + due_need set cycles length x ≤ length)

-- the same up to each time of the second cycle
abbrev pub AreSpareInCycle : TaskSet → ℕ → ℕ → Type 0
AreSpareInCycle set within slots =
    (x : ℕ) → cycle_of set ≤ x → x < 2 * cycle_of set
    → (length : ℕ) × (length ≤ within) × (slots + due_need set 2 length x ≤ length)
