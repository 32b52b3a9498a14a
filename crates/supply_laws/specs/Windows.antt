-- The guaranteed supply of a task set: how many slots its own work leaves free in every window
-- (supply bound function, after Shin and Lee 2003, of what processor demand leaves).
use Rattle.std.specs.Prelude.{◌≡◌, ℕ, ◌+◌, ◌-◌, ◌*◌, ◌≤◌, ◌<◌, []}
use Rattle.slot_core.specs.declared.tasks.TaskSet.{TaskSet}
use Rattle.slot_core.specs.Sets.Cycles.{cycle_of}
use Rattle.slot_core.specs.Offline.OfflineJobs.{offline_jobs}
use Rattle.slot_core.specs.Runs.Demand.{work_from}
use Rattle.slot_core.specs.Feasibility.Sporadics.{sporadic_demand}

-- what the set's own work needs in the window [a, x): the offline jobs of so many cycles that start
-- at or after a and are due by x, and the densest sporadic arrivals from a on
abbrev pub window_need : TaskSet → ℕ → ℕ → ℕ → ℕ
window_need set cycles a x =
    work_from (offline_jobs set (cycle_of set) cycles) a x
    + sporadic_demand set.sporadics [] a x

-- every window of at least `within` slots, whatever its start and its length, leaves so many slots
-- free
abbrev pub AreFree : TaskSet → ℕ → ℕ → Type 0
AreFree set within slots =
    (cycles a x : ℕ) → a + within ≤ x → slots + window_need set cycles a x ≤ x - a

-- the window [a, x) starts in the first cycle, ends in the first three, has at least `within` slots
-- and leaves so many free
pub record IsWorst (set : TaskSet) (within slots a x : ℕ) : Type 0 where
  pub start : a < cycle_of set
  pub long : a + within ≤ x
  pub end : x ≤ 3 * cycle_of set
  pub leaves : slots + window_need set 3 a x ≡ x - a

-- the supply within so many slots: the least that a window of at least as many slots leaves free,
-- of those that start in the first cycle and end in the first three
pub record IsSupply (set : TaskSet) (within slots : ℕ) : Type 0 where
  pub free :
      (a x : ℕ) → a < cycle_of set → a + within ≤ x → x ≤ 3 * cycle_of set
      → slots + window_need set 3 a x ≤ x - a
  pub worst : (a : ℕ) × (x : ℕ) × IsWorst set within slots a x
