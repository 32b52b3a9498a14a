-- What is spare: the slots that are left whatever soft work ran, found time by time.
use Rattle.std.specs.Prelude.{◌≡◌, ℕ, true, ◌+◌, ◌-◌, ◌≤◌, max, min, List, map, fold, slice_index}
use Rattle.std.specs.List.{range_with_len}
use Rattle.slot_core.specs.declared.tasks.TaskSet.{TaskSet}
use Rattle.slot_core.specs.Sets.Cycles.{cycle_of}
use Rattle.slot_core.specs.Sets.Ranges.{is_sound}
use Rattle.slot_core.specs.Feasibility.Feasible.{IsFeasible}
use Rattle.supply_laws.specs.Spare.{due_need, AreSpare}

-- the slots that the last slots up to a time of two cycles, so many of them, leave free
abbrev pub spare_in : TaskSet → ℕ → ℕ → ℕ
spare_in set time length = length - due_need set 2 length time

-- the most that the last slots up to a time leave free, `within` or fewer of them
abbrev pub most_spare : TaskSet → ℕ → ℕ → ℕ
most_spare set within time = fold max 0 (map (spare_in set time) (range_with_len 0 (within + 1)))

-- what is spare within so many slots: the least of that over the times of the second cycle
abbrev pub spare_of : TaskSet → ℕ → ℕ
spare_of set within =
    fold min within (map (most_spare set within) (range_with_len (cycle_of set) (cycle_of set)))

-- for each number of slots from 0 to the cycle
abbrev pub spares_of : TaskSet → List ℕ
spares_of set = map (spare_of set) (range_with_len 0 (cycle_of set + 1))

-- so many slots are spare, and no more are
pub record IsSpare (set : TaskSet) (within slots : ℕ) : Type 0 where
  pub are : AreSpare set within slots
  pub most : (more : ℕ) → AreSpare set within more → more ≤ slots

-- what is found is spare, and no more is
abbrev pub SpareIsFound : Type 0
SpareIsFound =
    (set : TaskSet) (within : ℕ)
    → is_sound set ≡ true → IsFeasible set (cycle_of set) → within ≤ cycle_of set
    → IsSpare set within (spare_of set within)

-- with one slot more as much is spare or one slot more
abbrev pub SpareRisesSlowly : Type 0
SpareRisesSlowly =
    (set : TaskSet) (within : ℕ) → is_sound set ≡ true
    → (spare_of set within ≤ spare_of set (within + 1))
    × (spare_of set (within + 1) ≤ spare_of set within + 1)

-- the slots that the last slots up to a time leave free, from a table of what is due by each time
-- and one of the arrivals in each number of slots
abbrev pub spare_by : List ℕ → List ℕ → ℕ → ℕ → ℕ
spare_by due arriving time length =
    length
    - (slice_index due time - slice_index due (time - length) + slice_index arriving length)

-- the most of them
abbrev pub most_by : List ℕ → List ℕ → ℕ → ℕ → ℕ
most_by due arriving within time =
    fold max 0 (map (spare_by due arriving time) (range_with_len 0 (within + 1)))

-- the least of that over so many times from one on
abbrev pub least_by : List ℕ → List ℕ → ℕ → ℕ → ℕ → ℕ
least_by due arriving from count within =
    fold min within (map (most_by due arriving within) (range_with_len from count))
