-- Soft work is held back exactly where its slot is needed. Derived windows and the order of choice
-- do not occur in what needs it.
use Rattle.std.specs.Prelude.{◌≡◌, ◌↔◌, ℕ, ◌+◌, ◌≤◌, true, List, [], ◌++◌, length}
use Rattle.slot_core.specs.declared.jobs.Job.{Job}
use Rattle.slot_core.specs.declared.jobs.Key.TheVariants.{Soft}
use Rattle.slot_core.specs.declared.tasks.TaskSet.{TaskSet}
use Rattle.slot_core.specs.declared.events.What.TheVariants.{Run}
use Rattle.slot_core.specs.Sets.Cycles.{cycle_of}
use Rattle.slot_core.specs.Sets.Ranges.{is_sound}
use Rattle.slot_core.specs.Feasibility.Feasible.{IsFeasible}
use Rattle.slot_core.specs.Feasibility.Sporadics.{densest_pattern, IsLegalPattern}
use Rattle.slot_core.specs.Runs.Histories.{History, time_of, last_row}
use Rattle.slot_core.specs.Runs.Scenes.{horizon, scene_of, waiting_soft, next_arrivals}
use Rattle.slot_core.specs.Runs.Traces.{slot, told_of, IsLegal}
use Rattle.slot_core.specs.Claims.Schedules.{HasSchedule}
use Rattle.slot_core.specs.Claims.Futures.{pattern_jobs}

-- with the slot at hand gone, these jobs have a slot schedule up to the horizon
abbrev pub HasScheduleNext : TaskSet → ℕ → History → List Job → Type 0
HasScheduleNext set cycle h jobs =
    HasSchedule set jobs (time_of h + 1) (horizon cycle (time_of h))

-- the remaining jobs of a history and those of a pattern of arrivals
abbrev pub with_arrivals : TaskSet → ℕ → History → List (ℕ × ℕ) → List Job
with_arrivals set cycle h pattern =
    (scene_of set cycle h).jobs ++ pattern_jobs set.sporadics (last_row h + 1) pattern

-- a legal pattern of arrivals from the next slot on
abbrev pub IsLegalNext : TaskSet → History → List (ℕ × ℕ) → Type 0
IsLegalNext set h pattern =
    IsLegalPattern set.sporadics (next_arrivals set.sporadics h) (time_of h + 1) pattern

-- the slot can be spared: with it gone, whatever legal arrivals come from the next slot on, the
-- remaining jobs and those of the arrivals have a slot schedule
abbrev pub SlotCanBeSpared : TaskSet → ℕ → History → Type 0
SlotCanBeSpared set cycle h =
    (pattern : List (ℕ × ℕ)) → IsLegalNext set h pattern
    → HasScheduleNext set cycle h (with_arrivals set cycle h pattern)

-- this pattern is legal from the next slot on, and with the slot gone it leaves no slot schedule
pub record ShowsNeed (set : TaskSet) (cycle : ℕ) (h : History) (pattern : List (ℕ × ℕ)) : Type 0
  where
    pub legal : IsLegalNext set h pattern
    pub none : ¬ (HasScheduleNext set cycle h (with_arrivals set cycle h pattern))

-- the slot is needed: with it gone, some legal arrivals from the next slot on leave no schedule
abbrev pub SlotIsNeeded : TaskSet → ℕ → History → Type 0
SlotIsNeeded set cycle h = (pattern : List (ℕ × ℕ)) × ShowsNeed set cycle h pattern

-- the densest arrivals from the next slot on that are due by the horizon
abbrev pub densest_next : TaskSet → ℕ → History → List (ℕ × ℕ)
densest_next set cycle h =
    densest_pattern
    0
    set.sporadics
    (next_arrivals set.sporadics h)
    (time_of h + 1)
    (horizon cycle (time_of h))

-- the slot at hand runs soft work
abbrev pub RunsSoftWork : TaskSet → ℕ → History → Type 0
RunsSoftWork set cycle h = (row : ℕ) × (told_of set cycle h slot ≡ Run (Soft row))

-- the choice between soft work that waits and the rest is exact
pub record SoftChoiceIsExact (set : TaskSet) (cycle : ℕ) (h : History) : Type 0 where
  -- soft work runs exactly where the slot can be spared
  pub runs : RunsSoftWork set cycle h ↔ SlotCanBeSpared set cycle h
  -- it is held back exactly where the slot is needed
  pub held : ¬ (RunsSoftWork set cycle h) ↔ SlotIsNeeded set cycle h
  -- the densest arrivals from the next slot on show it
  pub densest : ¬ (RunsSoftWork set cycle h) → ShowsNeed set cycle h (densest_next set cycle h)
  -- in a set without sporadic tasks it is held back exactly where, with the slot gone, the
  -- remaining jobs have no slot schedule
  pub alone :
      set.sporadics ≡ []
      → (¬ (RunsSoftWork set cycle h)
      ↔ ¬ (HasScheduleNext set cycle h (scene_of set cycle h).jobs))

-- in the next slot after a legal history at which soft work waits, it runs exactly where the slot
-- can be spared
abbrev pub SoftWorkIsHeldBackExactly : Type 0
SoftWorkIsHeldBackExactly =
    (set : TaskSet) (h : History)
    → is_sound set ≡ true → IsFeasible set (cycle_of set) → IsLegal set (cycle_of set) h
    → 1 ≤ length (waiting_soft h)
    → SoftChoiceIsExact set (cycle_of set) h
