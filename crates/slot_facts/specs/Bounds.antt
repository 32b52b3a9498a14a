-- What every legal history keeps, and what one slot, one arrival and one cycle change.
use Rattle.std.specs.Prelude.{◌≡◌, ℕ, ◌+◌, ◌*◌, ◌/◌, ◌≤◌, ◌<◌, true, ◌∷◌, slice_get, slice_set, slice_index_or, length, Some, All, Contains, false}
use Rattle.slot_core.specs.declared.jobs.Job.{Job}
use Rattle.slot_core.specs.declared.tasks.Sporadic.{Sporadic}
use Rattle.slot_core.specs.declared.tasks.TaskSet.{TaskSet}
use Rattle.slot_core.specs.declared.events.What.TheVariants.{Idle}
use Rattle.slot_core.specs.Offline.Keys.{row_of, is_offline}
use Rattle.slot_core.specs.Sets.Cycles.{cycle_of}
use Rattle.slot_core.specs.Sets.Ranges.{is_sound}
use Rattle.slot_core.specs.Feasibility.Feasible.{IsFeasible}
use Rattle.slot_core.specs.Runs.Histories.{History, time_of, last_row, sporadic_job}
use Rattle.slot_core.specs.Runs.Scenes.{Scene, guaranteed_in, unended, waiting_soft, next_arrivals, scene_in}
use Rattle.slot_core.specs.Runs.Demand.{need_by}
use Rattle.slot_core.specs.Runs.Choice.{earliest_ready}
use Rattle.slot_core.specs.Claims.Safety.{after_slot, IsSafe}
use Rattle.slot_core.specs.Runs.Traces.{slot, told_of, IsLegal}
use Rattle.slot_core.specs.Keeping.Kept.{ArePlanned, AreApart, KeepsBounds, KeepsSoftOrder, KeepsRows}
use Rattle.slot_core.specs.Keeping.Plans.{IsPlan}
use Rattle.slot_core.specs.Keeping.Executives.{Executive, StandsForSome, IsKept}

-- what a legal history keeps, with the offline jobs of so many cycles
pub record HistoryIsKept (set : TaskSet) (cycles : ℕ) (h : History) : Type 0 where
  -- the bounds of its scene
  pub bounds : KeepsBounds set (cycle_of set) cycles (scene_in set (cycle_of set) cycles h)
  -- no deadline up to the end of these cycles is at risk
  pub safe :
      IsSafe
      set.sporadics
      (next_arrivals set.sporadics h)
      (unended h (guaranteed_in set (cycle_of set) cycles h))
      (time_of h)
      (cycles * cycle_of set)
  -- the order of its soft jobs
  pub soft : KeepsSoftOrder set.soft_limit (waiting_soft h)
  -- no row above that of the last arrival
  pub rows : KeepsRows (last_row h) (scene_in set (cycle_of set) cycles h)

-- every legal history of a feasible set keeps all this, for any number of cycles that reaches its
-- horizon
abbrev pub EveryLegalHistoryIsKept : Type 0
EveryLegalHistoryIsKept =
    (set : TaskSet) (h : History) (cycles : ℕ)
    → is_sound set ≡ true → IsFeasible set (cycle_of set) → IsLegal set (cycle_of set) h
    → time_of h / cycle_of set + 3 ≤ cycles
    → HistoryIsKept set cycles h

-- so does every executive that stands for one
abbrev pub EveryExecutiveIsKept : Type 0
EveryExecutiveIsKept =
    (exec : Executive) → IsPlan exec.plan → StandsForSome exec → IsKept exec

-- one slot that runs the earliest ready job, or is idle where none is ready, keeps the bounds up to
-- a fixed end
abbrev pub OneSlotKeepsTheBounds : Type 0
OneSlotKeepsTheBounds =
    (set : TaskSet) (cycles : ℕ) (scene : Scene)
    → is_sound set ≡ true → IsFeasible set (cycle_of set)
    → KeepsBounds set (cycle_of set) cycles scene
    → scene.time < cycles * cycle_of set
    → KeepsBounds
    set
    (cycle_of set)
    cycles
    (record scene { time = scene.time + 1; jobs = after_slot (earliest_ready scene) scene.jobs })

-- so does a sporadic arrival that is taken, in a row above those of the jobs
abbrev pub ATakenArrivalKeepsTheBounds : Type 0
ATakenArrivalKeepsTheBounds =
    (set : TaskSet) (cycles : ℕ) (scene : Scene) (row index : ℕ) (s : Sporadic)
    → is_sound set ≡ true → IsFeasible set (cycle_of set)
    → KeepsBounds set (cycle_of set) cycles scene
    → scene.time ≤ cycles * cycle_of set
    → All (λ (j : Job). row_of j.key < row) scene.jobs
    → slice_get set.sporadics index ≡ Some s
    → slice_index_or scene.nexts index 0 ≤ scene.time
    → KeepsBounds
    set
    (cycle_of set)
    cycles
    (record scene {
      jobs = sporadic_job set.sporadics index row scene.time ∷ scene.jobs;
      nexts = slice_set scene.nexts index (scene.time + s.separation);
    })

-- one cycle later there is no less room: where jobs are planned or have come, between two times a
-- cycle apart, past the next cycle, at most a cycle more is needed, whenever the arrivals are
-- counted from
abbrev pub OneCycleLaterHasNoLessRoom : Type 0
OneCycleLaterHasNoLessRoom =
    (set : TaskSet) (cycles : ℕ) (scene : Scene) (r x : ℕ)
    → is_sound set ≡ true → IsFeasible set (cycle_of set)
    → ArePlanned set (cycle_of set) cycles scene.jobs → AreApart scene.jobs
    → ((job : Job) → Contains scene.jobs job → job.left ≤ job.declared)
    → ((job : Job) → Contains scene.jobs job → is_offline job.key ≡ false
    → job.dl ≤ scene.time + cycle_of set)
    → scene.time + cycle_of set ≤ x
    → need_by set.sporadics scene r (x + cycle_of set)
    ≤ need_by set.sporadics scene r x + cycle_of set

-- a scene that keeps its bounds is safe
abbrev pub KeptScenesAreSafe : Type 0
KeptScenesAreSafe =
    (set : TaskSet) (cycles : ℕ) (scene : Scene)
    → is_sound set ≡ true → IsFeasible set (cycle_of set)
    → KeepsBounds set (cycle_of set) cycles scene
    → IsSafe set.sporadics scene.nexts scene.jobs scene.time (cycles * cycle_of set)

-- no soft job waits through an idle slot
abbrev pub NoSoftJobWaitsThroughAnIdleSlot : Type 0
NoSoftJobWaitsThroughAnIdleSlot =
    (set : TaskSet) (h : History)
    → is_sound set ≡ true → IsFeasible set (cycle_of set) → IsLegal set (cycle_of set) h
    → told_of set (cycle_of set) h slot ≡ Idle
    → length (waiting_soft h) ≡ 0
