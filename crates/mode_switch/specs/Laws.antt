-- What a change of plan owes to its jobs.
use Rattle.std.specs.Prelude.{◌≡◌, ℕ, ◌+◌, true, List}
use Rattle.slot_core.specs.declared.jobs.Job.{Job}
use Rattle.slot_core.specs.declared.tasks.TaskSet.{TaskSet}
use Rattle.slot_core.specs.Sets.Cycles.{cycle_of}
use Rattle.slot_core.specs.Sets.Ranges.{is_sound}
use Rattle.slot_core.specs.Feasibility.Feasible.{IsFeasible}
use Rattle.change_laws.specs.Carried.{jobs_after, AreCarried}
use Rattle.change_laws.specs.Grants.{CanChange}
use Rattle.mode_switch.specs.Runs.{after_change, IsServedAfter}

-- after a change that can be served, at every time each carried job that is due has run exactly its
-- slots left and each job of the second set its slots, all inside their windows and in order
abbrev pub ChangesAreServed : Type 0
ChangesAreServed =
    (set : TaskSet) (c row cycles n : ℕ) (carried : List Job)
    → is_sound set ≡ true → IsFeasible set (cycle_of set) → AreCarried c row carried
    → CanChange set c carried (row + 1)
    → IsServedAfter set (jobs_after set c carried cycles) (after_change set c carried n)
