-- What a grant and a refusal rest on: the work that is due after a change of plan.
use Rattle.std.specs.Prelude.{◌≡◌, ℕ, ◌+◌, ◌-◌, ◌*◌, ◌≤◌, ◌<◌, List, [], find, nat_lt, Option, option_map}
use Rattle.std.specs.List.{range_with_len}
use Rattle.slot_core.specs.declared.jobs.Job.{Job}
use Rattle.slot_core.specs.declared.jobs.Evidence.{Evidence}
use Rattle.slot_core.specs.declared.tasks.TaskSet.{TaskSet}
use Rattle.slot_core.specs.Sets.Cycles.{cycle_of}
use Rattle.slot_core.specs.Feasibility.Sporadics.{sporadic_demand}
use Rattle.slot_core.specs.Runs.Demand.{work_by}
use Rattle.change_laws.specs.Carried.{cycles_of_change, jobs_after}

-- the slots that are needed in the first x slots after the change: those of the jobs due by then,
-- and of the densest arrivals of the second set
abbrev pub due_after : TaskSet → ℕ → List Job → ℕ → ℕ → ℕ
due_after set c carried cycles x =
    work_by (jobs_after set c carried cycles) x + sporadic_demand set.sporadics [] 0 x

-- at no time up to the end of so many cycles is more needed than there are slots
abbrev pub FitsFor : TaskSet → ℕ → List Job → ℕ → Type 0
FitsFor set c carried cycles =
    (x : ℕ) → 1 ≤ x → x ≤ cycles * cycle_of set → due_after set c carried cycles x ≤ x

-- the least time by which more is needed, or none
abbrev pub first_short : TaskSet → ℕ → List Job → ℕ → Option ℕ
first_short set c carried cycles =
    find
    (λ x. nat_lt x (due_after set c carried cycles x))
    (range_with_len 1 (cycles * cycle_of set))

-- the evidence of that: so many slots are needed by then, and there are so many
abbrev pub shortage_at : TaskSet → ℕ → List Job → ℕ → ℕ → Evidence
shortage_at set c carried cycles x =
    record { until = c + x; need = due_after set c carried cycles x; room = x }

-- why a change is refused, or none where it is granted
abbrev pub refusal_of : TaskSet → ℕ → List Job → Option Evidence
refusal_of set c carried =
    let cycles = cycles_of_change (cycle_of set) c carried in
    option_map (shortage_at set c carried cycles) (first_short set c carried cycles)

-- the evidence shows that there is no room for a change at time c
pub record ShowsNoRoom (set : TaskSet) (c : ℕ) (carried : List Job) (e : Evidence) : Type 0 where
  -- its time lies after the change, up to the end of the cycles that are looked at
  pub after : c < e.until
  pub within : e.until ≤ c + cycles_of_change (cycle_of set) c carried * cycle_of set
  -- so many slots are needed by then
  pub need :
      e.need ≡ due_after set c carried (cycles_of_change (cycle_of set) c carried) (e.until - c)
  -- which are more than there are
  pub room : e.room ≡ e.until - c
  pub more : e.room < e.need
  -- and at no time before it is it so
  pub least :
      (x : ℕ) → 1 ≤ x → c + x < e.until
      → due_after set c carried (cycles_of_change (cycle_of set) c carried) x ≤ x
