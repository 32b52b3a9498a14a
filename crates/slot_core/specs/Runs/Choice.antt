-- Which job runs in a slot.
use Rattle.std.specs.Prelude.{ℕ, ◌+◌, ◌-◌, Bool, not, List, filter, fold, Option, Some, None, nat_le, nat_lt, if◌then◌else◌}
use Rattle.std.specs.Option.{option_map_or}
use Rattle.std.specs.List.{list_all, range_with_len}
use Rattle.slot_core.specs.declared.jobs.Key.TheVariants.{Soft}
use Rattle.slot_core.specs.declared.jobs.Job.{Job}
use Rattle.slot_core.specs.declared.tasks.Sporadic.{Sporadic}
use Rattle.slot_core.specs.declared.events.Ran.{Ran}
use Rattle.slot_core.specs.declared.events.Ran.TheVariants.{Idle, Key}
use Rattle.slot_core.specs.Offline.Keys.{is_earlier}
use Rattle.slot_core.specs.declared.jobs.SoftJob.{SoftJob}
use Rattle.slot_core.specs.Runs.Scenes.{Scene, horizon}
use Rattle.slot_core.specs.Runs.Demand.{is_overloaded}

-- of two candidates, the one that goes before the other; the first where they are level
abbrev pub earlier_of : Option Job → Job → Option Job
earlier_of None job = Some job
earlier_of (Some best) job = if is_earlier job best then Some job else Some best

-- the earliest of the jobs, or none
abbrev pub earliest : List Job → Option Job
earliest jobs = fold earlier_of None jobs

-- the jobs that may run at time t
abbrev pub ready : ℕ → List Job → List Job
ready t jobs = filter (λ (j : Job). nat_le j.est t) jobs

-- of two soft jobs, the one of the lower row
abbrev pub lower_of : Option SoftJob → SoftJob → Option SoftJob
lower_of None job = Some job
lower_of (Some best) job = if nat_lt job.row best.row then Some job else Some best

-- the soft job of least row, or none
abbrev pub first_soft : List SoftJob → Option SoftJob
first_soft jobs = fold lower_of None jobs

-- soft work may take this slot: at each later time up to the horizon all that is needed still fits
abbrev pub soft_may_run : List Sporadic → ℕ → Scene → Bool
soft_may_run sporadics cycle scene =
    list_all
    (λ x. not (is_overloaded sporadics scene 1 (scene.time + 1) x))
    (range_with_len (scene.time + 1) (horizon cycle scene.time - scene.time))

-- the guaranteed job that is ready and earliest, or idle
abbrev pub earliest_ready : Scene → Ran
earliest_ready scene =
    option_map_or (λ (j : Job). Key j.key) (earliest (ready scene.time scene.jobs)) Idle

-- the choice of the slot: the first soft job where soft work may take the slot, else the earliest
-- guaranteed job that is ready, else idle
abbrev pub choice : List Sporadic → ℕ → Scene → Ran
choice sporadics cycle scene =
    let other = earliest_ready scene in
    option_map_or
    (λ (s : SoftJob). if soft_may_run sporadics cycle scene then Key (Soft s.row) else other)
    (first_soft scene.soft)
    other
