-- The run after a change of plan. The history holds its slots, and counts them from the change on.
use Rattle.std.specs.Prelude.{◌≡◌, ℕ, zero, suc, ◌+◌, ◌/◌, ◌≤◌, true, List, [], ◌∷◌, map, Contains, Option, Some, None, nat_le, if◌then◌else◌}
use Rattle.slot_core.specs.declared.jobs.Job.{Job}
use Rattle.slot_core.specs.declared.tasks.TaskSet.{TaskSet}
use Rattle.slot_core.specs.declared.events.Ran.{Ran}
use Rattle.slot_core.specs.declared.events.Ran.TheVariants.{Idle as RanIdle, Key as RanKey}
use Rattle.slot_core.specs.declared.events.What.TheVariants.{Run}
use Rattle.slot_core.specs.Sets.Cycles.{cycle_of}
use Rattle.slot_core.specs.Offline.OfflineJobs.{offline_jobs}
use Rattle.slot_core.specs.Offline.Windows.{precedes}
use Rattle.slot_core.specs.Runs.Histories.{History, Follows, time_of, executed}
use Rattle.slot_core.specs.Runs.Scenes.{has_ended, unended}
use Rattle.slot_core.specs.Runs.Choice.{earliest, ready}
use Rattle.slot_core.specs.Runs.Traces.{told_of_slot}
use Rattle.slot_core.specs.Claims.Service.{IsInside}
use Rattle.mode_switch.specs.declared.turns.Turn.{Turn}
use Rattle.mode_switch.specs.declared.turns.Turn.TheVariants.{Idle, Old, New}
use Rattle.change_laws.specs.Carried.{since}

-- the turn of a slot, between the earliest carried job that is ready and the earliest job of the
-- second set: the lesser deadline, and the carried job where they are level
abbrev pub turn_between : Option Job → Option Job → Turn
turn_between None None = Idle
turn_between (Some carried) None = Old carried.key
turn_between None (Some other) = New other.key
turn_between (Some carried) (Some other) =
    if nat_le carried.dl other.dl then Old carried.key else New other.key

-- the turn of the next slot: between the carried jobs and those of the cycles begun by now
abbrev pub turn_of : TaskSet → ℕ → List Job → History → Turn
turn_of set c carried h =
    let t = time_of h in
    let cycle = cycle_of set in
    turn_between
    (earliest (ready t (unended h (map (since c) carried))))
    (earliest (ready t (unended h (offline_jobs set cycle (t / cycle + 1)))))

-- what runs in it
abbrev pub ran_in : Turn → Ran
ran_in Idle = RanIdle
ran_in (Old key) = RanKey key
ran_in (New key) = RanKey key

-- the history of the first n slots after the change
abbrev pub after_change : TaskSet → ℕ → List Job → ℕ → History
after_change set c carried zero = []
after_change set c carried (suc n) =
    let before = after_change set c carried n in
    told_of_slot (ran_in (turn_of set c carried before)) ∷ before

-- the turn of slot n after the change
abbrev pub turn_at : TaskSet → ℕ → List Job → ℕ → Turn
turn_at set c carried n = turn_of set c carried (after_change set c carried n)

-- the history serves these jobs
pub record IsServedAfter (set : TaskSet) (jobs : List Job) (h : History) : Type 0 where
  -- every run of a job lies inside its derived window, which lies in its raw one
  pub inside :
      (job : Job) (earlier : History) → Contains jobs job
      → Follows h (Run job.key) earlier → IsInside set (time_of earlier) job
  -- every job that is due by now has run exactly its slots
  pub in_time :
      (job : Job) → Contains jobs job → job.dl ≤ time_of h → executed job.key h ≡ job.declared
  -- no job has run more
  pub at_most : (job : Job) → Contains jobs job → executed job.key h ≤ job.declared
  -- every run of a job lies after the end of each of its predecessors
  pub ordered :
      (before after : Job) (earlier : History) → Contains jobs before → Contains jobs after
      → precedes set before.key after.key ≡ true
      → Follows h (Run after.key) earlier → has_ended earlier before ≡ true
