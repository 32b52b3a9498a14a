-- What each event changes in a scene, from the scene before it alone.
use Rattle.std.specs.Prelude.{◌≡◌, ℕ, ◌+◌, ◌-◌, ◌*◌, ◌/◌, ◌%◌, ◌==◌, true, not, List, [], ◌∷◌, ◌++◌, filter, map, nat_lt, slice_get, slice_set, if◌then◌else◌, ⊤}
use Rattle.std.specs.List.{range_with_len}
use Rattle.std.specs.Option.{option_map_or}
use Rattle.slot_core.specs.declared.jobs.Key.{Key}
use Rattle.slot_core.specs.declared.jobs.Key.TheVariants.{Soft as SoftKey, Firm as FirmKey}
use Rattle.slot_core.specs.declared.jobs.Job.{Job}
use Rattle.slot_core.specs.declared.jobs.SoftJob.{SoftJob}
use Rattle.slot_core.specs.declared.tasks.Sporadic.{Sporadic}
use Rattle.slot_core.specs.declared.tasks.TaskSet.{TaskSet}
use Rattle.slot_core.specs.declared.events.What.{What}
use Rattle.slot_core.specs.declared.events.What.TheVariants.{Soft, Firm, Sporadic as SporadicEntry, Done, Withdraw, Run, Idle}
use Rattle.slot_core.specs.declared.events.Soft.TheVariants.{Taken as SoftTaken}
use Rattle.slot_core.specs.declared.events.Firm.TheVariants.{Accepted}
use Rattle.slot_core.specs.declared.events.Spo.TheVariants.{Taken as SporadicTaken}
use Rattle.slot_core.specs.declared.events.Done.TheVariants.{Freed}
use Rattle.slot_core.specs.declared.events.Gone.TheVariants.{Freed as GoneFreed}
use Rattle.slot_core.specs.declared.events.Ran.{Ran}
use Rattle.slot_core.specs.declared.events.Ran.TheVariants.{Idle as RanIdle, Key as RanKey}
use Rattle.slot_core.specs.Offline.Keys.{same_key}
use Rattle.slot_core.specs.Runs.Arrivals.{MayHaveRow, event_may_come}
use Rattle.slot_core.specs.Offline.OfflineJobs.{cycle_jobs}
use Rattle.slot_core.specs.Runs.Histories.{offered_job, sporadic_job}
use Rattle.slot_core.specs.Runs.Points.{plan_points, is_point}
use Rattle.slot_core.specs.Claims.Safety.{after_slot}
use Rattle.slot_core.specs.Runs.Scenes.{Scene}
use Rattle.slot_core.specs.Runs.Choice.{choice}
use Rattle.slot_core.specs.Runs.Answers.{answer}
use Rattle.slot_core.specs.Runs.Traces.{Occurrence, arrive, slot, told_of_slot}

-- the soft jobs after the job of this key has run one slot; one without a slot left has ended
abbrev pub soft_after_run : Key → List SoftJob → List SoftJob
soft_after_run key soft =
    filter
    (λ (s : SoftJob). nat_lt 0 s.left)
    (map
    (λ (s : SoftJob). if same_key (SoftKey s.row) key then record s { left = s.left - 1 } else s)
    soft)

-- the soft jobs after a slot in which this ran
abbrev pub soft_after_slot : Ran → List SoftJob → List SoftJob
soft_after_slot RanIdle soft = soft
soft_after_slot (RanKey key) soft = soft_after_run key soft

-- one slot later, in which this ran
abbrev pub one_slot_later : Ran → Scene → Scene
one_slot_later ran scene = record scene {
  time = scene.time + 1;
  jobs = after_slot ran scene.jobs;
  soft = soft_after_slot ran scene.soft;
  points = filter (nat_lt (scene.time + 1)) scene.points;
}

-- the plan's points in cycle n
abbrev pub points_in_cycle : TaskSet → ℕ → ℕ → List ℕ
points_in_cycle set cycle n =
    filter
    (is_point cycle (plan_points cycle (cycle_jobs set cycle 0)) [])
    (range_with_len (n * cycle + 1) cycle)

-- with the jobs and the points of cycle n
abbrev pub with_cycle : TaskSet → ℕ → ℕ → Scene → Scene
with_cycle set cycle n scene = record scene {
  jobs = scene.jobs ++ cycle_jobs set cycle n;
  points = scene.points ++ points_in_cycle set cycle n;
}

-- where the time is the start of a cycle, with the third cycle from there on
abbrev pub with_next_cycle : TaskSet → ℕ → Scene → Scene
with_next_cycle set cycle scene =
    if scene.time % cycle == 0 then with_cycle set cycle (scene.time / cycle + 2) scene else scene

-- after a slot in which this ran
abbrev pub after_ran : TaskSet → ℕ → Ran → Scene → Scene
after_ran set cycle ran scene = with_next_cycle set cycle (one_slot_later ran scene)

-- with a soft job of this row and so many slots
abbrev pub with_soft : ℕ → ℕ → Scene → Scene
with_soft row slots scene = record scene {
  soft = scene.soft ++ record { row = row; left = slots; declared = slots } ∷ [];
}

-- rising points, with p among them
abbrev pub with_point : ℕ → List ℕ → List ℕ
with_point p [] = p ∷ []
with_point p (q ∷ points) =
    if p == q then q ∷ points
    else if nat_lt p q then p ∷ q ∷ points
    else q ∷ with_point p points

-- with this job, whose deadline is a point
abbrev pub with_job : Job → Scene → Scene
with_job job scene = record scene {
  jobs = scene.jobs ++ job ∷ [];
  points = with_point job.dl scene.points;
}

-- the separation of the sporadic task of this index
abbrev pub separation_of : List Sporadic → ℕ → ℕ
separation_of sporadics index =
    option_map_or (λ (s : Sporadic). s.separation) (slice_get sporadics index) 0

-- with a job of the sporadic task of this index that arrives now, which comes again one separation
-- from now at the soonest
abbrev pub with_arrival : List Sporadic → ℕ → ℕ → Scene → Scene
with_arrival sporadics row index scene =
    with_job
    (sporadic_job sporadics index row scene.time)
    (record scene {
      nexts = slice_set scene.nexts index (scene.time + separation_of sporadics index);
    })

-- without the job of this key
abbrev pub without : Key → Scene → Scene
without key scene = record scene {
  jobs = filter (λ (j : Job). not (same_key j.key key)) scene.jobs;
  soft = filter (λ (s : SoftJob). not (same_key (SoftKey s.row) key)) scene.soft;
}

-- after what an entry tells
abbrev pub scene_after : TaskSet → ℕ → What → Scene → Scene
scene_after set cycle (Soft row slots SoftTaken) scene = with_soft row slots scene
scene_after set cycle (Firm row slots within Accepted) scene =
    with_job (offered_job row scene.time slots within) scene
scene_after set cycle (SporadicEntry row index (SporadicTaken due)) scene =
    with_arrival set.sporadics row index scene
scene_after set cycle (Done row key (Freed n)) scene = without key scene
scene_after set cycle (Withdraw row firm (GoneFreed n)) scene = without (FirmKey firm) scene
scene_after set cycle (Run key) scene = after_ran set cycle (RanKey key) scene
scene_after set cycle Idle scene = after_ran set cycle RanIdle scene
scene_after set cycle _ scene = scene

-- the row of the last arrival after what an entry tells
abbrev pub row_after : What → ℕ → ℕ
row_after (Soft row slots a) last = row
row_after (Firm row slots within a) last = row
row_after (SporadicEntry row index a) last = row
row_after (Done row key a) last = row
row_after (Withdraw row firm a) last = row
row_after _ last = last

-- what is told of an occurrence in a scene
abbrev pub told_in : TaskSet → ℕ → Scene → Occurrence → What
told_in set cycle scene (arrive row event) = answer set cycle scene row event
told_in set cycle scene slot = told_of_slot (choice set.sporadics cycle scene)

-- an occurrence may come after the last row: an arrival's event may have its row, and may come
abbrev pub MayComeAfter : TaskSet → ℕ → Occurrence → Type 0
MayComeAfter set last (arrive row event) =
    MayHaveRow last row event × (event_may_come set event ≡ true)
MayComeAfter set last slot = ⊤

-- at time 0 without a job, where each sporadic task may come at once
abbrev pub bare_scene : TaskSet → Scene
bare_scene set = record {
  time = 0;
  jobs = [];
  nexts = map (λ (s : Sporadic). 0) set.sporadics;
  soft = [];
  points = [];
}

-- before the first slot: the jobs and the points of the first three cycles
abbrev pub first_scene : TaskSet → ℕ → Scene
first_scene set cycle =
    with_cycle set cycle 2 (with_cycle set cycle 1 (with_cycle set cycle 0 (bare_scene set)))
