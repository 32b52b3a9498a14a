-- Each entry changes scenes that are the same into scenes that are the same.
use Rattle.std.proofs.Common.{ℕ, ◌+◌, ◌/◌, ◌%◌, Bool, true, false, not, cond, ◌==◌, List, [], ◌∷◌, ◌++◌, filter, ap, ap₂, subst}
use Rattle.std.specs.Prelude.{nat_lt, slice_set}
use Rattle.slot_core.specs.declared.jobs.Key.{Key}
use Rattle.slot_core.specs.declared.jobs.Key.TheVariants.{Soft as SoftKey, Firm as FirmKey}
use Rattle.slot_core.specs.declared.jobs.Job.{Job}
use Rattle.slot_core.specs.declared.jobs.SoftJob.{SoftJob}
use Rattle.slot_core.specs.declared.tasks.Sporadic.{Sporadic}
use Rattle.slot_core.specs.declared.tasks.TaskSet.{TaskSet}
use Rattle.slot_core.specs.declared.events.What.{What}
use Rattle.slot_core.specs.declared.events.What.TheVariants.{Start, Soft, Firm, Sporadic as SporadicEntry, Done, Withdraw, Run, Idle, End}
use Rattle.slot_core.specs.declared.events.Soft.TheVariants.{Taken as SoftTaken, Full}
use Rattle.slot_core.specs.declared.events.Firm.TheVariants.{Accepted, Late, Far, NoRoom}
use Rattle.slot_core.specs.declared.events.Spo.TheVariants.{Taken as SporadicTaken, Soon}
use Rattle.slot_core.specs.declared.events.Done.TheVariants.{Freed, NotRunning}
use Rattle.slot_core.specs.declared.events.Gone.TheVariants.{Freed as GoneFreed, NoJob}
use Rattle.slot_core.specs.declared.events.Ran.{Ran}
use Rattle.slot_core.specs.declared.events.Ran.TheVariants.{Idle as RanIdle, Key as RanKey}
use Rattle.slot_core.specs.Offline.Keys.{same_key}
use Rattle.slot_core.specs.Offline.OfflineJobs.{cycle_jobs}
use Rattle.slot_core.specs.Runs.Histories.{offered_job, sporadic_job}
use Rattle.slot_core.specs.Runs.Scenes.{Scene}
use Rattle.slot_core.specs.Runs.Matches.{IsSameScene}
use Rattle.slot_facts.proofs.Lists.SameItems.{same-append, same-filter, same-after_slot}
use Rattle.scene_steps.specs.Steps.{soft_after_slot, one_slot_later, points_in_cycle, with_cycle, with_next_cycle, after_ran, with_soft, with_point, with_job, separation_of, with_arrival, without, scene_after}
use Rattle.scene_steps.proofs.Same.SameScenes.{same-refl}

-- one slot later
one_slot_later-same : (ran : Ran) (a b : Scene) → IsSameScene a b → IsSameScene (one_slot_later ran a) (one_slot_later ran b)
one_slot_later-same ran a b same =
    record {
      time = ap (λ t. t + 1) same.time;
      jobs = same-after_slot ran a.jobs b.jobs same.jobs;
      nexts = same.nexts;
      soft = ap (soft_after_slot ran) same.soft;
      points = ap₂ (λ t points. filter (nat_lt (t + 1)) points) same.time same.points;
    }

-- with the jobs and the points of a cycle
with_cycle-same : (set : TaskSet) (cycle n : ℕ) (a b : Scene) → IsSameScene a b → IsSameScene (with_cycle set cycle n a) (with_cycle set cycle n b)
with_cycle-same set cycle n a b same =
    let more = cycle_jobs set cycle n in
    record {
      time = same.time;
      jobs = same-append a.jobs b.jobs more more same.jobs (same-refl more);
      nexts = same.nexts;
      soft = same.soft;
      points = ap (λ points. points ++ points_in_cycle set cycle n) same.points;
    }

-- with it where a test passes
with_cycle_where-same : (set : TaskSet) (cycle n : ℕ) (test : Bool) (a b : Scene) → IsSameScene a b → IsSameScene (cond test (with_cycle set cycle n a) a) (cond test (with_cycle set cycle n b) b)
with_cycle_where-same set cycle n true a b same = with_cycle-same set cycle n a b same
with_cycle_where-same set cycle n false a b same = same

-- with the next cycle where the time starts a cycle
with_next_cycle-same : (set : TaskSet) (cycle : ℕ) (a b : Scene) → IsSameScene a b → IsSameScene (with_next_cycle set cycle a) (with_next_cycle set cycle b)
with_next_cycle-same set cycle a b same =
    subst
    (λ t. IsSameScene (with_next_cycle set cycle a) (cond (t % cycle == 0) (with_cycle set cycle (t / cycle + 2) b) b))
    same.time
    (with_cycle_where-same set cycle (a.time / cycle + 2) (a.time % cycle == 0) a b same)

-- after a slot
after_ran-same : (set : TaskSet) (cycle : ℕ) (ran : Ran) (a b : Scene) → IsSameScene a b → IsSameScene (after_ran set cycle ran a) (after_ran set cycle ran b)
after_ran-same set cycle ran a b same =
    with_next_cycle-same set cycle (one_slot_later ran a) (one_slot_later ran b) (one_slot_later-same ran a b same)

-- with a soft job
with_soft-same : (row slots : ℕ) (a b : Scene) → IsSameScene a b → IsSameScene (with_soft row slots a) (with_soft row slots b)
with_soft-same row slots a b same =
    record {
      time = same.time;
      jobs = same.jobs;
      nexts = same.nexts;
      soft = ap (λ (soft : List SoftJob). soft ++ record { row = row; left = slots; declared = slots } ∷ []) same.soft;
      points = same.points;
    }

-- with a job
with_job-same : (job : Job) (a b : Scene) → IsSameScene a b → IsSameScene (with_job job a) (with_job job b)
with_job-same job a b same =
    record {
      time = same.time;
      jobs = same-append a.jobs b.jobs (job ∷ []) (job ∷ []) same.jobs (same-refl (job ∷ []));
      nexts = same.nexts;
      soft = same.soft;
      points = ap (with_point job.dl) same.points;
    }

-- with a job that depends on the time
with_job_at-same : (job : ℕ → Job) (a b : Scene) → IsSameScene a b → IsSameScene (with_job (job a.time) a) (with_job (job b.time) b)
with_job_at-same job a b same =
    subst (λ t. IsSameScene (with_job (job a.time) a) (with_job (job t) b)) same.time (with_job-same (job a.time) a b same)

-- with a sporadic job that arrives
with_arrival-same : (sporadics : List Sporadic) (row index : ℕ) (a b : Scene) → IsSameScene a b → IsSameScene (with_arrival sporadics row index a) (with_arrival sporadics row index b)
with_arrival-same sporadics row index a b same =
    let later = λ (scene : Scene). slice_set scene.nexts index (scene.time + separation_of sporadics index) in
    with_job_at-same
    (sporadic_job sporadics index row)
    (record a { nexts = later a })
    (record b { nexts = later b })
    (record {
      time = same.time;
      jobs = same.jobs;
      nexts = ap₂ (λ t nexts. slice_set nexts index (t + separation_of sporadics index)) same.time same.nexts;
      soft = same.soft;
      points = same.points;
    })

-- without the job of a key
without-same : (key : Key) (a b : Scene) → IsSameScene a b → IsSameScene (without key a) (without key b)
without-same key a b same =
    record {
      time = same.time;
      jobs = same-filter (λ (j : Job). not (same_key j.key key)) a.jobs b.jobs same.jobs;
      nexts = same.nexts;
      soft = ap (filter (λ (s : SoftJob). not (same_key (SoftKey s.row) key))) same.soft;
      points = same.points;
    }

-- each step takes the same scenes to the same scenes
pub scene_after-same : (set : TaskSet) (cycle : ℕ) (what : What) (a b : Scene) → IsSameScene a b → IsSameScene (scene_after set cycle what a) (scene_after set cycle what b)
scene_after-same set cycle Start a b same = same
scene_after-same set cycle End a b same = same
scene_after-same set cycle (Soft row slots SoftTaken) a b same = with_soft-same row slots a b same
scene_after-same set cycle (Soft row slots (Full n)) a b same = same
scene_after-same set cycle (Firm row slots within Accepted) a b same =
    with_job_at-same (λ t. offered_job row t slots within) a b same
scene_after-same set cycle (Firm row slots within Late) a b same = same
scene_after-same set cycle (Firm row slots within Far) a b same = same
scene_after-same set cycle (Firm row slots within (NoRoom evidence)) a b same = same
scene_after-same set cycle (SporadicEntry row index (SporadicTaken due)) a b same =
    with_arrival-same set.sporadics row index a b same
scene_after-same set cycle (SporadicEntry row index (Soon next)) a b same = same
scene_after-same set cycle (Done row key (Freed n)) a b same = without-same key a b same
scene_after-same set cycle (Done row key NotRunning) a b same = same
scene_after-same set cycle (Withdraw row firm (GoneFreed n)) a b same =
    without-same (FirmKey firm) a b same
scene_after-same set cycle (Withdraw row firm NoJob) a b same = same
scene_after-same set cycle (Run key) a b same = after_ran-same set cycle (RanKey key) a b same
scene_after-same set cycle Idle a b same = after_ran-same set cycle RanIdle a b same
