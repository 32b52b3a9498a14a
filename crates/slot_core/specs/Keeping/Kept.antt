-- What an executive keeps at every legal history: the bounds of its scene, the order of its soft
-- jobs, and its rows.
use Rattle.std.specs.Prelude.{◌≡◌, ℕ, ◌+◌, ◌-◌, ◌*◌, ◌≤◌, ◌<◌, false, true, List, length, map, drop, count_by, All, Contains}
use Rattle.slot_core.specs.declared.jobs.Key.{Key}
use Rattle.slot_core.specs.declared.jobs.Job.{Job}
use Rattle.slot_core.specs.declared.jobs.SoftJob.{SoftJob}
use Rattle.slot_core.specs.declared.tasks.TaskSet.{TaskSet}
use Rattle.slot_core.specs.Offline.Keys.{same_key, is_offline, is_soft, row_of}
use Rattle.slot_core.specs.Runs.Rising.{AreRising}
use Rattle.slot_core.specs.Offline.OfflineJobs.{offline_jobs}
use Rattle.slot_core.specs.Offline.Windows.{precedes}
use Rattle.slot_core.specs.Runs.Scenes.{Scene}
use Rattle.slot_core.specs.Runs.Demand.{need_by}

-- each offline job of the list is a job of the set in these cycles, whatever it has left
abbrev pub ArePlanned : TaskSet → ℕ → ℕ → List Job → Type 0
ArePlanned set cycle cycles jobs =
    (job : Job) → Contains jobs job → is_offline job.key ≡ true
    → Contains (offline_jobs set cycle cycles) (record job { left = job.declared })

-- the successors of each job of the list are listed too, and have not started
abbrev pub SuccessorsWait : TaskSet → ℕ → ℕ → List Job → Type 0
SuccessorsWait set cycle cycles jobs =
    (before after : Job) → Contains jobs before
    → Contains (offline_jobs set cycle cycles) after
    → precedes set before.key after.key ≡ true
    → Contains jobs after

-- the predecessors of each job of the list are listed too, and have not started
abbrev pub PredecessorsWait : TaskSet → ℕ → ℕ → List Job → Type 0
PredecessorsWait set cycle cycles jobs =
    (before after : Job) → Contains jobs after
    → Contains (offline_jobs set cycle cycles) before
    → precedes set before.key after.key ≡ true
    → Contains jobs before

-- each key stands at most once
abbrev pub AreApart : List Job → Type 0
AreApart jobs = (key : Key) → count_by (λ (j : Job). same_key j.key key) jobs ≤ 1

-- the bounds of a scene that holds the offline jobs of so many cycles
pub record KeepsBounds (set : TaskSet) (cycle cycles : ℕ) (scene : Scene) : Type 0 where
  -- what is needed by each later time fits the slots up to it: the jobs due by then, and the
  -- densest arrivals
  pub fits :
      (x : ℕ) → scene.time ≤ x → x ≤ cycles * cycle
      → need_by set.sporadics scene scene.time x ≤ x - scene.time
  -- each job is due later, and has from one to all of its slots left
  pub left :
      (job : Job) → Contains scene.jobs job
      → (scene.time < job.dl) × (1 ≤ job.left) × (job.left ≤ job.declared)
  -- an offline one is a job of the set in these cycles
  pub planned : ArePlanned set cycle cycles scene.jobs
  -- any other is firm or sporadic and has come: it may start now, and is due at most a cycle from
  -- now
  pub come :
      (job : Job) → Contains scene.jobs job → is_offline job.key ≡ false
      → (is_soft job.key ≡ false) × (job.est ≤ scene.time) × (job.dl ≤ scene.time + cycle)
  -- the offline jobs that start later remain, not started
  pub untouched :
      (job : Job) → Contains (offline_jobs set cycle cycles) job → scene.time < job.est
      → Contains scene.jobs job
  -- so do the successors of a remaining job
  pub waiting : SuccessorsWait set cycle cycles scene.jobs
  -- each key stands at most once
  pub apart : AreApart scene.jobs
  -- there is one next legal arrival for each sporadic task, at most a cycle from now
  pub one_each : length scene.nexts ≡ length set.sporadics
  pub reach : All (λ next. next ≤ scene.time + cycle) scene.nexts

-- soft jobs wait in the order of their rows, no more than the limit, and only the first has started
pub record KeepsSoftOrder (limit : ℕ) (soft : List SoftJob) : Type 0 where
  pub few : length soft ≤ limit
  pub rows : AreRising 0 (map (λ (s : SoftJob). s.row) soft)
  pub left : All (λ (s : SoftJob). (1 ≤ s.left) × (s.left ≤ s.declared)) soft
  pub whole : All (λ (s : SoftJob). s.left ≡ s.declared) (drop 1 soft)

-- no row in a key is above the last row
pub record KeepsRows (row : ℕ) (scene : Scene) : Type 0 where
  pub jobs : All (λ (j : Job). row_of j.key ≤ row) scene.jobs
  pub soft : All (λ (s : SoftJob). s.row ≤ row) scene.soft
