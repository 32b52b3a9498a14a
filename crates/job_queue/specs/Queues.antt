-- What a queue of jobs is, and what a search in it looks at.
use Rattle.std.specs.Prelude.{◌≡◌, ℕ, zero, suc, ◌+◌, ◌-◌, ◌<◌, ◌≤◌, ◌^◌, false, List, [], ◌∷◌, ◌++◌, find, length, min, reverse, slice_index_or, All, Option, Some}
use Rattle.std.specs.Option.{option_map}
use Rattle.std.specs.List.{position_or_len}
use Rattle.std.specs.List.Sorted.{IsNonDecreasingBy}
use Rattle.slot_core.specs.declared.jobs.Key.{Key}
use Rattle.slot_core.specs.declared.jobs.Job.{Job}
use Rattle.slot_core.specs.Offline.Keys.{is_earlier, same_key, is_soft}
use Rattle.slot_core.specs.Keeping.Kept.{AreApart}
use Rattle.slot_core.specs.Runs.Choice.{ready}

-- what contracts see of a queue: its jobs, and how many it has places for
pub record QueueParts : Type 0 where
  pub jobs : List Job
  pub capacity : ℕ

-- what every queue is: guaranteed jobs with slots left, no two of one key, no more than its places
pub record IsQueue (queue : QueueParts) : Type 0 where
  pub apart : AreApart queue.jobs
  pub guaranteed : All (λ (j : Job). is_soft j.key ≡ false) queue.jobs
  pub left : All (λ (j : Job). 1 ≤ j.left) queue.jobs
  pub few : length queue.jobs ≤ queue.capacity

-- no job goes by earliest deadline first before one that stands behind it
abbrev pub IsEarliestLast : List Job → Type 0
IsEarliestLast jobs =
    (i k : ℕ) (d : Job) → i < k → k < length jobs
    → is_earlier (slice_index_or jobs i d) (slice_index_or jobs k d) ≡ false

-- what a queue keeps of its jobs beside, of those that have come, the earliest last, and of its
-- listed ones, in order of start: in the first two parts places are reserved for all
pub record KeepsQueue
    (beside come listed : List Job) (capacity places_beside places_come : ℕ)
    : Type 0 where
  pub queue : IsQueue (record { jobs = beside ++ reverse come ++ listed; capacity = capacity })
  pub latest_first : IsEarliestLast come
  pub ordered : IsNonDecreasingBy (λ (j : Job). j.est) listed
  pub small : capacity ≤ 2 ^ 20
  pub beside_fits : capacity ≤ places_beside
  pub come_fits : capacity ≤ places_come

-- how many jobs a search for this key looks at: those up to the one of that key, or all
abbrev pub search_steps : Key → List Job → ℕ
search_steps key jobs =
    min (position_or_len (λ (j : Job). same_key j.key key) jobs + 1) (length jobs)

-- the place of the job of this key, where it may start by `now`; none where no such job has it
pub record IsReadyPlace (now : ℕ) (key : Key) (jobs : List Job) (place : Option ℕ) : Type 0 where
  pub job :
      (d : Job) → find (λ (j : Job). same_key j.key key) (ready now jobs)
      ≡ option_map (λ (i : ℕ). slice_index_or jobs i d) place
  pub within : (i : ℕ) → place ≡ Some i → i < length jobs

-- the jobs, where the one at this place has run one slot
abbrev pub after_run_at : ℕ → List Job → List Job
after_run_at place [] = []
after_run_at zero (job ∷ jobs) = record job { left = job.left - 1 } ∷ jobs
after_run_at (suc place) (job ∷ jobs) = job ∷ after_run_at place jobs
