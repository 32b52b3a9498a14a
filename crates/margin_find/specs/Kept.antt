-- What the tests of longer tasks of one graph share, and the set that has that graph alone.
use Rattle.std.specs.Prelude.{◌≡◌, ℕ, ◌*◌, ◌^◌, ◌<◌, ◌≤◌, ◌==◌, Bool, false, not, List, [], ◌∷◌, All, filter, sum_by, slice_index, IsPermutation, ⊤}
use Rattle.std.specs.List.Sorted.{IsNonDecreasingBy}
use Rattle.slot_core.specs.declared.faults.Part.{Part}
use Rattle.slot_core.specs.declared.faults.Part.TheVariants.{Task as TaskPart}
use Rattle.slot_core.specs.declared.jobs.Key.{Key}
use Rattle.slot_core.specs.declared.jobs.Key.TheVariants.{Offline}
use Rattle.slot_core.specs.declared.jobs.Job.{Job}
use Rattle.slot_core.specs.declared.tasks.Graph.{Graph}
use Rattle.slot_core.specs.declared.tasks.Sporadic.{Sporadic}
use Rattle.slot_core.specs.declared.tasks.TaskSet.{TaskSet}
use Rattle.slot_core.specs.Feasibility.Sporadics.{sporadic_demand}
use Rattle.slot_core.specs.Offline.OfflineJobs.{cycle_jobs}
use Rattle.slot_core.specs.Sets.Cycles.{cycle_of}
use Rattle.margin_find.specs.declared.kept.Kept.{Kept}

-- the key is of a job of this graph
abbrev pub is_of : ℕ → Key → Bool
is_of graph (Offline g t k) = g == graph
is_of graph _ = false

-- the jobs of the first cycle that are of other graphs
abbrev pub jobs_of_others : TaskSet → ℕ → List Job
jobs_of_others set graph =
    filter (λ (j : Job). not (is_of graph j.key)) (cycle_jobs set (cycle_of set) 0)

-- the jobs in the order of their starts
abbrev pub StartInOrder : List Job → Type 0
StartInOrder jobs = IsNonDecreasingBy (λ (j : Job). j.est) jobs

-- jobs that windows cannot tell apart: any sum over starts, deadlines and declared slots is the same
abbrev pub HaveSameWindows : List Job → List Job → Type 0
HaveSameWindows jobs others =
    (f : ℕ → ℕ → ℕ → ℕ)
    → sum_by (λ (j : Job). f j.est j.dl j.declared) jobs
    ≡ sum_by (λ (j : Job). f j.est j.dl j.declared) others

-- a sporadic task that comes once a cycle and takes one slot
abbrev pub once_a_cycle : List ℕ → ℕ → Sporadic
once_a_cycle name cycle = record { name = name; wcet = 1; separation = cycle; deadline = 1 }

-- the set that has this graph alone, and whose cycle is kept by such a sporadic task
abbrev pub alone : ℕ → ℕ → Graph → TaskSet
alone soft_limit cycle graph =
    record {
      soft_limit = soft_limit;
      graphs = graph ∷ [];
      sporadics = once_a_cycle graph.name cycle ∷ [];
    }

-- the cycle of a set, what its densest arrivals need in windows of up to two cycles, and the jobs
-- of all graphs but one
pub record IsKept (set : TaskSet) (kept : Kept) : Type 0 where
  pub whole : kept.cycle ≡ cycle_of set
  pub needed :
      (x : ℕ) → x ≤ 2 * cycle_of set
      → slice_index kept.arrivals x ≡ sporadic_demand set.sporadics [] 0 x
  pub small : All (λ n. n < 2 ^ 63) kept.arrivals
  pub ordered : StartInOrder kept.others.items
  pub listed : IsPermutation (jobs_of_others set kept.graph) kept.others.items

-- the graph of the task is the one whose jobs are not among those that are kept
abbrev pub IsLeftOut : Part → ℕ → Type 0
IsLeftOut (TaskPart graph task) left_out = left_out ≡ graph
IsLeftOut _ left_out = ⊤

-- what is kept serves the tests of this task
abbrev pub ServesFor : TaskSet → Part → Kept → Type 0
ServesFor set part kept = IsKept set kept × IsLeftOut part kept.graph
