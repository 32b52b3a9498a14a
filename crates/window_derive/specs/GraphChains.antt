-- The longest chains of the graphs of a set, and the windows that they give.
use Rattle.std.specs.Prelude.{◌≡◌, ℕ, ◌+◌, ◌-◌, ◌<◌, ◌≤◌, List, length, slice_get, slice_index}
use Rattle.std.specs.Option.{option_map_or}
use Rattle.std.specs.List.{AllZip}
use Rattle.slot_core.specs.declared.TheConstants.{SLOT_LIMIT, TASK_LIMIT}
use Rattle.slot_core.specs.declared.jobs.Job.{Job}
use Rattle.slot_core.specs.declared.jobs.RawJob.{RawJob}
use Rattle.slot_core.specs.declared.jobs.Key.{Key}
use Rattle.slot_core.specs.declared.jobs.Key.TheVariants.{Offline}
use Rattle.slot_core.specs.declared.tasks.Task.{Task}
use Rattle.slot_core.specs.declared.tasks.Graph.{Graph}
use Rattle.window_derive.specs.declared.windows.Chains.{Chains}
use Rattle.window_derive.specs.Chains.{AreChainsBefore, AreChainsAfter}

-- the longest chains of a graph
pub record AreChainsOf (tasks : List Task) (chains : Chains) : Type 0 where
  pub before : AreChainsBefore tasks chains.before
  pub after : AreChainsAfter tasks chains.after

-- the longest chains of each graph
abbrev pub AreChainsOfGraphs : List Graph → List Chains → Type 0
AreChainsOfGraphs graphs chains = AllZip (λ (g : Graph) c. AreChainsOf g.tasks c) graphs chains

-- the longest chain before the task of a key
abbrev pub before_in : List Chains → Key → ℕ
before_in chains (Offline g t k) =
    option_map_or (λ (c : Chains). slice_index c.before t) (slice_get chains g) 0
before_in chains _ = 0

-- the longest chain after it
abbrev pub after_in : List Chains → Key → ℕ
after_in chains (Offline g t k) =
    option_map_or (λ (c : Chains). slice_index c.after t) (slice_get chains g) 0
after_in chains _ = 0

-- the job with the window that these chains give
abbrev pub job_by : List Chains → RawJob → Job
job_by chains raw =
    record {
      key = raw.key;
      est = raw.release + before_in chains raw.key;
      dl = raw.deadline - after_in chains raw.key;
      left = raw.wcet;
      declared = raw.wcet;
    }

-- there are chains for the key, and the job is released early enough for its start to be a number
-- of slots
pub record HasChains (chains : List Chains) (raw : RawJob) : Type 0 where
  pub listed : (g t k : ℕ) → raw.key ≡ Offline g t k → (g < length chains) × (t < TASK_LIMIT)
  pub early : raw.release ≤ SLOT_LIMIT
