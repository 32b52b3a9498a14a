-- What growth does to demand and to feasibility, and that there is one margin.
use Rattle.std.specs.Prelude.{◌≡◌, ℕ, ◌≤◌, true, List, [], ◌∷◌, Some, ⊤}
use Rattle.slot_core.specs.declared.faults.Part.{Part}
use Rattle.slot_core.specs.declared.jobs.Job.{Job}
use Rattle.slot_core.specs.declared.jobs.Window.{Window}
use Rattle.slot_core.specs.declared.tasks.TaskSet.{TaskSet}
use Rattle.slot_core.specs.Sets.Cycles.{cycle_of}
use Rattle.slot_core.specs.Sets.Ranges.{is_sound}
use Rattle.slot_core.specs.Offline.OfflineJobs.{cycle_jobs}
use Rattle.slot_core.specs.Feasibility.Feasible.{IsFeasible, demand}
use Rattle.slot_core.specs.Claims.Growth.{grown, StillFits, IsMargin}
use Rattle.margin_find.specs.declared.margin.TaskMargin.{TaskMargin}
use Rattle.margin_find.specs.Parts.{IsTaskOf}
use Rattle.margin_find.specs.Margins.{margin_of}

-- the same job of longer tasks starts no earlier, is due no later, and has no fewer slots
pub record HasNoMoreRoom (job longer : Job) : Type 0 where
  pub key : job.key ≡ longer.key
  pub est : job.est ≤ longer.est
  pub dl : longer.dl ≤ job.dl
  pub declared : job.declared ≤ longer.declared

-- the lists have the same length, and items at the same place are related
abbrev pub Pairwise : {X : Type 0} → (X → X → Type 0) → List X → List X → Type 0
Pairwise R [] [] = ⊤
Pairwise R [] (y ∷ ys) = ⊥
Pairwise R (x ∷ xs) [] = ⊥
Pairwise R (x ∷ xs) (y ∷ ys) = R x y × Pairwise R xs ys

-- with more growth, job by job, starts only rise, deadlines only fall, and slots only rise
abbrev pub WindowsOnlyShrink : Type 0
WindowsOnlyShrink =
    (set : TaskSet) (part : Part) (less more : ℕ) → less ≤ more → (cycle n : ℕ)
    → Pairwise
    HasNoMoreRoom
    (cycle_jobs (grown set part less) cycle n)
    (cycle_jobs (grown set part more) cycle n)

-- so with more growth no window needs less
abbrev pub DemandOnlyRises : Type 0
DemandOnlyRises =
    (set : TaskSet) (part : Part) (less more : ℕ) → less ≤ more
    → (cycle a b : ℕ)
    → demand (grown set part less) cycle a b ≤ demand (grown set part more) cycle a b

-- the cycle stays
abbrev pub CycleStays : Type 0
CycleStays =
    (set : TaskSet) (part : Part) (growth : ℕ) → cycle_of (grown set part growth) ≡ cycle_of set

-- so a set that fits with more growth fits with less
abbrev pub LessGrowthFits : Type 0
LessGrowthFits =
    (set : TaskSet) (part : Part) (less more : ℕ) → less ≤ more
    → StillFits set part more → StillFits set part less

-- a task has at most one margin
abbrev pub MarginsAreUnique : Type 0
MarginsAreUnique =
    (set : TaskSet) (part : Part) (growth other : ℕ) (window other_window : Window)
    → IsMargin set part growth window → IsMargin set part other other_window
    → (growth ≡ other) × (window ≡ other_window)

-- each task and sporadic task of a sound feasible set has a margin, the one of its line
abbrev pub EachTaskHasItsMargin : Type 0
EachTaskHasItsMargin =
    (set : TaskSet) (part : Part)
    → is_sound set ≡ true → IsFeasible set (cycle_of set) → IsTaskOf set part
    → (m : TaskMargin) × (margin_of set part ≡ Some m) × (m.at ≡ part)
    × IsMargin set part m.margin.growth m.margin.window
