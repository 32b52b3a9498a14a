-- A task that grows: its worst case is raised, and the set still fits up to its margin.
use Rattle.std.specs.Prelude.{◌≡◌, ℕ, ◌+◌, ◌-◌, ◌≤◌, ◌<◌, List, [], ◌∷◌, zero, suc, Some}
use Rattle.slot_core.specs.declared.faults.Part.{Part}
use Rattle.slot_core.specs.declared.faults.Part.TheVariants.{Task as TaskPart, Sporadic as SporadicPart}
use Rattle.slot_core.specs.declared.jobs.Window.{Window}
use Rattle.slot_core.specs.declared.tasks.Task.{Task}
use Rattle.slot_core.specs.declared.tasks.Graph.{Graph}
use Rattle.slot_core.specs.declared.tasks.Sporadic.{Sporadic}
use Rattle.slot_core.specs.declared.tasks.TaskSet.{TaskSet}
use Rattle.slot_core.specs.Sets.Cycles.{cycle_of}
use Rattle.slot_core.specs.Feasibility.Feasible.{IsFeasible, demand, counterexample}

-- the list with its item at this place changed; where there is none, the list
abbrev pub changed_at : {X : Type 0} → (X → X) → ℕ → List X → List X
changed_at f n [] = []
changed_at f zero (x ∷ xs) = f x ∷ xs
changed_at f (suc n) (x ∷ xs) = x ∷ changed_at f n xs

-- the task with so many slots more in the worst case
abbrev pub longer_task : ℕ → Task → Task
longer_task growth task = record task { wcet = task.wcet + growth }

-- the graph with its task at this place longer
abbrev pub with_longer_task : ℕ → ℕ → Graph → Graph
with_longer_task task growth graph =
    record graph { tasks = changed_at (longer_task growth) task graph.tasks }

-- the sporadic task with so many slots more in the worst case
abbrev pub longer_sporadic : ℕ → Sporadic → Sporadic
longer_sporadic growth sporadic = record sporadic { wcet = sporadic.wcet + growth }

-- the set with one task or sporadic task longer, past the limit of a worst case too
abbrev pub grown : TaskSet → Part → ℕ → TaskSet
grown set (TaskPart graph task) growth =
    record set { graphs = changed_at (with_longer_task task growth) graph set.graphs }
grown set (SporadicPart index) growth =
    record set { sporadics = changed_at (longer_sporadic growth) index set.sporadics }
grown set _ growth = set

-- the grown set is feasible
abbrev pub StillFits : TaskSet → Part → ℕ → Type 0
StillFits set part growth = IsFeasible (grown set part growth) (cycle_of (grown set part growth))

-- the margin of a part: the greatest growth with which the set still fits, and the window that
-- fails first with one slot more
pub record IsMargin (set : TaskSet) (part : Part) (growth : ℕ) (window : Window) : Type 0 where
  -- with every growth up to the margin it fits
  pub fits : (g : ℕ) → g ≤ growth → StillFits set part g
  -- with every greater growth it does not
  pub fails : (g : ℕ) → growth < g → ¬ (StillFits set part g)
  -- the window is the counterexample to the first growth that is too great
  pub first :
      let longer = grown set part (growth + 1) in
      counterexample longer (cycle_of longer) ≡ Some window
  -- that growth needs so many slots in it
  pub needs :
      let longer = grown set part (growth + 1) in
      demand longer (cycle_of longer) window.from window.until ≡ window.demand
  -- which are more than it has
  pub more : window.until - window.from < window.demand
