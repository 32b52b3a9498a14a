-- The tasks of a set that may grow, and how much of the cycle one slot of growth takes.
use Rattle.std.specs.Prelude.{ℕ, ◌<◌, List, [], length, slice_get}
use Rattle.std.specs.Option.{option_map_or}
use Rattle.slot_core.specs.declared.faults.Part.{Part}
use Rattle.slot_core.specs.declared.faults.Part.TheVariants.{Task as TaskPart, Sporadic as SporadicPart}
use Rattle.slot_core.specs.declared.tasks.Task.{Task}
use Rattle.slot_core.specs.declared.tasks.Graph.{Graph}
use Rattle.slot_core.specs.declared.tasks.Sporadic.{Sporadic}
use Rattle.slot_core.specs.declared.tasks.TaskSet.{TaskSet}
use Rattle.slot_core.specs.Feasibility.Sporadics.{arrivals_due}
use Rattle.slot_core.specs.Offline.OfflineJobs.{tasks_of, instances_of}
use Rattle.slot_core.specs.Offline.Precedence.{wcet_of}

-- the part is a task or a sporadic task of the set
abbrev pub IsTaskOf : TaskSet → Part → Type 0
IsTaskOf set (TaskPart graph task) = task < length (tasks_of set graph)
IsTaskOf set (SporadicPart index) = index < length set.sporadics
IsTaskOf set _ = ⊥

-- how many of its jobs a cycle counts: one an instance of its graph, or the densest arrivals that
-- are due in the cycle
abbrev pub jobs_in_cycle : TaskSet → ℕ → Part → ℕ
jobs_in_cycle set cycle (TaskPart graph task) = instances_of set cycle graph
jobs_in_cycle set cycle (SporadicPart index) =
    option_map_or
    (λ (s : Sporadic). arrivals_due s 0 0 cycle)
    (slice_get set.sporadics index)
    0
jobs_in_cycle set cycle _ = 0

-- the tasks of the graph at this place
abbrev pub tasks_at : List Graph → ℕ → List Task
tasks_at graphs g = option_map_or (λ (graph : Graph). graph.tasks) (slice_get graphs g) []

-- the worst case of the sporadic task at this place
abbrev pub sporadic_wcet : List Sporadic → ℕ → ℕ
sporadic_wcet sporadics index =
    option_map_or (λ (s : Sporadic). s.wcet) (slice_get sporadics index) 0

-- the worst case of the task
abbrev pub wcet_at : TaskSet → Part → ℕ
wcet_at set (TaskPart graph task) = wcet_of (tasks_of set graph) task
wcet_at set (SporadicPart index) = sporadic_wcet set.sporadics index
wcet_at set _ = 0
