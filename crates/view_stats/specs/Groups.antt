-- The groups of jobs that have a row each.
use Rattle.std.specs.Prelude.{ℕ, Bool, true, false, ◌&&◌, ◌==◌, List, [], ◌∷◌, ◌++◌, codes, filter, flat_map, length, map}
use Rattle.std.specs.List.{range_with_len}
use Rattle.slot_core.specs.declared.jobs.Key.{Key}
use Rattle.slot_core.specs.declared.jobs.Key.TheVariants.{Offline, Sporadic as SporadicKey, Firm as FirmKey, Soft as SoftKey}
use Rattle.slot_core.specs.declared.tasks.TaskSet.{TaskSet}
use Rattle.slot_core.specs.Offline.OfflineJobs.{tasks_of}
use Rattle.slot_core.specs.Output.Texts.{graph_name, sporadic_name, task_name}
use Rattle.view_stats.specs.declared.groups.Group.{Group}
use Rattle.view_stats.specs.declared.groups.Group.TheVariants.{Task, Sporadic, Firm, Soft, All}
use Rattle.view_stats.specs.declared.outcomes.Outcome.{Outcome}

-- the group has the job of this key
abbrev pub holds : Group → Key → Bool
holds (Task graph task) (Offline g t instance) = g == graph && t == task
holds (Sporadic index) (SporadicKey i row) = i == index
holds Firm (FirmKey row) = true
holds Soft (SoftKey row) = true
holds All key = true
holds group key = false

-- those of its jobs
abbrev pub outcomes_in : Group → List Outcome → List Outcome
outcomes_in group outcomes = filter (λ (o : Outcome). holds group o.key) outcomes

-- the job is one of this graph
abbrev pub is_of_graph : ℕ → Key → Bool
is_of_graph graph (Offline g t instance) = g == graph
is_of_graph graph key = false

-- the outcomes of the jobs of a graph
abbrev pub outcomes_of_graph : ℕ → List Outcome → List Outcome
outcomes_of_graph graph outcomes = filter (λ (o : Outcome). is_of_graph graph o.key) outcomes

-- the tasks of a graph
abbrev pub task_groups : TaskSet → ℕ → List Group
task_groups set graph = map (Task graph) (range_with_len 0 (length (tasks_of set graph)))

-- the tasks of all graphs, in the order of the set
abbrev pub graph_groups : TaskSet → List Group
graph_groups set = flat_map (task_groups set) (range_with_len 0 (length set.graphs))

-- the sporadic tasks
abbrev pub sporadic_groups : TaskSet → List Group
sporadic_groups set = map Sporadic (range_with_len 0 (length set.sporadics))

-- the groups of a set: its tasks, its sporadic tasks, firm jobs, soft jobs, and all jobs
abbrev pub groups_of : TaskSet → List Group
groups_of set = graph_groups set ++ sporadic_groups set ++ Firm ∷ Soft ∷ All ∷ []

-- the kind of its jobs
abbrev pub group_kind : Group → List ℕ
group_kind (Task graph task) = codes "offline"
group_kind (Sporadic index) = codes "sporadic"
group_kind Firm = codes "firm"
group_kind Soft = codes "soft"
group_kind All = codes "all"

-- the graph of a task
abbrev pub group_graph : TaskSet → Group → List ℕ
group_graph set (Task graph task) = graph_name set graph
group_graph set group = []

-- the name of a task, or of a sporadic task
abbrev pub group_task : TaskSet → Group → List ℕ
group_task set (Task graph task) = task_name set graph task
group_task set (Sporadic index) = sporadic_name set index
group_task set group = []
