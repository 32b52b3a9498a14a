-- Offline jobs: the raw jobs of a cycle, and their windows derived from precedence
-- (Chetto, Silly and Bouchentouf 1990).
use Rattle.std.specs.Prelude.{ℕ, zero, suc, ◌+◌, ◌-◌, ◌*◌, ◌/◌, List, [], ◌++◌, map, flat_map, slice_get}
use Rattle.std.specs.Option.{option_map_or}
use Rattle.std.specs.List.{range_with_len, enumerate_from}
use Rattle.slot_core.specs.declared.jobs.Key.{Key}
use Rattle.slot_core.specs.declared.jobs.Key.TheVariants.{Offline}
use Rattle.slot_core.specs.declared.jobs.RawJob.{RawJob}
use Rattle.slot_core.specs.declared.jobs.Job.{Job}
use Rattle.slot_core.specs.declared.tasks.Task.{Task}
use Rattle.slot_core.specs.declared.tasks.Graph.{Graph}
use Rattle.slot_core.specs.declared.tasks.TaskSet.{TaskSet}
use Rattle.slot_core.specs.Offline.Precedence.{longest_before, longest_after}

-- the tasks of a graph of the set
abbrev pub tasks_of : TaskSet → ℕ → List Task
tasks_of set g = option_map_or (λ (graph : Graph). graph.tasks) (slice_get set.graphs g) []

-- when an instance is released
abbrev pub release_of : Graph → ℕ → ℕ
release_of graph instance = instance * graph.period + graph.offset

-- when all of it is due
abbrev pub deadline_of : Graph → ℕ → ℕ
deadline_of graph instance = release_of graph instance + graph.deadline

-- the raw job of a task of graph g in one instance
abbrev pub raw_job : ℕ → Graph → ℕ → ℕ × Task → RawJob
raw_job g graph instance t =
    record {
      key = Offline g t.0 instance;
      release = release_of graph instance;
      deadline = deadline_of graph instance;
      wcet = t.1.wcet;
    }

-- the raw jobs of one instance of graph g, one a task
abbrev pub instance_jobs : ℕ → Graph → ℕ → List RawJob
instance_jobs g graph instance = map (raw_job g graph instance) (enumerate_from 0 graph.tasks)

-- the raw jobs of graph g that are released in cycle n
abbrev pub graph_jobs : ℕ → ℕ → ℕ × Graph → List RawJob
graph_jobs cycle n (g, graph) =
    flat_map
    (instance_jobs g graph)
    (range_with_len (n * (cycle / graph.period)) (cycle / graph.period))

-- the raw jobs of cycle n, by graph, instance and task
abbrev pub raw_jobs : TaskSet → ℕ → ℕ → List RawJob
raw_jobs set cycle n = flat_map (graph_jobs cycle n) (enumerate_from 0 set.graphs)

-- the longest chain of predecessors of an offline job, in slots
abbrev pub chain_before : TaskSet → Key → ℕ
chain_before set (Offline graph task instance) = longest_before (tasks_of set graph) task
chain_before set _ = 0

-- its longest chain of successors, in slots
abbrev pub chain_after : TaskSet → Key → ℕ
chain_after set (Offline graph task instance) = longest_after (tasks_of set graph) task
chain_after set _ = 0

-- the job with its derived window: it starts when its longest chain of predecessors may have run,
-- and is due in time for its longest chain of successors (0 where that chain is longer than the
-- deadline)
abbrev pub derived_job : TaskSet → RawJob → Job
derived_job set raw =
    record {
      key = raw.key;
      est = raw.release + chain_before set raw.key;
      dl = raw.deadline - chain_after set raw.key;
      left = raw.wcet;
      declared = raw.wcet;
    }

-- the offline jobs of cycle n
abbrev pub cycle_jobs : TaskSet → ℕ → ℕ → List Job
cycle_jobs set cycle n = map (derived_job set) (raw_jobs set cycle n)

-- the offline jobs of the first n cycles
abbrev pub offline_jobs : TaskSet → ℕ → ℕ → List Job
offline_jobs set cycle zero = []
offline_jobs set cycle (suc n) = offline_jobs set cycle n ++ cycle_jobs set cycle n

-- how many instances of this graph a cycle has
abbrev pub instances_of : TaskSet → ℕ → ℕ → ℕ
instances_of set cycle graph =
    option_map_or (λ (g : Graph). cycle / g.period) (slice_get set.graphs graph) 0

-- the key of the same task n cycles later
abbrev pub later_key : TaskSet → ℕ → ℕ → Key → Key
later_key set cycle n (Offline graph task instance) =
    Offline graph task (instance + n * instances_of set cycle graph)
later_key set cycle n key = key

-- the job of the same task n cycles later, where its deadline was not cut to 0
abbrev pub later_job : TaskSet → ℕ → ℕ → Job → Job
later_job set cycle n job =
    record job {
      key = later_key set cycle n job.key;
      est = job.est + n * cycle;
      dl = job.dl + n * cycle;
    }
