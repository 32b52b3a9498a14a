-- What a set needs in a cycle, before rounding and after.
use Rattle.std.specs.Prelude.{ℕ, ◌+◌, ◌-◌, ◌*◌, ◌/◌, ◌^◌, ◌<◌, ◌≤◌, min, List, length, All, sum_by}
use Rattle.slot_core.specs.declared.TheConstants.{GRAPH_LIMIT, SLOT_LIMIT, SPORADIC_LIMIT, TASK_LIMIT}
use Rattle.slot_core.specs.declared.tasks.TaskSet.{TaskSet}
use Rattle.slot_core.specs.Feasibility.Feasible.{demand}
use Rattle.slot_core.specs.Sets.Cycles.{cycle_of}
use Rattle.clock_units.specs.declared.sets.PhysicalTask.{PhysicalTask}
use Rattle.clock_units.specs.declared.sets.PhysicalGraph.{PhysicalGraph}
use Rattle.clock_units.specs.declared.sets.PhysicalSporadic.{PhysicalSporadic}
use Rattle.clock_units.specs.declared.sets.PhysicalSet.{PhysicalSet}
use Rattle.clock_units.specs.Rounding.{up}
use Rattle.slot_lengths.specs.declared.loads.Load.{Load}

-- the worst cases of tasks, one after the other
abbrev pub tasks_time : List PhysicalTask → ℕ
tasks_time tasks = sum_by (λ (t : PhysicalTask). t.wcet) tasks

-- the time of the jobs of a graph that are released within so long
abbrev pub graph_work : ℕ → PhysicalGraph → ℕ
graph_work time graph = up graph.period time * tasks_time graph.tasks

-- the time of the arrivals of a sporadic task that may come within so long
abbrev pub alarm_work : ℕ → PhysicalSporadic → ℕ
alarm_work time sporadic = up sporadic.separation time * sporadic.wcet

-- the time that all of them take within so long, as the set says it
abbrev pub work_in : ℕ → PhysicalSet → ℕ
work_in time set = sum_by (graph_work time) set.graphs + sum_by (alarm_work time) set.sporadics

-- a time is at most SLOT_LIMIT times as long as another
pub record IsFewTimes (size time : ℕ) : Type 0 where
  pub some : 0 < size
  pub few : time ≤ SLOT_LIMIT * size

-- the time is so of the period of a graph, which has no more tasks than it may
pub record HasFewJobs (time : ℕ) (graph : PhysicalGraph) : Type 0 where
  pub period : IsFewTimes graph.period time
  pub tasks : length graph.tasks ≤ TASK_LIMIT

-- a set has no more in so long than a sound set in slots has in a cycle
pub record HasLittleWork (time : ℕ) (set : PhysicalSet) : Type 0 where
  pub few_graphs : length set.graphs ≤ GRAPH_LIMIT
  pub graphs : All (HasFewJobs time) set.graphs
  pub few_sporadics : length set.sporadics ≤ SPORADIC_LIMIT
  pub sporadics : All (λ (s : PhysicalSporadic). IsFewTimes s.separation time) set.sporadics

-- a share of a whole in millionths, down, where 64 bits hold it
abbrev pub millionths : ℕ → ℕ → ℕ
millionths whole part = min (2 ^ 64 - 1) (part * 1000000 / whole)

-- what a set in physical time needs in a cycle of its set in slots
abbrev pub load_of : PhysicalSet → TaskSet → Load
load_of physical set =
    let cycle = cycle_of set in
    record {
      cycle = cycle;
      needed = demand set cycle 0 cycle;
      before = millionths (cycle * physical.slot) (work_in (cycle * physical.slot) physical);
    }
