-- The ranges of the numbers in a task set, and sound task sets.
use Rattle.std.specs.Prelude.{ℕ, ◌-◌, Bool, ◌&&◌, length, nat_le, is_none}
use Rattle.std.specs.List.{list_all}
use Rattle.slot_core.specs.declared.TheConstants.{GRAPH_LIMIT, TASK_LIMIT, AFTER_LIMIT, SPORADIC_LIMIT, SLOT_LIMIT, SOFT_LIMIT}
use Rattle.slot_core.specs.declared.tasks.Task.{Task}
use Rattle.slot_core.specs.declared.tasks.Graph.{Graph}
use Rattle.slot_core.specs.declared.tasks.Sporadic.{Sporadic}
use Rattle.slot_core.specs.declared.tasks.TaskSet.{TaskSet}
use Rattle.slot_core.specs.Sets.Names.{is_name}
use Rattle.slot_core.specs.Sets.Faults.{set_fault}

-- low ≤ n ≤ high
abbrev pub is_between : ℕ → ℕ → ℕ → Bool
is_between low high n = nat_le low n && nat_le n high

-- the numbers of a task are in their ranges, and its name is well formed
abbrev pub task_in_range : Task → Bool
task_in_range task =
    is_name task.name
    && is_between 1 SLOT_LIMIT task.wcet
    && nat_le (length task.after) AFTER_LIMIT

-- so are those of a graph and of its tasks
abbrev pub graph_in_range : Graph → Bool
graph_in_range graph =
    is_name graph.name
    && is_between 1 SLOT_LIMIT graph.period
    && is_between 0 (graph.period - 1) graph.offset
    && is_between 1 (graph.period - graph.offset) graph.deadline
    && is_between 1 TASK_LIMIT (length graph.tasks)
    && list_all task_in_range graph.tasks

-- so are those of a sporadic task
abbrev pub sporadic_in_range : Sporadic → Bool
sporadic_in_range s =
    is_name s.name
    && is_between 1 SLOT_LIMIT s.wcet
    && is_between 1 SLOT_LIMIT s.separation
    && is_between 1 s.separation s.deadline

-- every number is in its range, every count within its limit, and every name well formed
abbrev pub is_in_range : TaskSet → Bool
is_in_range set =
    is_between 1 SOFT_LIMIT set.soft_limit
    && is_between 1 GRAPH_LIMIT (length set.graphs)
    && list_all graph_in_range set.graphs
    && nat_le (length set.sporadics) SPORADIC_LIMIT
    && list_all sporadic_in_range set.sporadics

-- a sound set: in range, with distinct names, `after` entries that each name a task of the graph
-- once, no task on a loop, and a cycle within its limit
abbrev pub is_sound : TaskSet → Bool
is_sound set = is_in_range set && is_none (set_fault set)
