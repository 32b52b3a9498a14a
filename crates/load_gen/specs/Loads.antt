-- The task sets of a generated load.
use Rattle.std.specs.Prelude.{ℕ, ◌%◌, ◌==◌, List, [], ◌∷◌, ◌++◌, codes, decimal, map, if◌then◌else◌}
use Rattle.std.specs.List.{range_with_len}
use Rattle.slot_core.specs.declared.tasks.Task.{Task}
use Rattle.slot_core.specs.declared.tasks.Graph.{Graph}
use Rattle.slot_core.specs.declared.tasks.Sporadic.{Sporadic}
use Rattle.slot_core.specs.declared.tasks.TaskSet.{TaskSet}

-- a task of one slot, with the tasks that it comes after
abbrev pub load_task : List ℕ → List ℕ → Task
load_task name after = record { name = name; wcet = 1; after = after }

-- three tasks in a row: a, b and c
abbrev pub load_tasks : List Task
load_tasks =
    load_task (codes "a") []
    ∷ load_task (codes "b") (0 ∷ [])
    ∷ load_task (codes "c") (1 ∷ [])
    ∷ []

-- the periods of the graphs in turn, in slots
abbrev pub load_period : ℕ → ℕ
load_period i = if i % 3 == 0 then 64 else (if i % 3 == 1 then 128 else 256)

-- graph i, due by the end of its period
abbrev pub load_graph : ℕ → Graph
load_graph i =
    record {
      name = codes "g" ++ decimal i;
      period = load_period i;
      offset = 0;
      deadline = load_period i;
      tasks = load_tasks;
    }

-- a sporadic task of one slot, due in half of its separation
abbrev pub load_sporadic : Sporadic
load_sporadic = record { name = codes "s"; wcet = 1; separation = 64; deadline = 32 }

-- the set of load n: n graphs and the sporadic task, with room for 8 soft jobs
abbrev pub load_set : ℕ → TaskSet
load_set n =
    record {
      soft_limit = 8;
      graphs = map load_graph (range_with_len 0 n);
      sporadics = load_sporadic ∷ [];
    }
