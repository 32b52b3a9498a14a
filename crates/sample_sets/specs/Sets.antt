-- Task sets of the examples.
use Rattle.std.specs.Prelude.{ℕ, List, [], ◌∷◌, codes}
use Rattle.slot_core.specs.declared.tasks.Task.{Task}
use Rattle.slot_core.specs.declared.tasks.Graph.{Graph}
use Rattle.slot_core.specs.declared.tasks.Sporadic.{Sporadic}
use Rattle.slot_core.specs.declared.tasks.TaskSet.{TaskSet}

-- a task with its declared slots and the tasks that it comes after
abbrev pub task : List ℕ → ℕ → List ℕ → Task
task name wcet after = record { name = name; wcet = wcet; after = after }

-- a graph without offset whose deadline is its period
abbrev pub plain_graph : List ℕ → ℕ → List Task → Graph
plain_graph name period tasks =
    record { name = name; period = period; offset = 0; deadline = period; tasks = tasks }

-- a graph of one task
abbrev pub lone_task : List ℕ → ℕ → ℕ → ℕ → ℕ → Graph
lone_task name period offset deadline wcet =
    record {
      name = name;
      period = period;
      offset = offset;
      deadline = deadline;
      tasks = task (codes "w") wcet [] ∷ [];
    }

-- a sporadic task
abbrev pub sporadic : List ℕ → ℕ → ℕ → ℕ → Sporadic
sporadic name wcet separation deadline =
    record { name = name; wcet = wcet; separation = separation; deadline = deadline }

-- a task set
abbrev pub set_of : ℕ → List Graph → List Sporadic → TaskSet
set_of soft graphs sporadics =
    record { soft_limit = soft; graphs = graphs; sporadics = sporadics }

-- a graph of two tasks in a row, period 8
abbrev pub pair_graph : Graph
pair_graph = plain_graph (codes "g") 8 (task (codes "a") 2 [] ∷ task (codes "b") 1 (0 ∷ []) ∷ [])

-- the set of that graph
abbrev pub pair_set : TaskSet
pair_set = set_of 64 (pair_graph ∷ []) []

-- the same, with room for one soft job
abbrev pub one_soft_set : TaskSet
one_soft_set = set_of 1 (pair_graph ∷ []) []

-- a short deadline beside long work, which borrows from it
abbrev pub borrowing_set : TaskSet
borrowing_set =
    set_of 64 (lone_task (codes "p") 10 0 4 1 ∷ lone_task (codes "q") 10 0 10 8 ∷ []) []

-- the pair beside a sporadic alarm
abbrev pub alarm_set : TaskSet
alarm_set = set_of 64 (pair_graph ∷ []) (sporadic (codes "alarm") 1 8 2 ∷ [])

-- a task with an offset, and stretches without jobs
abbrev pub offset_set : TaskSet
offset_set = set_of 64 (lone_task (codes "h") 6 2 3 2 ∷ []) []

-- three tasks, each after the one before
abbrev pub row_of_three : List ℕ → ℕ → List ℕ → ℕ → List ℕ → ℕ → List ℕ → ℕ → Graph
row_of_three name period first a second b third c =
    plain_graph name period (task first a [] ∷ task second b (0 ∷ []) ∷ task third c (1 ∷ []) ∷ [])

-- the graphs of a flight controller: its inertial unit
abbrev pub imu_graph : Graph
imu_graph = row_of_three (codes "imu") 10 (codes "read") 1 (codes "fuse") 1 (codes "ctl") 1

-- its receiver of positions
abbrev pub gps_graph : Graph
gps_graph = row_of_three (codes "gps") 20 (codes "read") 1 (codes "fix") 2 (codes "nav") 1

-- its radio link
abbrev pub link_graph : Graph
link_graph = row_of_three (codes "link") 40 (codes "recv") 2 (codes "plan") 3 (codes "send") 1

-- the flight controller, with a remote control that may speak every 20 slots
abbrev pub flight_set : TaskSet
flight_set =
    set_of
    64
    (imu_graph ∷ gps_graph ∷ link_graph ∷ [])
    (sporadic (codes "rc") 1 20 10 ∷ [])

-- the same without it
abbrev pub unmanned_flight_set : TaskSet
unmanned_flight_set = set_of 64 (imu_graph ∷ gps_graph ∷ link_graph ∷ []) []

-- two jobs that together need three of two slots
abbrev pub crowded_set : TaskSet
crowded_set = set_of 64 (lone_task (codes "c") 10 5 2 2 ∷ lone_task (codes "d") 10 6 1 1 ∷ []) []

-- a task longer than its cycle
abbrev pub overlong_set : TaskSet
overlong_set = set_of 64 (lone_task (codes "g") 2 0 2 3 ∷ []) []

-- two sporadic tasks that may arrive in one slot, each due in it
abbrev pub two_alarms_set : TaskSet
two_alarms_set =
    set_of 64 (pair_graph ∷ []) (sporadic (codes "s") 1 8 1 ∷ sporadic (codes "t") 1 8 1 ∷ [])

-- a chain longer than its deadline
abbrev pub long_chain_set : TaskSet
long_chain_set =
    set_of
    64
    (record {
      name = codes "g";
      period = 10;
      offset = 0;
      deadline = 3;
      tasks =
          task (codes "a") 2 []
          ∷ task (codes "b") 2 (0 ∷ [])
          ∷ task (codes "c") 2 (1 ∷ [])
          ∷ [];
    } ∷ [])
    []

-- two tasks in a row with a deadline that leaves no slot for the first, which is due at 0
abbrev pub cut_deadline_set : TaskSet
cut_deadline_set =
    set_of
    64
    (record {
      name = codes "g";
      period = 4;
      offset = 0;
      deadline = 2;
      tasks = task (codes "a") 1 [] ∷ task (codes "b") 2 (0 ∷ []) ∷ [];
    } ∷ [])
    []

-- work in the second half of a cycle that takes all of it, beside a sporadic alarm
abbrev pub late_half_set : TaskSet
late_half_set = set_of 64 (lone_task (codes "g") 10 5 5 5 ∷ []) (sporadic (codes "s") 1 10 5 ∷ [])

-- one slot of work in every two
abbrev pub half_set : TaskSet
half_set = set_of 1 (lone_task (codes "g") 2 0 2 1 ∷ []) []

-- two tasks in a row in every two slots, one slot each
abbrev pub row_set : TaskSet
row_set =
    set_of
    1
    (plain_graph (codes "g") 2 (task (codes "a") 1 [] ∷ task (codes "b") 1 (0 ∷ []) ∷ []) ∷ [])
    []

-- one slot of work in every two, beside a sporadic task that may take the other
abbrev pub shared_set : TaskSet
shared_set = set_of 1 (lone_task (codes "g") 2 0 2 1 ∷ []) (sporadic (codes "s") 1 2 2 ∷ [])

-- two tasks of one slot with these periods
abbrev pub two_periods_set : ℕ → ℕ → TaskSet
two_periods_set first second =
    set_of
    64
    (lone_task (codes "g") first 0 first 1 ∷ lone_task (codes "h") second 0 second 1 ∷ [])
    []

-- two graphs of two tasks and two sporadic tasks: of each two the second has the longest name
abbrev pub long_names_set : TaskSet
long_names_set =
    set_of
    64
    (plain_graph (codes "g") 8 (task (codes "a") 1 [] ∷ task (codes "b") 1 [] ∷ [])
    ∷ plain_graph
    (codes "graph-name-of-24-bytes_x")
    8
    (task (codes "a") 1 [] ∷ task (codes "Task_name-of-24-bytes-yz") 1 [] ∷ [])
    ∷ [])
    (sporadic (codes "alarm") 1 8 2 ∷ sporadic (codes "sporadic-of-24-bytes_abc") 1 8 2 ∷ [])
