-- Task sets of the tests.
use Rattle.std.specs.Prelude.{ℕ, List, [], ◌∷◌, codes}
use Rattle.slot_core.specs.declared.tasks.Task.{Task}
use Rattle.slot_core.specs.declared.tasks.Graph.{Graph}
use Rattle.slot_core.specs.declared.tasks.Sporadic.{Sporadic}
use Rattle.slot_core.specs.declared.tasks.TaskSet.{TaskSet}

-- a task with its declared slots, and the task that it comes after
abbrev pub task : List ℕ → ℕ → List ℕ → Task
task name wcet after = record { name = name; wcet = wcet; after = after }

-- three tasks of these slots, each after the one before
abbrev pub row : List ℕ → ℕ → ℕ → ℕ → ℕ → Graph
row name period first second third =
    record {
      name = name;
      period = period;
      offset = 0;
      deadline = period;
      tasks =
          task (codes "a") first []
          ∷ task (codes "b") second (0 ∷ [])
          ∷ task (codes "c") third (1 ∷ [])
          ∷ [];
    }

-- a task set with room for 64 soft jobs
abbrev pub set_of : List Graph → List Sporadic → TaskSet
set_of graphs sporadics = record { soft_limit = 64; graphs = graphs; sporadics = sporadics }

-- three slots of work in eight
abbrev pub row_set : TaskSet
row_set = set_of (row (codes "g") 8 1 1 1 ∷ []) []

-- the same beside a sporadic alarm of one slot
abbrev pub alarm_set : TaskSet
alarm_set =
    set_of
    (row (codes "g") 8 1 1 1 ∷ [])
    (record { name = codes "alarm"; wcet = 1; separation = 8; deadline = 2 } ∷ [])

-- a flight controller: its inertial unit, its receiver of positions, its radio link
abbrev pub flight_set : TaskSet
flight_set =
    set_of
    (row (codes "imu") 10 1 1 1 ∷ row (codes "gps") 20 1 2 1 ∷ row (codes "link") 40 2 3 1 ∷ [])
    []
