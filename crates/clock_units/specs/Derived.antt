-- The set in slots that stands for a set in physical time, or the first fault.
use Rattle.std.specs.Prelude.{◌≡◌, ◌≢◌, ℕ, ◌+◌, ◌-◌, ◌%◌, ◌==◌, min, Bool, ◌&&◌, List, [], ◌∷◌, length, nat_le, nat_lt, if◌then◌else◌, Result, Ok, Err, MatchResult}
use Rattle.std.specs.List.{list_all}
use Rattle.slot_core.specs.declared.TheConstants.{GRAPH_LIMIT, TASK_LIMIT, AFTER_LIMIT, SPORADIC_LIMIT, SLOT_LIMIT, SOFT_LIMIT}
use Rattle.slot_core.specs.declared.tasks.Task.{Task}
use Rattle.slot_core.specs.declared.tasks.Graph.{Graph}
use Rattle.slot_core.specs.declared.tasks.Sporadic.{Sporadic}
use Rattle.slot_core.specs.declared.tasks.TaskSet.{TaskSet}
use Rattle.slot_core.specs.declared.faults.Part.{Part}
use Rattle.slot_core.specs.declared.faults.Part.TheVariants.{Top, Graph as GraphPart, Task as TaskPart, Sporadic as SporadicPart}
use Rattle.slot_core.specs.declared.faults.Field.{Field}
use Rattle.slot_core.specs.declared.faults.Field.TheVariants.{Soft, Graph as GraphKey, Sporadic as SporadicKey, Period, Offset, Deadline, Task as TaskKey, Wcet, Separation}
use Rattle.slot_core.specs.declared.faults.Place.{Place}
use Rattle.slot_core.specs.Calls.Results.{◌>>=◌}
use Rattle.slot_core.specs.Sets.Names.{is_name}
use Rattle.slot_core.specs.Sets.Ranges.{is_between}
use Rattle.clock_units.specs.declared.sets.PhysicalTask.{PhysicalTask}
use Rattle.clock_units.specs.declared.sets.PhysicalGraph.{PhysicalGraph}
use Rattle.clock_units.specs.declared.sets.PhysicalSporadic.{PhysicalSporadic}
use Rattle.clock_units.specs.declared.sets.PhysicalSet.{PhysicalSet}
use Rattle.clock_units.specs.declared.faults.UnitFault.{UnitFault}
use Rattle.clock_units.specs.declared.faults.UnitFault.TheVariants.{Memory, NoWorth, NotWhole, OutOfRange, TooMany}
use Rattle.clock_units.specs.Rounding.{down, up}

-- a value or the first fault
abbrev pub Derived : Type 0 → Type 0
Derived X = Result X UnitFault

-- the code's answer is the derived value, but that memory may run out
abbrev pub Answers : {X : Type 0} → Derived X → Derived X → Type 0
Answers answer value =
    MatchResult answer (λ x. value ≡ Ok x) (λ e. e ≢ Memory → value ≡ Err e)

-- its names are names and its counts are within their limits: what is asked of a set before its
-- times are looked at
abbrev pub task_is_shaped : PhysicalTask → Bool
task_is_shaped task = is_name task.name && nat_le (length task.after) AFTER_LIMIT

-- the same of a graph
abbrev pub graph_is_shaped : PhysicalGraph → Bool
graph_is_shaped graph =
    is_name graph.name
    && is_between 1 TASK_LIMIT (length graph.tasks)
    && list_all task_is_shaped graph.tasks

-- the same of a set
abbrev pub is_shaped : PhysicalSet → Bool
is_shaped set =
    is_between 1 GRAPH_LIMIT (length set.graphs)
    && list_all graph_is_shaped set.graphs
    && nat_le (length set.sporadics) SPORADIC_LIMIT
    && list_all (λ (s : PhysicalSporadic). is_name s.name) set.sporadics

-- a place
abbrev pub place_at : Part → Field → Place
place_at part field = record { part = part; field = field }

-- so many slots, where they are from low to high
abbrev pub in_range : Place → ℕ → ℕ → ℕ → Derived ℕ
in_range place low high n = if is_between low high n then Ok n else Err (OutOfRange place n)

-- a time that is a whole number of slots
abbrev pub whole_slots : Place → ℕ → ℕ → Derived ℕ
whole_slots place slot time = if time % slot == 0 then Ok (down slot time) else Err (NotWhole place)

-- the items, where there are no more than the limit
abbrev pub at_most : {X : Type 0} → Place → ℕ → List X → Derived (List X)
at_most place limit xs =
    if nat_lt limit (length xs) then Err (TooMany place (length xs)) else Ok xs

-- each item in order, with its place
abbrev pub each : {X Y : Type 0} → (ℕ → X → Derived Y) → ℕ → List X → Derived (List Y)
each f n [] = Ok []
each f n (x ∷ xs) = f n x >>= (λ y. each f (n + 1) xs >>= (λ ys. Ok (y ∷ ys)))

-- a worst case: the slots that reach it, where each is worth so much
abbrev pub wcet_of : Part → ℕ → ℕ → Derived ℕ
wcet_of part worth wcet = in_range (place_at part Wcet) 1 SLOT_LIMIT (up worth wcet)

-- task t of graph g
abbrev pub task_of : ℕ → ℕ → ℕ → PhysicalTask → Derived Task
task_of worth g t task = do
  wcet ← wcet_of (TaskPart g t) worth task.wcet
  Ok (record { name = task.name; wcet = wcet; after = task.after })

-- from the first boundary at or after the release to the last one at or before the deadline
abbrev pub graph_deadline : ℕ → PhysicalGraph → ℕ
graph_deadline slot graph = down slot (graph.offset + graph.deadline) - up slot graph.offset

-- a period: a whole number of slots
abbrev pub period_of : Part → ℕ → ℕ → Derived ℕ
period_of part slot period = do
  whole ← whole_slots (place_at part Period) slot period
  in_range (place_at part Period) 1 SLOT_LIMIT whole

-- graph g
abbrev pub graph_of : ℕ → ℕ → ℕ → PhysicalGraph → Derived Graph
graph_of slot worth g graph = do
  period ← period_of (GraphPart g) slot graph.period
  offset ← in_range (place_at (GraphPart g) Offset) 0 (period - 1) (up slot graph.offset)
  deadline ←
      in_range (place_at (GraphPart g) Deadline) 1 (period - offset) (graph_deadline slot graph)
  few ← at_most (place_at (GraphPart g) TaskKey) TASK_LIMIT graph.tasks
  tasks ← each (task_of worth g) 0 few
  Ok (record {
    name = graph.name;
    period = period;
    offset = offset;
    deadline = deadline;
    tasks = tasks;
  })

-- the longest time that an arrival waits for the next boundary
abbrev pub longest_wait : ℕ → PhysicalSporadic → ℕ
longest_wait slot s = if s.at_boundaries then 0 else slot

-- the separation that is planned for, which is no longer than the one that is kept
abbrev pub planned_separation : PhysicalSporadic → ℕ
planned_separation s = min s.separation s.planned

-- from the boundary at which an arrival is handed over, whenever it came; no more than the
-- separation
abbrev pub sporadic_deadline : ℕ → PhysicalSporadic → ℕ
sporadic_deadline slot s =
    min (down slot (planned_separation s)) (down slot (s.deadline - longest_wait slot s))

-- sporadic task s
abbrev pub sporadic_of : ℕ → ℕ → ℕ → PhysicalSporadic → Derived Sporadic
sporadic_of slot worth s sporadic = do
  wcet ← wcet_of (SporadicPart s) worth sporadic.wcet
  separation ←
      in_range (place_at (SporadicPart s) Separation) 1 SLOT_LIMIT
      (down slot (planned_separation sporadic))
  deadline ←
      in_range (place_at (SporadicPart s) Deadline) 1 separation (sporadic_deadline slot sporadic)
  Ok (record { name = sporadic.name; wcet = wcet; separation = separation; deadline = deadline })

-- what a slot is worth to the job that has it
abbrev pub worth_of : PhysicalSet → Derived ℕ
worth_of set = if nat_lt set.overhead set.slot then Ok (set.slot - set.overhead) else Err NoWorth

-- the set in slots
abbrev pub derived_set : PhysicalSet → Derived TaskSet
derived_set set = do
  worth ← worth_of set
  soft ← in_range (place_at Top Soft) 1 SOFT_LIMIT set.soft_limit
  few_graphs ← at_most (place_at Top GraphKey) GRAPH_LIMIT set.graphs
  graphs ← each (graph_of set.slot worth) 0 few_graphs
  few_sporadics ← at_most (place_at Top SporadicKey) SPORADIC_LIMIT set.sporadics
  sporadics ← each (sporadic_of set.slot worth) 0 few_sporadics
  Ok (record { soft_limit = soft; graphs = graphs; sporadics = sporadics })
