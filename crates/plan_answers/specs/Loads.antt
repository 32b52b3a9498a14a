-- The load of a task set: the slots that each task takes in a cycle, and their sums.
use Rattle.std.specs.Prelude.{ℕ, ◌+◌, ◌-◌, ◌*◌, ◌/◌, List, [], ◌∷◌, ◌++◌, codes, flat_map, sum_by, nat_le, if◌then◌else◌}
use Rattle.std.specs.Option.{option_map_or}
use Rattle.slot_core.specs.declared.jobs.Window.{Window}
use Rattle.slot_core.specs.declared.tasks.Task.{Task}
use Rattle.slot_core.specs.declared.tasks.Graph.{Graph}
use Rattle.slot_core.specs.declared.tasks.Sporadic.{Sporadic}
use Rattle.slot_core.specs.declared.tasks.TaskSet.{TaskSet}
use Rattle.slot_core.specs.Sets.Cycles.{cycle_of}
use Rattle.slot_core.specs.Feasibility.Feasible.{demand}
use Rattle.slot_core.specs.Feasibility.Sporadics.{arrivals_due, sporadic_demand}
use Rattle.slot_core.specs.Output.Texts.{worded}
use Rattle.plan_answers.specs.Tightest.{tightest}

-- the slots that a task takes in a cycle: its worst case in each instance of its graph
abbrev pub task_load : ℕ → Graph → Task → ℕ
task_load cycle graph task = cycle / graph.period * task.wcet

-- the slots that are reserved for a sporadic task in a cycle: its worst case for each of the
-- densest arrivals that are due in it
abbrev pub sporadic_load : ℕ → Sporadic → ℕ
sporadic_load cycle s = s.wcet * arrivals_due s 0 0 cycle

-- the slots of all tasks of the graphs
abbrev pub planned_load : TaskSet → ℕ → ℕ
planned_load set cycle = sum_by (λ (g : Graph). sum_by (task_load cycle g) g.tasks) set.graphs

-- the slots of all sporadic tasks
abbrev pub reserved_load : TaskSet → ℕ → ℕ
reserved_load set cycle = sum_by (sporadic_load cycle) set.sporadics

-- the line of a word and a number
abbrev pub word_line : List ℕ → ℕ → List ℕ
word_line word n = worded word n ++ 10 ∷ []

-- load, the graph and the task with a point between them, and the slots
abbrev pub task_line : ℕ → Graph → Task → List ℕ
task_line cycle graph task =
    codes "load "
    ++ word_line (graph.name ++ codes "." ++ task.name) (task_load cycle graph task)

-- the lines of the tasks of a graph
abbrev pub graph_lines : ℕ → Graph → List ℕ
graph_lines cycle graph = flat_map (task_line cycle graph) graph.tasks

-- load, the sporadic task, and the slots
abbrev pub sporadic_line : ℕ → Sporadic → List ℕ
sporadic_line cycle s = codes "load " ++ word_line s.name (sporadic_load cycle s)

-- the sums of these numbers, a line each, and the cycle
abbrev pub number_lines : ℕ → ℕ → ℕ → ℕ → List ℕ
number_lines planned reserved both cycle =
    word_line (codes "planned") planned
    ++ word_line (codes "reserved") reserved
    ++ word_line (codes "both") both
    ++ word_line (codes "cycle") cycle

-- the sums of a set: what is planned, what is reserved for sporadic tasks, and both, which is the
-- demand of the whole cycle
abbrev pub sum_lines : TaskSet → ℕ → List ℕ
sum_lines set cycle =
    number_lines (planned_load set cycle) (reserved_load set cycle) (demand set cycle 0 cycle) cycle

-- how many slots the window has more than are needed in it, or fewer
abbrev pub slack_word : ℕ → ℕ → List ℕ
slack_word slots needed =
    if nat_le needed slots
    then worded (codes "slack") (slots - needed)
    else worded (codes "short") (needed - slots)

-- that number, the bounds of the window, and what is needed in it
abbrev pub slack_line : Window → List ℕ
slack_line w =
    slack_word (w.until - w.from) w.demand ++ worded [] w.from ++ worded [] w.until
    ++ word_line [] w.demand

-- the load of a set: a line a task in the order of the file, a line a sporadic task, the sums, and
-- the window with the least slack
abbrev pub load_text : TaskSet → List ℕ
load_text set =
    let cycle = cycle_of set in
    flat_map (graph_lines cycle) set.graphs
    ++ flat_map (sporadic_line cycle) set.sporadics
    ++ sum_lines set cycle
    ++ option_map_or slack_line (tightest set cycle) []
