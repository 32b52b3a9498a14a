-- Marks in the rows of tasks, at the release and at the deadline of each job.
use Rattle.std.specs.Prelude.{ℕ, ◌+◌, ◌-◌, ◌/◌, List, [], ◌∷◌, ◌++◌, flat_map}
use Rattle.std.specs.List.{range_with_len}
use Rattle.slot_core.specs.declared.events.Spo.TheVariants.{Taken}
use Rattle.slot_core.specs.declared.tasks.Graph.{Graph}
use Rattle.slot_core.specs.declared.tasks.Task.{Task}
use Rattle.slot_core.specs.declared.tasks.TaskSet.{TaskSet}
use Rattle.slot_core.specs.Offline.OfflineJobs.{deadline_of, release_of}
use Rattle.run_blocks.specs.declared.rows.Row.{Row}
use Rattle.run_blocks.specs.Rows.{row_at}
use Rattle.trace_lines.specs.declared.line.KeyName.TheVariants.{Offline, Sporadic as SporadicKey}
use Rattle.trace_lines.specs.declared.line.TraceLine.{TraceLine}
use Rattle.trace_lines.specs.declared.line.Words.{Words}
use Rattle.trace_lines.specs.declared.line.Words.TheVariants.{Sporadic}
use Rattle.trace_lines.specs.Traces.{time_of_first, time_of_last}
use Rattle.view_picture.specs.declared.row_marks.Moment.TheVariants.{Release, Deadline}
use Rattle.view_picture.specs.declared.row_marks.RowMark.{RowMark}
use Rattle.task_rows.specs.declared.marks.Edges.{Edges}

-- the marks of a job in its row
abbrev pub job_marks : ℕ → ℕ → ℕ → List RowMark
job_marks row release deadline =
    record { row = row; time = release; moment = Release }
    ∷ record { row = row; time = deadline; moment = Deadline }
    ∷ []

-- the marks of an instance of a graph, in the row of one of its tasks
abbrev pub window_marks : Graph → ℕ → ℕ → List RowMark
window_marks graph row instance =
    job_marks row (release_of graph instance) (deadline_of graph instance)

-- the first instance that is marked: that before the one in whose period the picture begins
abbrev pub first_instance : Graph → Edges → ℕ
first_instance graph edges = edges.first / graph.period - 1

-- how many are marked: up to the one in whose period the picture ends
abbrev pub instance_count : Graph → Edges → ℕ
instance_count graph edges = edges.last / graph.period + 1 - first_instance graph edges

-- the marks of the jobs of a task of the graph, in its row
abbrev pub task_marks : Graph → Edges → ℕ → List RowMark
task_marks graph edges row =
    flat_map
    (λ n. window_marks graph row (first_instance graph edges + n))
    (range_with_len 0 (instance_count graph edges))

-- the place of the row of a task of the graph: that of its jobs, whatever their instance
abbrev pub row_of_task : List Row → Graph → Task → ℕ
row_of_task rows graph task = row_at rows (Offline graph.name task.name 0)

-- the marks of the jobs of a graph
abbrev pub graph_marks : List Row → Edges → Graph → List RowMark
graph_marks rows edges graph =
    flat_map (λ (task : Task). task_marks graph edges (row_of_task rows graph task)) graph.tasks

-- the place of the row of a sporadic job
abbrev pub row_of_sporadic : List Row → List ℕ → ℕ → ℕ
row_of_sporadic rows name row = row_at rows (SporadicKey name row)

-- the marks of the sporadic job that words of this time take, if they take one: it is released when
-- it arrives
abbrev pub taken_marks : List Row → ℕ → Words → List RowMark
taken_marks rows time (Sporadic row name (Taken due)) =
    job_marks (row_of_sporadic rows name row) time due
taken_marks rows time words = []

-- of the one that a line takes
abbrev pub line_marks : List Row → TraceLine → List RowMark
line_marks rows line = taken_marks rows line.time line.words

-- the times at which the picture of lines begins and ends
abbrev pub edges_of : List TraceLine → Edges
edges_of lines = record { first = time_of_first lines; last = time_of_last lines }

-- the marks of the jobs of the tasks of a set that touch the slots of lines, and of the sporadic
-- jobs that are taken in them
abbrev pub marks_of : TaskSet → List Row → List TraceLine → List RowMark
marks_of set rows lines =
    flat_map (graph_marks rows (edges_of lines)) set.graphs ++ flat_map (line_marks rows) lines
