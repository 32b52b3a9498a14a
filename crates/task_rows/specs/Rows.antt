-- Rows of the tasks of a set, and of what arrives beside them.
use Rattle.std.specs.Prelude.{◌≡◌, ◌≤◌, ℕ, Bool, true, false, not, List, ◌++◌, filter, flat_map, length, map, position, Option}
use Rattle.slot_core.specs.declared.tasks.Graph.{Graph}
use Rattle.slot_core.specs.declared.tasks.Sporadic.{Sporadic}
use Rattle.slot_core.specs.declared.tasks.Task.{Task}
use Rattle.slot_core.specs.declared.tasks.TaskSet.{TaskSet}
use Rattle.run_blocks.specs.declared.rows.Row.{Row}
use Rattle.run_blocks.specs.declared.rows.Row.TheVariants.{Task as TaskRow, Sporadic as SporadicRow, FirmJob, Firm, Soft}
use Rattle.run_blocks.specs.declared.TheConstants.{ROW_LIMIT}
use Rattle.run_blocks.specs.Rows.{has_row}
use Rattle.trace_lines.specs.declared.line.KeyName.{KeyName}
use Rattle.trace_lines.specs.declared.line.KeyName.TheVariants.{Firm as FirmKey, Soft as SoftKey}
use Rattle.trace_lines.specs.declared.line.TraceLine.{TraceLine}
use Rattle.trace_lines.specs.declared.line.Words.{Words}
use Rattle.trace_lines.specs.declared.line.Words.TheVariants.{Run}
use Rattle.view_picture.specs.Blocks.{AreRows}

-- the row of a task of a graph
abbrev pub task_row : List ℕ → List ℕ → Row
task_row graph task = TaskRow graph task

-- the rows of the tasks of a graph, in its order
abbrev pub graph_rows : Graph → List Row
graph_rows graph = map (λ (task : Task). task_row graph.name task.name) graph.tasks

-- the row of a sporadic task
abbrev pub sporadic_row : Sporadic → Row
sporadic_row sporadic = SporadicRow sporadic.name

-- the rows of the tasks of a set, in its order: those of graphs, and then the sporadic ones
abbrev pub rows_of_tasks : TaskSet → List Row
rows_of_tasks set = flat_map graph_rows set.graphs ++ map sporadic_row set.sporadics

-- the job is of a task for which none of the rows is
abbrev pub is_of_no_task : List Row → KeyName → Bool
is_of_no_task rows (FirmKey row) = false
is_of_no_task rows (SoftKey row) = false
is_of_no_task rows key = not (has_row rows key)

-- the words run such a job
abbrev pub words_run_no_task : List Row → Words → Bool
words_run_no_task rows (Run key) = is_of_no_task rows key
words_run_no_task rows words = false

-- a line does
abbrev pub runs_no_task : List Row → TraceLine → Bool
runs_no_task rows line = words_run_no_task rows line.words

-- the first line that does, counted from 0
abbrev pub first_of_no_task : List Row → List TraceLine → Option ℕ
first_of_no_task rows lines = position (runs_no_task rows) lines

-- a row is one of firm jobs or of soft work
abbrev pub is_for_arrivals : Row → Bool
is_for_arrivals (TaskRow graph task) = false
is_for_arrivals (SporadicRow name) = false
is_for_arrivals (FirmJob row) = true
is_for_arrivals Firm = true
is_for_arrivals Soft = true

-- rows of tasks, and then those of the firm jobs and of the soft work that run: as without tasks
pub record AreTaskRows (tasks : List Row) (lines : List TraceLine) (rows : List Row) : Type 0 where
  pub run : List Row
  pub own : AreRows run lines
  pub few : length run ≤ ROW_LIMIT
  pub rows_all : rows ≡ tasks ++ filter is_for_arrivals run
