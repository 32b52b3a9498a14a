-- The picture of a trace over the tasks of a set.
use Rattle.std.specs.Prelude.{◌≡◌, ℕ, true, List}
use Rattle.slot_core.specs.declared.tasks.TaskSet.{TaskSet}
use Rattle.run_blocks.specs.declared.rows.Row.{Row}
use Rattle.run_blocks.specs.Rows.{have_rows}
use Rattle.trace_lines.specs.declared.line.TraceLine.{TraceLine}
use Rattle.trace_lines.specs.Traces.{runs_of}
use Rattle.view_picture.specs.Blocks.{ShowsRuns}
use Rattle.task_rows.specs.Marks.{marks_of}
use Rattle.task_rows.specs.Rows.{AreTaskRows, rows_of_tasks}

-- a document shows what lines run over rows of the tasks of a set and of what arrives, one of which
-- holds each job that runs, with the marks of the jobs of the tasks
pub record ShowsTasks (set : TaskSet) (lines : List TraceLine) (document : List ℕ) : Type 0 where
  pub rows : List Row
  pub own : AreTaskRows (rows_of_tasks set) lines rows
  pub held : have_rows rows (runs_of lines) ≡ true
  pub shows : ShowsRuns rows (marks_of set rows lines) lines document
