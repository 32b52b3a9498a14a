-- The rows of a chart in code.
use Rattle.std.specs.Prelude.{Bool, true, ◌&&◌, length, nat_lt}
use Rattle.slot_core.specs.declared.tasks.TaskSet.{TaskSet}
use Rattle.slot_core.specs.Output.Charts.{ChartRow, task_row, sporadic_row, firm_row, soft_row}
use Rattle.slot_core.specs.Offline.OfflineJobs.{tasks_of}
use Rattle.gantt_print.specs.declared.rows.Row.{Row}
use Rattle.gantt_print.specs.declared.rows.Row.TheVariants.{Task, Sporadic, Firm, Soft}

-- the row of a chart that a value of the code stands for
abbrev pub row_of : Row → ChartRow
row_of (Task graph task) = task_row graph task
row_of (Sporadic index) = sporadic_row index
row_of Firm = firm_row
row_of Soft = soft_row

-- the set has the task or sporadic task that the row is of
abbrev pub is_row_of : TaskSet → ChartRow → Bool
is_row_of set (task_row graph task) =
    nat_lt graph (length set.graphs) && nat_lt task (length (tasks_of set graph))
is_row_of set (sporadic_row index) = nat_lt index (length set.sporadics)
is_row_of set firm_row = true
is_row_of set soft_row = true
