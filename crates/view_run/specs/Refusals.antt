-- Why a trace or a supply is not shown.
use Rattle.std.specs.Prelude.{ℕ, List, ◌++◌, codes}
use Rattle.slot_core.specs.Output.Texts.{worded}
use Rattle.csv_table.specs.declared.faults.CsvFault.{CsvFault}
use Rattle.csv_table.specs.declared.faults.CsvFault.TheVariants.{Memory as TableMemory, Failed as TableFailed}
use Rattle.command_line.specs.declared.refusal.Refusal.{Refusal}
use Rattle.command_line.specs.declared.refusal.Refusal.TheVariants.{NotVerified, WriteFault, Memory}
use Rattle.run_blocks.specs.declared.TheConstants.{ROW_LIMIT}
use Rattle.run_blocks.specs.declared.faults.RowsFault.{RowsFault}
use Rattle.run_blocks.specs.declared.faults.RowsFault.TheVariants.{Memory as RowsMemory, TooMany as TooManyOfRows}
use Rattle.trace_lines.specs.declared.TheConstants.{LINE_LIMIT}
use Rattle.trace_lines.specs.declared.trace.TraceFault.{TraceFault}
use Rattle.trace_lines.specs.declared.trace.TraceFault.TheVariants.{Memory as TraceMemory, NoLine, NoSlot, TooMany}
use Rattle.view_jobs.specs.declared.faults.JobsFault.{JobsFault}
use Rattle.view_jobs.specs.declared.faults.JobsFault.TheVariants.{Memory as JobsMemory, Failed as JobsFailed, NoLine as NoJobLine}
use Rattle.view_picture.specs.declared.TheConstants.{PICTURE_LIMIT}
use Rattle.view_picture.specs.declared.faults.PictureFault.{PictureFault}
use Rattle.view_picture.specs.declared.faults.PictureFault.TheVariants.{Memory as PictureMemory, TooLong, TooManyRows}
use Rattle.task_rows.specs.declared.faults.TaskPictureFault.{TaskPictureFault}
use Rattle.task_rows.specs.declared.faults.TaskPictureFault.TheVariants.{Memory as TasksMemory, NoLine as NoTaskLine, TooLong as TasksTooLong, TooManyRows as TasksTooManyRows}
use Rattle.view_stairs.specs.declared.fault.StairsFault.{StairsFault}
use Rattle.view_stairs.specs.declared.fault.StairsFault.TheVariants.{Memory as StairsMemory, NoLine as NoStep}

-- the usage
abbrev pub view_usage : List ℕ
view_usage =
    codes "usage: slotview picture [T | --table B] [FROM UNTIL] | jobs T | jobs --table B"
    ++ codes ", slotview events [FROM UNTIL] | spans [FROM UNTIL] | waves [FROM UNTIL]"
    ++ codes " | stairs"

-- trace no line N
abbrev pub no_line : ℕ → Refusal
no_line n = NotVerified (worded (codes "trace no line") n)

-- supply no line N
abbrev pub no_supply_line : ℕ → Refusal
no_supply_line n = NotVerified (worded (codes "supply no line") n)

-- trace too many lines N
abbrev pub too_many_lines : Refusal
too_many_lines = NotVerified (worded (codes "trace too many lines") LINE_LIMIT)

-- trace no slot N
abbrev pub no_slot : ℕ → Refusal
no_slot n = NotVerified (worded (codes "trace no slot") n)

-- trace too many rows N
abbrev pub too_many_rows : Refusal
too_many_rows = NotVerified (worded (codes "trace too many rows") ROW_LIMIT)

-- trace too long N
abbrev pub too_long : Refusal
too_long = NotVerified (worded (codes "trace too long") PICTURE_LIMIT)

-- the refusal of a text that is no trace
abbrev pub of_text : TraceFault → Refusal
of_text TraceMemory = Memory
of_text (NoLine n) = no_line n
of_text TooMany = too_many_lines
of_text (NoSlot n) = no_slot n

-- of a trace that has no picture
abbrev pub of_picture : PictureFault → Refusal
of_picture PictureMemory = Memory
of_picture TooLong = too_long
of_picture TooManyRows = too_many_rows

-- of rows that are not made
abbrev pub of_rows : RowsFault → Refusal
of_rows RowsMemory = Memory
of_rows TooManyOfRows = too_many_rows

-- of a table that is not written
abbrev pub of_table : CsvFault → Refusal
of_table TableMemory = Memory
of_table TableFailed = WriteFault

-- of a table of jobs that is not written
abbrev pub of_jobs : JobsFault → Refusal
of_jobs JobsMemory = Memory
of_jobs JobsFailed = WriteFault
of_jobs (NoJobLine n) = no_line n

-- of a trace that has no picture over the tasks of a plan
abbrev pub of_tasks : TaskPictureFault → Refusal
of_tasks TasksMemory = Memory
of_tasks TasksTooLong = too_long
of_tasks TasksTooManyRows = too_many_rows
of_tasks (NoTaskLine n) = no_line n

-- of a text that is no supply
abbrev pub of_supply : StairsFault → Refusal
of_supply StairsMemory = Memory
of_supply (NoStep n) = no_supply_line n
