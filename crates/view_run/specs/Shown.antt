-- What is written of a view, and why it is not.
use Rattle.std.specs.Prelude.{◌≡◌, ◌<◌, ◌≤◌, ◌⊎◌, ℕ, ◌+◌, true, ⊤, List, [], Option, Some, None}
use Rattle.std.specs.Io.KnownBytes.{Appends}
use Rattle.slot_core.specs.Calls.Counts.{Rose}
use Rattle.run_blocks.specs.declared.rows.Row.{Row}
use Rattle.run_blocks.specs.Rows.{AreCrowded, AreRowsOf, have_few_firms, may_all_stand}
use Rattle.command_line.specs.declared.refusal.Refusal.{Refusal}
use Rattle.command_line.specs.declared.refusal.Refusal.TheVariants.{NotVerified, WriteFault, Memory}
use Rattle.slot_core.specs.Keeping.Plans.{PlanParts}
use Rattle.slot_io.specs.Sinks.{AppendsPart}
use Rattle.svg_text.specs.Content.{IsDocument}
use Rattle.view_jobs.specs.Tables.{first_unknown, jobs_text}
use Rattle.trace_lines.specs.declared.line.TraceLine.{TraceLine}
use Rattle.trace_lines.specs.Traces.{runs_of, slots_of}
use Rattle.view_picture.specs.declared.TheConstants.{PICTURE_LIMIT}
use Rattle.view_picture.specs.Blocks.{AreRows, ShowsRuns}
use Rattle.task_rows.specs.Pictures.{ShowsTasks}
use Rattle.task_rows.specs.Rows.{first_of_no_task, rows_of_tasks}
use Rattle.view_tables.specs.declared.put.Table.TheVariants.{Events as EventTable, Spans as SpanTable}
use Rattle.view_tables.specs.Tables.{part_text}
use Rattle.view_waves.specs.WaveTexts.{waves_text}
use Rattle.view_run.specs.declared.views.PlanView.{PlanView}
use Rattle.view_run.specs.declared.views.PlanView.TheVariants.{Jobs, Tasks}
use Rattle.view_run.specs.declared.views.LineView.{LineView}
use Rattle.view_run.specs.declared.views.LineView.TheVariants.{Picture, Events, Spans, Waves}
use Rattle.view_run.specs.Refusals.{no_line, too_long, too_many_rows}

-- a picture of lines: a well-formed document that shows what they run, over rows of the jobs that
-- run, where they have no more slots than a picture may have
abbrev pub IsPicture : List TraceLine → List ℕ → Type 0
IsPicture lines text =
    IsDocument text × ((rows : List Row) × AreRows rows lines × ShowsRuns rows [] lines text)
    × (slots_of lines ≤ PICTURE_LIMIT)

-- the text of a view of lines, of which the first has this number: a picture, a table, or waves over
-- the rows of the jobs that run, of which firm jobs have one each where few run, and else one
abbrev pub IsLinesText : LineView → ℕ → List TraceLine → List ℕ → Type 0
IsLinesText Picture number lines text = IsPicture lines text
IsLinesText Events number lines text = text ≡ part_text EventTable number lines
IsLinesText Spans number lines text = text ≡ part_text SpanTable number lines
IsLinesText Waves number lines text =
    (rows : List Row) × AreRowsOf rows (runs_of lines)
    × (may_all_stand (have_few_firms (runs_of lines)) rows ≡ true) × (text ≡ waves_text rows lines)

-- of the table of their jobs over a plan, where they name only tasks of its set
abbrev pub IsJobsText : PlanParts → List TraceLine → List ℕ → Type 0
IsJobsText plan lines text =
    (first_unknown plan.tasks lines ≡ None) × (text ≡ jobs_text plan lines)

-- a picture of lines over the tasks of a set: a well-formed document that shows what they run over
-- rows of its tasks, with marks where jobs of tasks are released and due
abbrev pub IsTaskPicture : PlanParts → List TraceLine → List ℕ → Type 0
IsTaskPicture plan lines text =
    IsDocument text × ShowsTasks plan.tasks lines text × (slots_of lines ≤ PICTURE_LIMIT)

-- the text of a view of lines beside a plan
abbrev pub IsPlanText : PlanView → PlanParts → List TraceLine → List ℕ → Type 0
IsPlanText Jobs plan lines text = IsJobsText plan lines text
IsPlanText (Tasks slots) plan lines text = IsTaskPicture plan lines text

-- known bytes grow by a text of this kind
abbrev pub Shows : (List ℕ → Type 0) → Option (List ℕ) → Option (List ℕ) → Type 0
Shows IsText before after = (text : List ℕ) × IsText text × Appends before after text

-- by a part of such a text, from its front
abbrev pub ShowsPart : (List ℕ → Type 0) → Option (List ℕ) → Option (List ℕ) → Type 0
ShowsPart IsText before after = (text : List ℕ) × IsText text × AppendsPart before after text

-- why a view of the lines is not shown: the sink counted a fault, memory ran out, they have too many
-- slots for a picture, or what they run asks for too many rows
abbrev pub IsLinesRefusal : LineView → List TraceLine → ℕ → ℕ → Refusal → Type 0
IsLinesRefusal view lines before after WriteFault = Rose before after
IsLinesRefusal view lines before after Memory = ⊤
IsLinesRefusal Picture lines before after (NotVerified reason) =
    ((PICTURE_LIMIT < slots_of lines) × (NotVerified reason ≡ too_long))
    ⊎ (AreCrowded lines × (NotVerified reason ≡ too_many_rows))
IsLinesRefusal Waves lines before after (NotVerified reason) =
    AreCrowded lines × (NotVerified reason ≡ too_many_rows)
IsLinesRefusal view lines before after refusal = ⊥

-- why their jobs are not shown: likewise, or line n + 1 is the first that names a task which the
-- set of the plan has not
abbrev pub IsJobsRefusal : PlanParts → List TraceLine → ℕ → ℕ → Refusal → Type 0
IsJobsRefusal plan lines before after WriteFault = Rose before after
IsJobsRefusal plan lines before after Memory = ⊤
IsJobsRefusal plan lines before after (NotVerified reason) =
    (n : ℕ) × (first_unknown plan.tasks lines ≡ Some n) × (NotVerified reason ≡ no_line (n + 1))
IsJobsRefusal plan lines before after refusal = ⊥

-- why a picture over the tasks of a plan is not shown: the sink counted a fault, memory ran out, the
-- lines have too many slots, what they run asks for too many rows, or one of them, of which the
-- first has this number, is the first that runs a job of a task which the set of the plan has not
abbrev pub IsTaskPictureRefusal :
    PlanParts → ℕ → List TraceLine → ℕ → ℕ → Refusal → Type 0
IsTaskPictureRefusal plan number lines before after WriteFault = Rose before after
IsTaskPictureRefusal plan number lines before after Memory = ⊤
IsTaskPictureRefusal plan number lines before after (NotVerified reason) =
    IsLinesRefusal Picture lines before after (NotVerified reason)
    ⊎ ((n : ℕ) × (first_of_no_task (rows_of_tasks plan.tasks) lines ≡ Some n)
    × (NotVerified reason ≡ no_line (number + n)))
IsTaskPictureRefusal plan number lines before after refusal = ⊥

-- why a view beside a plan is not shown
abbrev pub IsPlanViewRefusal :
    PlanView → PlanParts → ℕ → List TraceLine → ℕ → ℕ → Refusal → Type 0
IsPlanViewRefusal Jobs plan number lines before after e = IsJobsRefusal plan lines before after e
IsPlanViewRefusal (Tasks slots) plan number lines before after e =
    IsTaskPictureRefusal plan number lines before after e
