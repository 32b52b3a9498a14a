-- The table of the jobs of a trace.
use Rattle.std.specs.Prelude.{ℕ, List, ◌∷◌, map, Option, is_none, position}
use Rattle.csv_table.specs.Tables.{rows_text}
use Rattle.slot_core.specs.declared.jobs.Key.{Key}
use Rattle.slot_core.specs.declared.tasks.TaskSet.{TaskSet}
use Rattle.slot_core.specs.Keeping.Plans.{PlanParts}
use Rattle.trace_lines.specs.declared.line.TraceLine.{TraceLine}
use Rattle.trace_lines.specs.Traces.{time_of_last}
use Rattle.view_jobs.specs.declared.jobs.Listed.{Listed}
use Rattle.view_jobs.specs.declared.tallies.Tally.{Tally}
use Rattle.view_jobs.specs.Deeds.{deed_of, deeds_of}
use Rattle.view_jobs.specs.JobRows.{job_names, job_row}
use Rattle.view_jobs.specs.Listing.{listed_jobs}
use Rattle.view_jobs.specs.Tallies.{tally_of}

-- the rows of jobs, each with what is told of it
abbrev pub rows_with : TaskSet → (Key → Tally) → List Listed → List (List (List ℕ))
rows_with set told jobs = map (λ (job : Listed). job_row set job (told job.key)) jobs

-- the text of a table of jobs: the header, and a row for each
abbrev pub listed_text : TaskSet → (Key → Tally) → List Listed → List ℕ
listed_text set told jobs = rows_text (job_names ∷ rows_with set told jobs)

-- the text of the table of the jobs of a trace over a plan: each offline job that is released
-- before the time of the last line, and each job that is taken, with what the lines tell of it
abbrev pub jobs_text : PlanParts → List TraceLine → List ℕ
jobs_text plan lines =
    let deeds = deeds_of plan.tasks lines in
    listed_text plan.tasks (tally_of deeds) (listed_jobs plan (time_of_last lines) deeds)

-- the first line that names a task which the set has not, counted from 0
abbrev pub first_unknown : TaskSet → List TraceLine → Option ℕ
first_unknown set lines = position (λ (line : TraceLine). is_none (deed_of set line)) lines
