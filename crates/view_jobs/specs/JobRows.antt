-- The row of a job.
use Rattle.std.specs.Prelude.{ℕ, ◌+◌, pos, ◌-ℤ◌, List, [], ◌∷◌, codes, decimal, nat_le, if◌then◌else◌, Option, Some, None}
use Rattle.std.specs.Fmt.{signed_decimal}
use Rattle.slot_core.specs.declared.jobs.Key.{Key}
use Rattle.slot_core.specs.declared.jobs.Key.TheVariants.{Offline, Sporadic, Firm, Soft}
use Rattle.slot_core.specs.declared.tasks.TaskSet.{TaskSet}
use Rattle.slot_core.specs.Output.Texts.{graph_name, key_text, sporadic_name, task_name}
use Rattle.csv_table.specs.Cells.{optional_text}
use Rattle.view_jobs.specs.declared.jobs.Listed.{Listed}
use Rattle.view_jobs.specs.declared.tallies.Tally.{Tally}

-- the names of the fields
abbrev pub job_names : List (List ℕ)
job_names =
    codes "key" ∷ codes "kind" ∷ codes "graph" ∷ codes "task" ∷ codes "number" ∷ codes "release"
    ∷ codes "start" ∷ codes "deadline" ∷ codes "declared" ∷ codes "ran" ∷ codes "freed"
    ∷ codes "first" ∷ codes "end" ∷ codes "response" ∷ codes "slack" ∷ codes "preemptions" ∷ []

-- the kind of a job
abbrev pub job_kind : Key → List ℕ
job_kind (Offline graph task instance) = codes "offline"
job_kind (Sporadic index row) = codes "sporadic"
job_kind (Firm row) = codes "firm"
job_kind (Soft row) = codes "soft"

-- the graph of an offline job
abbrev pub graph_of : TaskSet → Key → List ℕ
graph_of set (Offline graph task instance) = graph_name set graph
graph_of set _ = []

-- the task of an offline job, or the sporadic task
abbrev pub task_of : TaskSet → Key → List ℕ
task_of set (Offline graph task instance) = task_name set graph task
task_of set (Sporadic index row) = sporadic_name set index
task_of set _ = []

-- the instance of an offline job, else the row of the arrival
abbrev pub number_of : Key → ℕ
number_of (Offline graph task instance) = instance
number_of (Sporadic index row) = row
number_of (Firm row) = row
number_of (Soft row) = row

-- when a job has ended that ran so many slots, the last of them then: after its last slot, where
-- these are all
abbrev pub end_after : ℕ → ℕ → Option ℕ → Option ℕ
end_after declared ran None = None
end_after declared ran (Some last) = if nat_le declared ran then Some (last + 1) else None

-- or where it ended early, then
abbrev pub end_with : Option (ℕ × ℕ) → Option ℕ → Option ℕ
end_with (Some ended) after = Some ended.0
end_with None after = after

-- when the job has ended
abbrev pub end_of : Listed → Tally → Option ℕ
end_of job tally = end_with tally.ended (end_after job.declared tally.ran tally.last)

-- the slots that its early end freed
abbrev pub freed_by : Option (ℕ × ℕ) → ℕ
freed_by (Some ended) = ended.1
freed_by None = 0

-- the first number less the second, or nothing where one is missing
abbrev pub less_text : Option ℕ → Option ℕ → List ℕ
less_text (Some a) (Some b) = signed_decimal (pos a -ℤ pos b)
less_text _ _ = []

-- the fields of the row of a job of which this is told
abbrev pub job_row : TaskSet → Listed → Tally → List (List ℕ)
job_row set job tally =
    key_text set job.key
    ∷ job_kind job.key
    ∷ graph_of set job.key
    ∷ task_of set job.key
    ∷ decimal (number_of job.key)
    ∷ decimal job.release
    ∷ decimal job.start
    ∷ optional_text job.deadline
    ∷ decimal job.declared
    ∷ decimal tally.ran
    ∷ decimal (freed_by tally.ended)
    ∷ optional_text tally.first
    ∷ optional_text (end_of job tally)
    ∷ less_text (end_of job tally) (Some job.release)
    ∷ less_text job.deadline (end_of job tally)
    ∷ decimal tally.gaps
    ∷ []
