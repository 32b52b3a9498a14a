-- Raw windows and precedence of guaranteed jobs.
use Rattle.std.specs.Prelude.{ℕ, Bool, false, ◌&&◌, ◌==◌, slice_get}
use Rattle.std.specs.Option.{option_map_or}
use Rattle.slot_core.specs.declared.jobs.Key.{Key}
use Rattle.slot_core.specs.declared.jobs.Key.TheVariants.{Offline}
use Rattle.slot_core.specs.declared.jobs.Job.{Job}
use Rattle.slot_core.specs.declared.tasks.Graph.{Graph}
use Rattle.slot_core.specs.declared.tasks.TaskSet.{TaskSet}
use Rattle.slot_core.specs.Offline.OfflineJobs.{tasks_of, release_of, deadline_of}
use Rattle.slot_core.specs.Offline.Precedence.{comes_after}

-- the release of an offline job, else the value that is given
abbrev pub release_or : TaskSet → Key → ℕ → ℕ
release_or set (Offline graph task instance) other =
    option_map_or (λ (g : Graph). release_of g instance) (slice_get set.graphs graph) other
release_or set _ other = other

-- the end-to-end deadline of an offline job, else the value that is given
abbrev pub deadline_or : TaskSet → Key → ℕ → ℕ
deadline_or set (Offline graph task instance) other =
    option_map_or (λ (g : Graph). deadline_of g instance) (slice_get set.graphs graph) other
deadline_or set _ other = other

-- the start of the raw window of a job: of a firm or sporadic one that of the derived window
abbrev pub raw_release : TaskSet → Job → ℕ
raw_release set job = release_or set job.key job.est

-- its end, likewise
abbrev pub raw_deadline : TaskSet → Job → ℕ
raw_deadline set job = deadline_or set job.key job.dl

-- the first job is a direct predecessor of the second: of the same graph and instance, and listed
-- by it
abbrev pub precedes : TaskSet → Key → Key → Bool
precedes set (Offline g p i) (Offline h t j) = g == h && i == j && comes_after (tasks_of set h) t p
precedes set _ _ = false
