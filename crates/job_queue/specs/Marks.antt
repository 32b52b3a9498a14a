-- Marks: small numbers of keys, by which a key that no job has is mostly told without a walk.
use Rattle.std.specs.Prelude.{◌≡◌, ℕ, ◌+◌, ◌*◌, ◌%◌, ◌<◌, ◌==◌, List, length, count_by, slice_index_or, refl}
use Rattle.slot_core.specs.declared.TheConstants.{TASK_LIMIT}
use Rattle.slot_core.specs.declared.jobs.Key.{Key}
use Rattle.slot_core.specs.declared.jobs.Key.TheVariants.{Offline, Sporadic, Firm, Soft}
use Rattle.slot_core.specs.declared.jobs.Job.{Job}
use Rattle.job_queue.specs.declared.marked.TheConstants.{COUNT_LIMIT, MARK_COUNT, ROW_MARKS, TASK_MARKS}

-- the mark of a key, which others may share: that of its task, or that of the row of its arrival
abbrev pub key_mark : Key → ℕ
key_mark (Offline graph task instance) = (TASK_LIMIT * graph + task) % TASK_MARKS
key_mark (Sporadic index row) = TASK_MARKS + row % ROW_MARKS
key_mark (Firm row) = TASK_MARKS + row % ROW_MARKS
key_mark (Soft row) = TASK_MARKS + row % ROW_MARKS

-- the second task of the third graph, in any instance
pub key_mark_of_task : key_mark (Offline 2 1 7) ≡ 65
key_mark_of_task = refl

-- the firm job of row 1,030 shares its mark with that of row 6
pub key_mark_of_row : key_mark (Firm 1030) ≡ key_mark (Firm 6)
key_mark_of_row = refl

-- what contracts see of jobs with marks: the jobs, and how many places are reserved for them
pub record PlacedJobs : Type 0 where
  pub items : List Job
  pub places : ℕ

-- of each mark how many of these jobs have it, or the limit of a count, which tells nothing
pub record AreCounted (jobs : List Job) (counts : List ℕ) : Type 0 where
  pub all : length counts ≡ MARK_COUNT
  pub counted :
      (mark d : ℕ) → mark < MARK_COUNT → slice_index_or counts mark d < COUNT_LIMIT
      → slice_index_or counts mark d ≡ count_by (λ (j : Job). key_mark j.key == mark) jobs
