-- What the parts of an executive become, each from what it was.
use Rattle.std.specs.Prelude.{ℕ, ◌+◌, ◌-◌, ◌/◌, ◌%◌, ◌≤◌, ◌^◌, ◌==◌, Bool, List, [], ◌∷◌, ◌++◌, count_by, length, map, nat_lt, Option, IsSomeAnd, ⊤, if◌then◌else◌}
use Rattle.std.specs.Option.{option_map_or}
use Rattle.slot_core.specs.declared.jobs.Key.TheVariants.{Soft as SoftKey}
use Rattle.slot_core.specs.declared.jobs.Job.{Job}
use Rattle.slot_core.specs.declared.jobs.SoftJob.{SoftJob}
use Rattle.slot_core.specs.declared.jobs.Span.{Span}
use Rattle.slot_core.specs.declared.events.Ran.{Ran}
use Rattle.slot_core.specs.declared.events.Ran.TheVariants.{Idle as RanIdle, Key as RanKey}
use Rattle.slot_core.specs.Offline.Keys.{same_key}
use Rattle.slot_core.specs.Keeping.Kept.{AreApart}
use Rattle.slot_core.specs.Offline.OfflineJobs.{later_job}
use Rattle.slot_core.specs.Keeping.Plans.{PlanParts}
use Rattle.slot_core.specs.Claims.Safety.{after_run}
use Rattle.spare_capacity.specs.Recurrence.{filled, last_end}
use Rattle.interval_row.specs.Changes.{after_pass, appended, span_ending, with_less}
use Rattle.slot_exec.specs.declared.runs.Chosen.{Chosen}
use Rattle.slot_exec.specs.declared.runs.Chosen.TheVariants.{Nothing, Soft, Guaranteed}

-- what is chosen where no soft job runs: this job, if there is one
abbrev pub chosen_job : Option Job → Chosen
chosen_job job = option_map_or (λ (j : Job). Guaranteed j) job Nothing

-- what is chosen: the first soft job where soft work may run, else this job, if there is one
abbrev pub chosen_of : List SoftJob → Bool → Option Job → Chosen
chosen_of [] may job = chosen_job job
chosen_of (s ∷ soft) may job = if may then Soft s.row else chosen_job job

-- what runs where this is chosen
abbrev pub ran_of : Chosen → Ran
ran_of Nothing = RanIdle
ran_of (Soft row) = RanKey (SoftKey row)
ran_of (Guaranteed job) = RanKey job.key

-- what is chosen may run: a soft job waits, or the job is there and its slot is due at its deadline
abbrev pub MayRun : Chosen → List Span → List Job → List SoftJob → Type 0
MayRun Nothing spans jobs soft = ⊤
MayRun (Soft row) spans jobs soft = 1 ≤ length soft
MayRun (Guaranteed job) spans jobs soft =
    (1 ≤ count_by (λ (j : Job). same_key j.key job.key) jobs)
    × IsSomeAnd (span_ending job.dl spans) (λ s. 1 ≤ s.work)

-- the spans after this has run a slot: of a guaranteed job, a slot less is due at its deadline
abbrev pub spans_after : Chosen → List Span → List Span
spans_after (Guaranteed job) spans = filled (with_less job.dl 1 spans)
spans_after _ spans = spans

-- the guaranteed jobs then: one that has run has a slot less left, or goes where it has none
abbrev pub jobs_after : Chosen → List Job → List Job
jobs_after (Guaranteed job) jobs = after_run job.key jobs
jobs_after _ jobs = jobs

-- the first soft job has a slot less, or goes where it has none left
abbrev pub front_run : List SoftJob → List SoftJob
front_run [] = []
front_run (s ∷ soft) = if nat_lt 1 s.left then record s { left = s.left - 1 } ∷ soft else soft

-- the soft jobs then: where soft work has run, it was the first of them
abbrev pub soft_after : Chosen → List SoftJob → List SoftJob
soft_after (Soft row) soft = front_run soft
soft_after _ soft = soft

-- the plan's jobs, so many cycles later
abbrev pub jobs_in_cycle : PlanParts → ℕ → List Job
jobs_in_cycle plan n = map (later_job plan.tasks plan.cycle n) plan.jobs

-- the spans once a slot has passed up to this time, with the plan's spans of one more cycle where a
-- cycle ends
abbrev pub spans_at : PlanParts → ℕ → List Span → List Span
spans_at plan time spans =
    let later = filled (after_pass spans) in
    if time % plan.cycle == 0 then appended plan.spans later else later

-- the jobs at this time, with those of one more cycle where a cycle ends
abbrev pub jobs_at : PlanParts → ℕ → List Job → List Job
jobs_at plan time jobs =
    if time % plan.cycle == 0 then jobs ++ jobs_in_cycle plan (time / plan.cycle + 2) else jobs

-- one more cycle of the plan finds room, and its jobs have keys of their own
pub record HasPlaces (plan : PlanParts) (n : ℕ) (rows : List Span) (queue : List Job)
    (places capacity : ℕ) : Type 0 where
  pub spans : length rows + length plan.spans ≤ places
  pub near : last_end 0 rows + last_end 0 plan.spans ≤ 2 ^ 60
  pub jobs : length queue + length plan.jobs ≤ capacity
  pub apart : AreApart (queue ++ jobs_in_cycle plan n)
