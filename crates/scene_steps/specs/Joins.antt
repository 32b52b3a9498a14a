-- What a guaranteed job more asks of the spans and the jobs, and what it makes of the spans.
use Rattle.std.specs.Prelude.{◌≡◌, ℕ, ◌+◌, ◌-◌, ◌≤◌, ◌<◌, ◌^◌, false, List, [], ◌∷◌, ◌++◌, count_by, length, sum_by, IsSomeAnd}
use Rattle.slot_core.specs.declared.jobs.Job.{Job}
use Rattle.slot_core.specs.declared.jobs.Span.{Span}
use Rattle.slot_core.specs.Offline.Keys.{is_soft, same_key}
use Rattle.slot_core.specs.Runs.Scenes.{Scene, horizon}
use Rattle.spare_capacity.specs.Recurrence.{filled, last_end}
use Rattle.interval_row.specs.Changes.{cut, span_ending, with_more}

-- the spans with a job more: its deadline ends a span, and there its slots are due
abbrev pub spans_with_job : Job → List Span → List Span
spans_with_job job spans = filled (with_more job.dl job.left (filled (cut job.dl spans)))

-- a guaranteed job may join a scene: no remaining job has its key, it is due after now and by the
-- horizon, and all that is left fits the slots up to there with it
pub record MayJoin (cycle : ℕ) (scene : Scene) (job : Job) : Type 0 where
  pub guaranteed : is_soft job.key ≡ false
  pub fresh : count_by (λ (j : Job). same_key j.key job.key) scene.jobs ≡ 0
  pub after : scene.time < job.dl
  pub within : job.dl ≤ horizon cycle scene.time
  pub some : 1 ≤ job.left
  pub fits :
      sum_by (λ (j : Job). j.left) (scene.jobs ++ job ∷ []) ≤ horizon cycle scene.time - scene.time

-- spans and a queue have a place for a job: its deadline may end a span and be charged with its
-- slots, and the queue may take it
pub record HavePlace
    (job : Job) (time : ℕ) (spans : List Span) (limit : ℕ) (jobs : List Job) (capacity : ℕ) : Type 0
  where
    pub after : time < job.dl
    pub within : job.dl ≤ last_end time spans
    pub span : length spans < limit
    pub work :
        IsSomeAnd
        (span_ending job.dl (filled (cut job.dl spans)))
        (λ (s : Span). s.work + job.left ≤ 2 ^ 40)
    pub queue : length jobs < capacity
    pub fresh : count_by (λ (j : Job). same_key j.key job.key) jobs ≡ 0
    pub guaranteed : is_soft job.key ≡ false
    pub left : 1 ≤ job.left
