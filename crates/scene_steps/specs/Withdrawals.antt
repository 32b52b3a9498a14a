-- What a withdrawal frees, and what it leaves.
use Rattle.std.specs.Prelude.{ℕ, not, List, filter, find, Option}
use Rattle.std.specs.Option.{option_map_or}
use Rattle.slot_core.specs.declared.jobs.Key.TheVariants.{Firm as FirmKey}
use Rattle.slot_core.specs.declared.jobs.Job.{Job}
use Rattle.slot_core.specs.declared.jobs.Span.{Span}
use Rattle.slot_core.specs.declared.events.Gone.{Gone}
use Rattle.slot_core.specs.declared.events.Gone.TheVariants.{Freed, NoJob}
use Rattle.slot_core.specs.Offline.Keys.{same_key}
use Rattle.spare_capacity.specs.Recurrence.{filled}
use Rattle.interval_row.specs.Changes.{with_less}

-- the firm job of this row, where it remains
abbrev pub withdrawn_job : ℕ → List Job → Option Job
withdrawn_job firm jobs = find (λ (j : Job). same_key j.key (FirmKey firm)) jobs

-- the answer to its withdrawal: how many slots that frees
abbrev pub withdrawn : ℕ → List Job → Gone
withdrawn firm jobs = option_map_or (λ (j : Job). Freed j.left) (withdrawn_job firm jobs) NoJob

-- the jobs after it: all but that one
abbrev pub jobs_without : ℕ → List Job → List Job
jobs_without firm jobs = filter (λ (j : Job). not (same_key j.key (FirmKey firm))) jobs

-- the spans after it: what the job had left is due no more at its deadline
abbrev pub spans_without : ℕ → List Job → List Span → List Span
spans_without firm jobs spans =
    option_map_or
    (λ (j : Job). filled (with_less j.dl j.left spans))
    (withdrawn_job firm jobs)
    spans
