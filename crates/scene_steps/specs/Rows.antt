-- The spans of jobs between points.
use Rattle.std.specs.Prelude.{ℕ, List, All, Contains}
use Rattle.slot_core.specs.declared.jobs.Job.{Job}
use Rattle.slot_core.specs.declared.jobs.Span.{Span}
use Rattle.slot_core.specs.Runs.Rising.{last_point}
use Rattle.slot_core.specs.Runs.Spans.{spans_between}

-- the spans from a time on between points, up to the last of them
abbrev pub spans : List Job → ℕ → List ℕ → List Span
spans jobs t points = spans_between jobs (last_point t points) t points

-- each job is due at one of the points
abbrev pub AreDueAmong : List ℕ → List Job → Type 0
AreDueAmong points jobs = All (λ (j : Job). Contains points j.dl) jobs
