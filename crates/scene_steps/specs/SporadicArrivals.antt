-- What a sporadic arrival is answered, and what it adds.
use Rattle.std.specs.Prelude.{ℕ, ◌+◌, Bool, List, [], ◌∷◌, ◌++◌, nat_lt, slice_index, slice_set, if◌then◌else◌}
use Rattle.slot_core.specs.declared.jobs.Job.{Job}
use Rattle.slot_core.specs.declared.jobs.Span.{Span}
use Rattle.slot_core.specs.declared.tasks.Sporadic.{Sporadic}
use Rattle.slot_core.specs.declared.events.Spo.{Spo}
use Rattle.slot_core.specs.declared.events.Spo.TheVariants.{Soon, Taken}
use Rattle.slot_core.specs.Runs.Answers.{relative_deadline}
use Rattle.scene_steps.specs.Joins.{spans_with_job}
use Rattle.scene_steps.specs.Steps.{separation_of}

-- at this time the sporadic task of this index may not come yet
abbrev pub is_too_soon : List ℕ → ℕ → ℕ → Bool
is_too_soon nexts time index = nat_lt time (slice_index nexts index)

-- the answer to its arrival: its next legal arrival where it is too soon, else its deadline
abbrev pub arrival_answer : List Sporadic → List ℕ → ℕ → ℕ → Spo
arrival_answer sporadics nexts time index =
    if is_too_soon nexts time index then Soon (slice_index nexts index)
    else Taken (time + relative_deadline sporadics index)

-- the next legal arrivals after it: where it is taken, its next one is a separation later
abbrev pub nexts_after : List Sporadic → List ℕ → ℕ → ℕ → List ℕ
nexts_after sporadics nexts time index =
    if is_too_soon nexts time index then nexts
    else slice_set nexts index (time + separation_of sporadics index)

-- the jobs after it, with the job of an arrival that is taken
abbrev pub jobs_after_arrival : Bool → Job → List Job → List Job
jobs_after_arrival soon job jobs = if soon then jobs else jobs ++ job ∷ []

-- the spans after it, with that job
abbrev pub spans_after_arrival : Bool → Job → List Span → List Span
spans_after_arrival soon job spans = if soon then spans else spans_with_job job spans
