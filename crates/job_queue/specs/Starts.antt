-- The next start of a job that goes before another one.
use Rattle.std.specs.Prelude.{ℕ, ◌&&◌, min, Bool, true, List, filter, fold, nat_lt, Option, None, Some}
use Rattle.slot_core.specs.declared.jobs.Job.{Job}
use Rattle.slot_core.specs.Offline.Keys.{is_earlier}

-- by earliest deadline first the job goes before this one, where one is given
abbrev pub goes_before : Option Job → Job → Bool
goes_before None job = true
goes_before (Some other) job = is_earlier job other

-- the job starts after `now`, and goes before that one
abbrev pub starts_before : ℕ → Option Job → Job → Bool
starts_before now other job = nat_lt now job.est && goes_before other job

-- the sooner of a start, if there is one, and that of this job
abbrev pub sooner : Option ℕ → Job → Option ℕ
sooner None job = Some job.est
sooner (Some start) job = Some (min start job.est)

-- the first start after `now` of the jobs that go before that one, if one does
abbrev pub first_start : ℕ → Option Job → List Job → Option ℕ
first_start now other jobs = fold sooner None (filter (starts_before now other) jobs)

-- so it does, and it starts before `until`
abbrev pub starts_within : ℕ → ℕ → Option Job → Job → Bool
starts_within now until other job = nat_lt job.est until && starts_before now other job

-- the first start after `now` and before `until` of the jobs that go before that one, if one does
abbrev pub first_start_within : ℕ → ℕ → Option Job → List Job → Option ℕ
first_start_within now until other jobs =
    fold sooner None (filter (starts_within now until other) jobs)
