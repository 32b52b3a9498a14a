-- What jobs lack: slots that must come from before a time, since there are too few after it.
use Rattle.std.specs.Prelude.{ℕ, ◌+◌, ◌-◌, max, List, [], ◌∷◌}
use Rattle.slot_core.specs.declared.jobs.Job.{Job}

-- the most by which `due` slots and those left of the jobs up to one of them are more than the
-- slots from a time up to the deadline of that one, 0 where they never are
abbrev pub lack_beside : ℕ → ℕ → List Job → ℕ
lack_beside from due [] = 0
lack_beside from due (job ∷ jobs) =
    max (due + job.left - (job.dl - from)) (lack_beside from (due + job.left) jobs)

-- what jobs in deadline order lack from a time on
abbrev pub lack : ℕ → List Job → ℕ
lack from jobs = lack_beside from 0 jobs
